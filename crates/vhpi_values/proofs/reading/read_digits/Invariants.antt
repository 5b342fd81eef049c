use Rattle.std.proofs.Common.{◌-◌, ◌≤◌, drop}
use Rattle.vhpi_values.specs.Types.{element_count}
use Rattle.vhpi_values.specs.Formats.{filling}
use Rattle.vhpi_values.specs.Reading.{digits, gathered}
use Rattle.vhpi_values.proofs.Gathering.{SoFar}
use Rattle.vhpi_values.proofs.reading.read_digits.Given as goal

abbrev pub invariant-loop-place : goal.invariant-loop-place
invariant-loop-place l =
    (l.place ≤ l.wanted) × SoFar l.elements.items l.place (l.wanted - l.place) (digits l.ty l.filled (drop l.place l.text)) (gathered l.wanted (digits l.ty (filling (element_count l.ty)) l.text))
