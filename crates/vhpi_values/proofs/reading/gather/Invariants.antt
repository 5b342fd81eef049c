use Rattle.std.proofs.Common.{◌≡◌, ◌-◌, ◌≤◌, map, drop, vec_len}
use Rattle.vhpi_values.specs.Reading.{single, gathered}
use Rattle.vhpi_values.proofs.Gathering.{SoFar}
use Rattle.vhpi_values.proofs.reading.gather.Given as goal

abbrev pub invariant-loop-member : goal.invariant-loop-member
invariant-loop-member l =
    (vec_len l.elements ≡ l.member-index) × (l.member-index ≤ l.wanted) × SoFar l.elements.items l.member-index (l.wanted - l.member-index) (map single (drop l.member-index l.members)) (gathered l.wanted (map single l.members))
