use Rattle.std.proofs.Common.{drop}
use Rattle.vhpi_values.specs.Reading.{places}
use Rattle.vhpi_values.proofs.Groups.{GroupSoFar}
use Rattle.vhpi_values.proofs.reading.read_group.Given as goal

abbrev pub invariant-loop-character : goal.invariant-loop-character
invariant-loop-character l =
    GroupSoFar l.ty l.elements.items l.left (drop l.character-index l.group) (places l.ty l.filled l.group)
