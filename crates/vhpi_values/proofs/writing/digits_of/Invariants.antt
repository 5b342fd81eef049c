use Rattle.std.proofs.Common.{◌≡◌, ◌++◌, length}
use Rattle.vhpi_values.specs.Formats.{hex_digits}
use Rattle.vhpi_values.proofs.writing.digits_of.Given as goal

abbrev pub invariant-loop-rest : goal.invariant-loop-rest
invariant-loop-rest l = l.digits.items ++ hex_digits l.rest ≡ hex_digits l.characters

abbrev pub decreases-loop-rest : goal.decreases-loop-rest
decreases-loop-rest l = length l.rest
