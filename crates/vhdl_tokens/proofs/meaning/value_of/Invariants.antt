use Rattle.std.proofs.Common.{◌≡◌, [], length}
use Rattle.vhdl_tokens.specs.Values.{value_from}
use Rattle.vhdl_tokens.proofs.meaning.value_of.Given as goal

abbrev pub invariant-bytes : goal.invariant-bytes
invariant-bytes l = value_from l.value.items l.rest ≡ value_from [] l.fn.behind

abbrev pub decreases-bytes : goal.decreases-bytes
decreases-bytes l = length l.rest
