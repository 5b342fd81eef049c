use Rattle.std.proofs.Common.{◌≡◌, length}
use Rattle.vhdl_tokens.specs.Spelling.{is_spaced}
use Rattle.vhdl_tokens.proofs.scan.is_spaced.Given as goal

abbrev pub invariant-bytes : goal.invariant-bytes
invariant-bytes l = is_spaced l.class l.rest ≡ is_spaced l.class l.fn.bytes

abbrev pub decreases-bytes : goal.decreases-bytes
decreases-bytes l = length l.rest
