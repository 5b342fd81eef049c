use Rattle.std.proofs.Common.{◌+◌, length}
use Rattle.vhdl_tokens.specs.Scan.{text_end}
use Rattle.vhdl_tokens.proofs.Lengths.{SoFar}
use Rattle.vhdl_tokens.proofs.scan.text_end.Given as goal

abbrev pub invariant-bytes : goal.invariant-bytes
invariant-bytes l = SoFar (text_end l.len l.rest) (text_end 1 l.fn.bytes) (l.len + length l.rest) (1 + length l.fn.bytes)

abbrev pub decreases-bytes : goal.decreases-bytes
decreases-bytes l = length l.rest
