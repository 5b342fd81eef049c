use Rattle.std.proofs.Common.{◌+◌, length}
use Rattle.vhdl_tokens.specs.Scan.{block_end}
use Rattle.vhdl_tokens.proofs.Lengths.{SoFar}
use Rattle.vhdl_tokens.proofs.scan.block_end.Given as goal

abbrev pub invariant-bytes : goal.invariant-bytes
invariant-bytes l = SoFar (block_end l.len l.rest) (block_end 2 l.fn.bytes) (l.len + length l.rest) (2 + length l.fn.bytes)

abbrev pub decreases-bytes : goal.decreases-bytes
decreases-bytes l = length l.rest
