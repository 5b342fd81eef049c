use Rattle.std.proofs.Common.{◌+◌, ◌≤◌, length}
use Rattle.vhdl_tokens.proofs.Pieces.{SoFar}
use Rattle.vhdl_tokens.proofs.reading.read.Given as goal

abbrev pub invariant-pieces : goal.invariant-pieces
invariant-pieces l = SoFar l.text l.tokens.items l.place l.line l.after_name l.rest × (l.line ≤ 1 + l.place)

abbrev pub decreases-pieces : goal.decreases-pieces
decreases-pieces l = length l.rest
