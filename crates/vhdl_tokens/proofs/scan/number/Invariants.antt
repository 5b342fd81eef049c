use Rattle.std.proofs.Common.{drop}
use Rattle.vhdl_tokens.proofs.Numbers.{SoFar}
use Rattle.vhdl_tokens.proofs.scan.number.Given as goal

abbrev pub invariant-loop-d : goal.invariant-loop-d
invariant-loop-d l = SoFar l.digits l.n (drop l.d-index l.digits)
