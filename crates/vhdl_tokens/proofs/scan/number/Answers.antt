use Rattle.vhdl_tokens.proofs.Numbers.{too_large}
use Rattle.vhdl_tokens.proofs.scan.number.Goals as goal

pub returns-in-None : goal.returns-in-None
returns-in-None c = too_large c.args.digits.now c.loop-d.n c.loop-d.d-index c.loop-d.invariant c.loop-d-test.true c.in-None.ensures
