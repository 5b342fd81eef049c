use Rattle.vhdl_names_overloads.proofs.Together.{apart_more, apart_all}
use Rattle.vhdl_names_overloads.proofs.shared.are_apart.Goals as goal

pub loop-other-preserved : goal.loop-other-preserved
loop-other-preserved c = apart_more c.args.block _ _ _ _ c.loop-other-test.true c.other-item.is (c.are_apart.ensures c.if-not-are_apart.false) c.loop-other.invariant

pub returns : goal.returns
returns c = λ h. apart_all c.args.block _ _ c.loop-other-test.false c.loop-other.invariant
