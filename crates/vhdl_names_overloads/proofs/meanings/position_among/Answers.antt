use Rattle.vhdl_names_overloads.proofs.Lists.{position_here, position_behind, position_nowhere}
use Rattle.vhdl_names_overloads.proofs.meanings.position_among.Goals as goal

pub returns-in-Some : goal.returns-in-Some
returns-in-Some c = position_here _ _ _ _ _ _ c.loop-segment-test.true c.segment-item.is c.loop-segment.invariant c.in-Some.ensures

pub loop-segment-preserved : goal.loop-segment-preserved
loop-segment-preserved c = position_behind _ _ _ _ _ c.loop-segment-test.true c.segment-item.is c.loop-segment.invariant c.in_default.ensures

pub returns : goal.returns
returns c = position_nowhere _ _ _ c.loop-segment-test.false c.loop-segment.invariant
