use Rattle.vhdl_names_overloads.proofs.Together.{segment_more, segments_all}
use Rattle.vhdl_names_overloads.proofs.shared.shared_literals.Goals as goal

pub loop-segment-preserved : goal.loop-segment-preserved
loop-segment-preserved c = segment_more _ _ _ _ _ _ _ _ c.loop-segment-test.true c.segment-item.is c.with_segment-shared.ensures c.loop-segment.invariant

pub returns : goal.returns
returns c = segments_all _ _ _ _ _ c.loop-segment-test.false c.loop-segment.invariant
