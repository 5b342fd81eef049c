use Rattle.std.proofs.Common.{◌∙◌, ap, ◌++◌, ◌∷◌, []}
use Rattle.vhdl_names_overloads.proofs.Lists.{shared_more}
use Rattle.vhdl_names_overloads.proofs.meanings.share_behind.Goals as goal

pub loop-segment-preserved : goal.loop-segment-preserved
loop-segment-preserved c =
    shared_more c.loop-segment.segments.items c.args.more.now c.args.segments.now.items _ c.loop-segment.segment-index c.segment-item.result _ c.loop-segment-test.true c.segment-item.is
    (c.in_ok-push.ensures.items ∙ ap (λ x. c.loop-segment.segments.items ++ x ∷ []) c.in_ok-share.ensures) c.loop-segment.invariant
