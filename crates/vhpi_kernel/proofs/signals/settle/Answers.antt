use Rattle.std.proofs.Common.{refl}
use Rattle.vhpi_kernel.specs.Index.{updated_value_by}
use Rattle.vhpi_kernel.proofs.Tables.{settle_step, settled_within}
use Rattle.vhpi_kernel.proofs.signals.settle.Goals as goal

pub note_event-requires-clause-new : goal.note_event-requires-clause-new
note_event-requires-clause-new c = settled_within _ c.loop-net.net c.loop-net.values.items c.push_updated.new.values.items c.as_slice.result.now _ c.loop-net.invariant.0 c.in_ok-push_updated.ensures c.as_slice.ensures.value

pub loop-net-preserved : goal.loop-net-preserved
loop-net-preserved c =
    settle_step (updated_value_by c.args.index.now c.args.active.now c.args.waves.now c.args.old.now) c.loop-net.net c.args.old.now c.loop-net.values.items c.push_updated.new.values.items c.as_slice.result.now c.args.journal.now.items c.loop-net.journal.items c.note_event.new.journal.items _
    c.loop-net.invariant.0 c.loop-net.invariant.1 refl c.in_ok-push_updated.ensures c.as_slice.ensures.value c.in_ok-note_event.ensures
