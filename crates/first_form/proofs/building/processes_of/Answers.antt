use Rattle.std.proofs.Common.{arith, sym}
use Rattle.std.proofs.lemmas.Bool.{not-true, not-false}
use Rattle.first_form.proofs.Targets.{made, turns, clashes}
use Rattle.first_form.proofs.building.processes_of.Goals as goal

pub mark-requires : goal.mark-requires
mark-requires c =
    let m = made c.args.signals.now c.assignment-item.result c.in-Ok.process _ (c.requires _) c.in-Ok.ensures in
    omega (arith, m.within, c.loop-assignment.invariant.room, c.loop-assignment.assigned.ok)

pub returns-then-not-mark : goal.returns-then-not-mark
returns-then-not-mark c =
    let m = made c.args.signals.now c.assignment-item.result c.in-Ok.process _ (c.requires _) c.in-Ok.ensures in
    clashes _ _ _ _ _ _ _ c.loop-assignment.invariant c.loop-assignment-test.true c.assignment-item.is m (not-false _ (sym c.if-not-mark.ensures.first))

pub loop-assignment-preserved : goal.loop-assignment-preserved
loop-assignment-preserved c =
    let m = made c.args.signals.now c.assignment-item.result c.in-Ok.process _ (c.requires _) c.in-Ok.ensures in
    turns _ _ _ _ _ _ _ _ _ c.loop-assignment.invariant c.loop-assignment-test.true c.assignment-item.is m (not-true _ (sym c.if-not-mark.ensures.first)) c.in_ok-push.ensures.ok c.mark.ensures.marked
