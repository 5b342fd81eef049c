use Rattle.std.proofs.Common.{refl, ◌∙◌}
use Rattle.vhpi_kernel.specs.declared.Step.TheVariants as steps
use Rattle.sim_session.specs.Turn.{Turned}
use Rattle.sim_session.proofs.Turns.{begins, goes_on, all_written, runs_cut}
use Rattle.sim_session.proofs.running.run.Goals as goal

pub sections-init : goal.sections-init
sections-init g c = (begins c.args.kernel.now _ c.requires, refl)

pub sections-preserved : goal.sections-preserved
sections-preserved g c = (
  goes_on _ _ c.in-Ok-CycleEnd.field-0 c.sections.kernel c.turn.new.kernel _ _ _ c.sections.invariant.0 c.in-Ok-CycleEnd.ensures.turns,
  c.in-Ok-CycleEnd.ensures.cause.ok ∙ c.sections.invariant.1,
)

pub returns-in-Ok-Ended-clause-runs : goal.returns-in-Ok-Ended-clause-runs
returns-in-Ok-Ended-clause-runs g c =
    let t : Turned (steps.Ended c.in-Ok-Ended.end) c.sections.kernel c.turn.new.kernel (g.H.Host.seen c.sections.host) (g.H.Host.seen c.turn.new.host) = rw c.in-Ok-Ended.field-0-is at c.in-Ok-Ended.ensures.turns in
    all_written _ _ c.turn.new.kernel c.in-Ok-Ended.end _ _ (goes_on _ _ (steps.Ended c.in-Ok-Ended.end) c.sections.kernel c.turn.new.kernel _ _ _ c.sections.invariant.0 t) t.after

pub returns-in-Err-clause-runs : goal.returns-in-Err-clause-runs
returns-in-Err-clause-runs g c = runs_cut c.in-Err.fault _ _ c.sections.kernel c.turn.new.kernel _ _ _ c.sections.invariant.0 c.in-Err.ensures.turns
