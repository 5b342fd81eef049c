use Rattle.std.proofs.Common.{Err, subst}
use Rattle.sim_session.specs.Text.{FirstForm, IsRead}
use Rattle.vhpi_kernel.specs.Simulation.{Simulation}
use Rattle.sim_session.specs.Turn.{RunsFrom}
use Rattle.sim_session.proofs.Turns.{session_runs, session_refuses}
use Rattle.sim_session.proofs.running.run_session.Goals as goal

pub returns-in_err-design-clause-runs : goal.returns-in_err-design-clause-runs
returns-in_err-design-clause-runs g c =
    session_refuses _ c.in_err-design.field-0.0 c.args.job.text.items c.args.job.limit _ c.from_residual.ensures.1 (subst (IsRead (Err c.in_err-design.field-0.0)) c.as_slice.ensures.value c.in_err-design.ensures.read)

pub returns-clause-runs : goal.returns-clause-runs
returns-clause-runs g c =
    let read : FirstForm c.args.job.text.items c.in_ok-design.design = rw c.as_slice.ensures.value at c.in_ok-design.ensures.read in
    session_runs c.run.result c.args.job.text.items c.args.job.limit c.in_ok-design.design _ _ read
    (subst (λ (w : Simulation). RunsFrom c.run.result w.design w.plan (g.H.Host.seen c.args.host.now) (g.H.Host.seen c.run.new.host)) c.in_ok-kernel.ensures c.run.ensures.runs)
