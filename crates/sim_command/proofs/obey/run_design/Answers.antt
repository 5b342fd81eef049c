use Rattle.sim_command.proofs.Top.{read_cut, session_cut}
use Rattle.sim_command.proofs.obey.run_design.Goals as goal

pub returns-in-Err-run_session-clause-ran : goal.returns-in-Err-run_session-clause-ran
returns-in-Err-run_session-clause-ran g c =
    rw c.fault_of_session.ensures (session_cut c.in-Err-run_session.fault c.args.design.now c.in-Ok.text.items c.args.limit _ (g.H.Host.seen c.read_all.new.host) _ c.in-Ok.ensures.whole c.in-Ok.ensures.only c.in-Err-run_session.ensures.runs)

pub returns-in-Err-clause-ran : goal.returns-in-Err-clause-ran
returns-in-Err-clause-ran g c =
    rw c.fault_of_read.ensures (read_cut c.in-Err.error c.args.design.now c.args.limit _ (g.H.Host.seen c.read_all.new.host) c.in-Err.ensures.stopped)
