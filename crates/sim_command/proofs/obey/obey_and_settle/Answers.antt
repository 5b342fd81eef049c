use Rattle.sim_command.proofs.Top.{outcome}
use Rattle.sim_command.proofs.obey.obey_and_settle.Goals as goal

pub returns : goal.returns
returns g c = outcome _ c.obey-outcome.result c.settle.result _ (g.H.Host.seen c.obey-outcome.new.host) _ _ (g.H.Host.faults c.obey-outcome.new.host) _ c.obey-outcome.ensures.obeyed c.obey-outcome.ensures.cause c.settle.ensures
