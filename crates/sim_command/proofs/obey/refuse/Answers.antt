use Rattle.std.proofs.Common.{subst, ◌∙◌}
use Rattle.sim_command.specs.Outcome.{Finishes}
use Rattle.sim_command.specs.declared.Status.TheVariants as status
use Rattle.sim_command.proofs.obey.refuse.Goals as goal

pub returns-in-Ok : goal.returns-in-Ok
returns-in-Ok g c =
    subst (λ line. Finishes line status.Refused c.finish.result (g.H.Host.seen c.args.host.now) (g.H.Host.seen c.finish.new.host) (g.H.Host.faults c.args.host.now) (g.H.Host.faults c.finish.new.host))
    (c.as_slice.ensures.value ∙ c.in-Ok.ensures) c.finish.ensures
