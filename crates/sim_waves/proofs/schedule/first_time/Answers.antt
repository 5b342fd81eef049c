use Rattle.sim_waves.proofs.Pairs.{first_is}
use Rattle.sim_waves.proofs.schedule.first_time.Goals as goal

pub returns-in-Some : goal.returns-in-Some
returns-in-Some c = first_is c.args.order.now c.in-Some.field-0.now c.in-Some.ensures.member c.in-Some.ensures.least
