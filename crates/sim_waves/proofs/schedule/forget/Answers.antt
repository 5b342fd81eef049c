use Rattle.std.proofs.Common.{false}
use Rattle.sim_waves.proofs.Pairs.{one_more}
use Rattle.sim_waves.proofs.schedule.forget.Goals as goal

pub returns-in-Some : goal.returns-in-Some
returns-in-Some c = λ t k. rw c.in-Some.is (one_more c.in-Some.time c.args.key t k _ _ false (c.remove.ensures.updates.0 (t, k)))
