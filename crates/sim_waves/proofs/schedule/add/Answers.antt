use Rattle.std.proofs.Common.{true}
use Rattle.sim_waves.proofs.Pairs.{one_more}
use Rattle.sim_waves.proofs.schedule.add.Goals as goal

pub returns-in_ok-insert-clause-ok : goal.returns-in_ok-insert-clause-ok
returns-in_ok-insert-clause-ok c = λ t k. rw c.in-Some.is (one_more c.in-Some.time c.args.key t k _ _ true (c.in_ok-insert.ensures.updates.0 (t, k)))
