use Rattle.sim_waves.proofs.Marks.{marked_at}
use Rattle.sim_waves.proofs.edits.unmarked_range.Goals as goal

pub returns-clause-marked : goal.returns-clause-marked
returns-clause-marked c =
    λ ns. marked_at c.args.limit c.args.pending.now c.count_earlier-from.result c.run_before.result c.split_at.result.1.now c.args.first ns
    c.split_at.ensures.back c.count_earlier-from.ensures.before c.count_earlier-from.ensures.after c.run_before.ensures.within c.run_before.ensures.equal c.run_before.ensures.stop
