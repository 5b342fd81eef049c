use Rattle.std.proofs.Common.{arith, ◌-◌}
use Rattle.sim_waves.proofs.Marks.{before_found}
use Rattle.sim_waves.proofs.edits.count_earlier.Goals as goal

pub returns-else-pending-count-clause-before : goal.returns-else-pending-count-clause-before
returns-else-pending-count-clause-before c =
    before_found c.args.time c.args.pending.now c.loop-count.count (c.loop-count.count - 1) _ (omega arith) c.loop-count.invariant.0 c.requires c.if-pending-count.false
