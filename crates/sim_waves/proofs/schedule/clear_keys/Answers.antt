use Rattle.std.specs.BTreeSet.{contains}
use Rattle.sim_waves.specs.Calendar.{pair_cmp}
use Rattle.sim_waves.proofs.Keys.{cleared, cleared_end, cleared_all}
use Rattle.sim_waves.proofs.schedule.clear_keys.Goals as goal

pub loop-from-preserved : goal.loop-from-preserved
loop-from-preserved c = cleared c.loop-from.times c.args.times.now (contains pair_cmp c.loop-from.order) (contains pair_cmp c.forget.new.order) c.args.now c.loop-from.from c.in-Some.key c.loop-from.invariant c.in-Some.ensures c.forget.ensures

pub returns-after-loop-from-clause-left : goal.returns-after-loop-from-clause-left
returns-after-loop-from-clause-left c = cleared_all c.loop-from.times c.args.times.now c.args.now c.loop-from.from c.loop-from-test.false c.loop-from.invariant.2 c.loop-from.invariant.1

pub returns-in_default-clause-left : goal.returns-in_default-clause-left
returns-in_default-clause-left c = cleared_end c.loop-from.times c.args.times.now (contains pair_cmp c.loop-from.order) c.args.now c.loop-from.from c.loop-from.invariant.0 c.in_default.ensures c.loop-from.invariant.2 c.loop-from.invariant.1
