use Rattle.std.proofs.Common.{◌≡◌, ◌-◌, ◌<◌, length, map, ℕ, false}
use Rattle.std.specs.BTreeSet.{contains}
use Rattle.sim_waves.specs.Calendar.{pair_cmp, InStep, is_at, time_of, left_at}
use Rattle.sim_waves.proofs.schedule.clear_keys.Given as goal

abbrev pub invariant-loop-from : goal.invariant-loop-from
invariant-loop-from l = InStep l.times (contains pair_cmp l.order) × (map (left_at l.now) l.times ≡ map (left_at l.now) l.initial.times) × ((k : ℕ) → k < l.from → is_at l.now (time_of l.times k) ≡ false)

abbrev pub decreases-loop-from : goal.decreases-loop-from
decreases-loop-from l = length l.initial.times - l.from
