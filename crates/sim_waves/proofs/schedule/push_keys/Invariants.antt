use Rattle.std.proofs.Common.{◌≡◌, ◌++◌, ◌-◌, length, drop, List, ℕ}
use Rattle.sim_waves.specs.Calendar.{keys_at}
use Rattle.sim_waves.proofs.schedule.push_keys.Given as goal

abbrev pub invariant-loop-from : goal.invariant-loop-from
invariant-loop-from l = (l.into.items ++ keys_at l.now l.from (drop l.from l.times) ≡ l.initial.into.items ++ keys_at l.now 0 l.times) × ((more : List ℕ) × (l.into.items ≡ l.initial.into.items ++ more))

abbrev pub decreases-loop-from : goal.decreases-loop-from
decreases-loop-from l = length l.times - l.from
