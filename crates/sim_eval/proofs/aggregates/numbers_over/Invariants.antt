use Rattle.std.proofs.Common.{◌≡◌}
use Rattle.sim_eval.specs.Aggregates as spec
use Rattle.sim_eval.proofs.aggregates.numbers_over.Given as goal

abbrev pub invariant-loop-place : goal.invariant-loop-place
invariant-loop-place l = l.numbers.items ≡ spec.numbers_over l.place l.run l.elements
