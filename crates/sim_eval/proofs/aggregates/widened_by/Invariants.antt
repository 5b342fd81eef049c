use Rattle.std.proofs.Common.{◌≡◌, drop}
use Rattle.sim_eval.specs.Aggregates as spec
use Rattle.sim_eval.proofs.aggregates.widened_by.Given as goal

abbrev pub invariant-loop-choice : goal.invariant-loop-choice
invariant-loop-choice l = spec.widened_by l.extent (drop l.choice-index l.choices) ≡ spec.widened_by l.fn.extent l.choices
