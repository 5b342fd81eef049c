use Rattle.std.proofs.Common.{◌≡◌, drop}
use Rattle.sim_eval.specs.Aggregates as spec
use Rattle.sim_eval.proofs.aggregates.other_number.Given as goal

abbrev pub invariant-loop-element : goal.invariant-loop-element
invariant-loop-element l = spec.other_number (drop l.element-index l.elements) ≡ spec.other_number l.elements
