use Rattle.std.proofs.Common.{◌≡◌, drop, None}
use Rattle.sim_eval.specs.Aggregates as spec
use Rattle.sim_eval.proofs.aggregates.extent_of.Given as goal

abbrev pub invariant-loop-element : goal.invariant-loop-element
invariant-loop-element l = spec.extent_by l.extent (drop l.element-index l.elements) ≡ spec.extent_by None l.elements
