use Rattle.std.proofs.Common.{◌≡◌, drop}
use Rattle.sim_eval.specs.Aggregates as spec
use Rattle.sim_eval.proofs.aggregates.number_or.Given as goal

abbrev pub invariant-loop-element : goal.invariant-loop-element
invariant-loop-element l = spec.number_or l.other l.number (drop l.element-index l.elements) ≡ spec.number_or l.other l.number l.elements
