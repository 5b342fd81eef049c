use Rattle.std.proofs.Common.{length}
use Rattle.vhdl_names_rules.specs.Associations.{map_faults}
use Rattle.vhdl_names_rules.proofs.Taking.{SoFar}
use Rattle.vhdl_names_rules.proofs.associations.map_faults.Given as goal

abbrev pub invariant-loop-association : goal.invariant-loop-association
invariant-loop-association l = SoFar l.fn.formals l.taken l.faults l.rest (map_faults l.fn.formals l.fn.associations)

abbrev pub decreases-loop-association : goal.decreases-loop-association
decreases-loop-association l = length l.rest
