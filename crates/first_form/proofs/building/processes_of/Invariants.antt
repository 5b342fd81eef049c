use Rattle.first_form.proofs.Targets.{AreSoFar}
use Rattle.first_form.proofs.building.processes_of.Given as goal

abbrev pub invariant-loop-assignment : goal.invariant-loop-assignment
invariant-loop-assignment l = AreSoFar l.signals l.assignments l.processes l.assigned.items l.assignment-index
