use Rattle.first_form.specs.Reading.{statement_in}
use Rattle.first_form.proofs.Each.{IsEachSoFar}
use Rattle.first_form.proofs.reading.assignments_in.Given as goal

abbrev pub invariant-loop-statement : goal.invariant-loop-statement
invariant-loop-statement l = IsEachSoFar (statement_in l.text) l.statements l.assignments l.statement-index
