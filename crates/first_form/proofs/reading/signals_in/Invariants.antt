use Rattle.first_form.specs.Reading.{signal_in}
use Rattle.first_form.proofs.Each.{IsEachSoFar}
use Rattle.first_form.proofs.reading.signals_in.Given as goal

abbrev pub invariant-loop-declaration : goal.invariant-loop-declaration
invariant-loop-declaration l = IsEachSoFar (signal_in l.text) l.declarations l.signals l.declaration-index
