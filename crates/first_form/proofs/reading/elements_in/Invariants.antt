use Rattle.first_form.specs.Reading.{element_in}
use Rattle.first_form.proofs.Each.{IsEachSoFar}
use Rattle.first_form.proofs.reading.elements_in.Given as goal

abbrev pub invariant-loop-element : goal.invariant-loop-element
invariant-loop-element l = IsEachSoFar (element_in l.text) l.waveform l.elements l.element-index
