use Rattle.first_form.proofs.Waves.{IsWaveSoFar}
use Rattle.first_form.proofs.building.waveform_from.Given as goal

abbrev pub invariant-loop-element : goal.invariant-loop-element
invariant-loop-element l = IsWaveSoFar l.first l.more l.waveform l.last l.element-index
