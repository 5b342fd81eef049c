-- What is told so far, with what the rest tells, is what all tell.
use Rattle.std.proofs.Common.{◌≡◌, ◌++◌, map, drop}
use Rattle.vhdl_names_checker.specs.Telling.{element_here}
use Rattle.vhdl_names_checker.proofs.telling.elements.Given as goal

abbrev pub invariant-loop-element : goal.invariant-loop-element
invariant-loop-element l = l.told ++ map (element_here l.text l.around) (drop l.element-index l.waveform) ≡ map (element_here l.text l.around) l.waveform
