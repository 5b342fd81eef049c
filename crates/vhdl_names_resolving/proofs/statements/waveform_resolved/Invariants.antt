-- What is found so far, with what the rest gives, is what all give.
use Rattle.std.proofs.Common.{◌≡◌, ◌++◌, map, drop}
use Rattle.vhdl_names_resolving.specs.Statements.{element_resolved}
use Rattle.vhdl_names_resolving.proofs.statements.waveform_resolved.Given as goal

abbrev pub invariant-loop-element : goal.invariant-loop-element
invariant-loop-element l = l.waveform ++ map (element_resolved l.text l.around l.base) (drop l.element-index l.elements) ≡ map (element_resolved l.text l.around l.base) l.elements
