use Rattle.std.proofs.Common.{◌≡◌, ◌++◌, length, reverse}
use Rattle.std.specs.List.{flat_map}
use Rattle.vhdl_names_rules.specs.Statements.{element_faults}
use Rattle.vhdl_names_rules.proofs.statements.waveform_faults.Given as goal

abbrev pub invariant-loop-element : goal.invariant-loop-element
invariant-loop-element l = l.faults ++ flat_map (element_faults l.fn.base l.fn.is_static) (reverse l.rest) ≡ flat_map (element_faults l.fn.base l.fn.is_static) l.fn.elements

abbrev pub decreases-loop-element : goal.decreases-loop-element
decreases-loop-element l = length l.rest
