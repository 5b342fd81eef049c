use Rattle.std.proofs.Common.{◌≡◌, ◌++◌, length, reverse}
use Rattle.std.specs.List.{flat_map}
use Rattle.vhdl_names_rules.specs.Cases.{choice_faults}
use Rattle.vhdl_names_rules.proofs.cases.choices_faults.Given as goal

abbrev pub invariant-loop-choice : goal.invariant-loop-choice
invariant-loop-choice l = l.faults ++ flat_map (choice_faults l.fn.base l.fn.alone) (reverse l.rest) ≡ flat_map (choice_faults l.fn.base l.fn.alone) l.fn.choices

abbrev pub decreases-loop-choice : goal.decreases-loop-choice
decreases-loop-choice l = length l.rest
