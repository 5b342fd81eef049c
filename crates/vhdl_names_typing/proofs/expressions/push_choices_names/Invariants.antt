use Rattle.std.proofs.Common.{◌≡◌, ◌++◌, drop}
use Rattle.std.specs.List.{flat_map}
use Rattle.vhdl_names_typing.specs.Expressions.{choice_names}
use Rattle.vhdl_names_typing.proofs.expressions.push_choices_names.Given as goal

abbrev pub invariant-loop-choice : goal.invariant-loop-choice
invariant-loop-choice l = l.faults ++ flat_map choice_names (drop l.choice-index l.choices) ≡ l.initial.faults ++ flat_map choice_names l.choices
