-- What is found so far, with what the rest gives, is what all give.
use Rattle.std.proofs.Common.{◌≡◌, ◌++◌, map, drop}
use Rattle.vhdl_names_resolving.specs.Values.{choice_here}
use Rattle.vhdl_names_resolving.proofs.values.choices_here.Given as goal

abbrev pub invariant-loop-choice : goal.invariant-loop-choice
invariant-loop-choice l = l.values ++ map (choice_here l.text l.around l.base) (drop l.choice-index l.choices) ≡ map (choice_here l.text l.around l.base) l.choices
