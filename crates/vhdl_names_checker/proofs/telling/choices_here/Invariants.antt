-- What is told so far, with what the rest tells, is what all tell.
use Rattle.std.proofs.Common.{◌≡◌, ◌++◌, map, drop}
use Rattle.vhdl_names_checker.specs.Telling.{choice_here}
use Rattle.vhdl_names_checker.proofs.telling.choices_here.Given as goal

abbrev pub invariant-loop-choice : goal.invariant-loop-choice
invariant-loop-choice l = l.told ++ map (choice_here l.text l.around) (drop l.choice-index l.choices) ≡ map (choice_here l.text l.around) l.choices
