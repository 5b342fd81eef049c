-- What is told so far, with what the rest tells, is what all tell.
use Rattle.std.proofs.Common.{◌≡◌, ◌++◌, drop}
use Rattle.std.specs.List.{flat_map}
use Rattle.vhdl_names_checker.specs.Telling.{alternative_elements}
use Rattle.vhdl_names_checker.proofs.telling.all_alternatives.Given as goal

abbrev pub invariant-loop-alternative : goal.invariant-loop-alternative
invariant-loop-alternative l = l.told ++ flat_map (alternative_elements l.text l.around) (drop l.alternative-index l.alternatives) ≡ flat_map (alternative_elements l.text l.around) l.alternatives
