-- What is told so far, with what the rest tells, is what all tell.
use Rattle.std.proofs.Common.{◌≡◌, ◌++◌, map, drop}
use Rattle.vhdl_names_checker.specs.Telling.{alternative_condition}
use Rattle.vhdl_names_checker.proofs.telling.all_conditions.Given as goal

abbrev pub invariant-loop-alternative : goal.invariant-loop-alternative
invariant-loop-alternative l = l.told ++ map (alternative_condition l.text l.around) (drop l.alternative-index l.alternatives) ≡ map (alternative_condition l.text l.around) l.alternatives
