-- What is told so far, with what the rest tells, is what all tell.
use Rattle.std.proofs.Common.{◌≡◌, ◌++◌, map, drop}
use Rattle.vhdl_names_checker.specs.Telling.{name_here}
use Rattle.vhdl_names_checker.proofs.telling.names_here.Given as goal

abbrev pub invariant-loop-name : goal.invariant-loop-name
invariant-loop-name l = l.told ++ map (name_here l.text l.around) (drop l.name-index l.names) ≡ map (name_here l.text l.around) l.names
