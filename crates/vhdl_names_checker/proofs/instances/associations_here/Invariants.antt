-- What is told so far, with what the rest tells, is what all tell.
use Rattle.std.proofs.Common.{◌≡◌, ◌++◌, map, drop}
use Rattle.vhdl_names_checker.specs.Telling.{association_here}
use Rattle.vhdl_names_checker.proofs.instances.associations_here.Given as goal

abbrev pub invariant-loop-association : goal.invariant-loop-association
invariant-loop-association l =
    l.told ++ map (association_here l.text l.around l.of_generics l.formals) (drop l.association-index l.associations) ≡ map (association_here l.text l.around l.of_generics l.formals) l.associations
