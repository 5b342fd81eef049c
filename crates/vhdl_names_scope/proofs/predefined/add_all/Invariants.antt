use Rattle.std.proofs.Common.{◌≡◌, ◌++◌, drop}
use Rattle.std.specs.Prelude.{map}
use Rattle.vhdl_names_scope.specs.Standard.{named}
use Rattle.vhdl_names_scope.proofs.predefined.add_all.Given as goal

abbrev pub invariant-loop-predefined : goal.invariant-loop-predefined
invariant-loop-predefined l = l.region ++ map named (drop l.predefined-index l.all) ≡ l.initial.region ++ map named l.all
