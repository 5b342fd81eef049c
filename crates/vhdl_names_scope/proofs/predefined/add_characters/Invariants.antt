use Rattle.std.proofs.Common.{◌≡◌, ◌++◌}
use Rattle.vhdl_names_scope.specs.Standard.{characters_to}
use Rattle.vhdl_names_scope.proofs.predefined.add_characters.Given as goal

abbrev pub invariant-loop-count : goal.invariant-loop-count
invariant-loop-count l = l.region ≡ l.initial.region ++ characters_to l.count
