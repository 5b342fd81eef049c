-- In two lists no name breaks a rule where in neither one does.
use Rattle.std.proofs.Common.{◌≡◌, List, [], ◌∷◌, ◌++◌, refl, arith}
use Rattle.std.specs.Prelude.{◌&&◌}
use Rattle.vhdl_units.specs.declared.fault.Fault.{Fault}
use Rattle.vhdl_names_typing.specs.Faults.{is_known}

pub known_both : (xs ys : List Fault) → is_known (xs ++ ys) ≡ (is_known xs && is_known ys)
unfolding is_known
known_both [] ys = refl
known_both (x ∷ xs) ys = grind arith
