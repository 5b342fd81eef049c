use Rattle.std.proofs.Common.{◌≡◌, ℤ, List, [], ◌∷◌, fold, map, refl}
use Rattle.sim_logic.specs.declared.Logic9.{Logic9}
use Rattle.sim_logic.specs.declared.Logic9.TheVariants.{Z}
use Rattle.sim_logic.specs.Logic.{resolution}
use Rattle.sim_nets.specs.declared.resolving.Sources.TheVariants as sources
use Rattle.sim_nets.specs.Resolving.{value_of, value_in, add_sources, logic_of, position_of}

folded : (default : ℤ) (so_far : Logic9) (xs : List ℤ) → value_in default (add_sources (sources.Folded so_far) xs) ≡ position_of (fold resolution so_far (map logic_of xs))
folded default so_far [] = refl
folded default so_far (x ∷ xs) = folded default (resolution so_far (logic_of x)) xs

-- the walk along the sources gives the value of the element
pub walked : (default : ℤ) (xs : List ℤ) → value_in default (add_sources sources.None xs) ≡ value_of default xs
walked default [] = refl
walked default (x ∷ []) = refl
walked default (x ∷ y ∷ xs) = folded default (resolution (resolution Z (logic_of x)) (logic_of y)) xs
