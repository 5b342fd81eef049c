-- Laws and worked values.
use Rattle.std.specs.Prelude.{◌≡◌, ℤ, pos, List, [], ◌∷◌}
use Rattle.sim_nets.specs.declared.resolving.Sources.TheVariants as sources
use Rattle.sim_nets.specs.Resolving.{value_of, value_in, add_sources}

-- the walk along the sources of an element gives its value
abbrev pub WalkGivesValue : Type 0
WalkGivesValue = (default : ℤ) (values : List ℤ) → value_in default (add_sources sources.None values) ≡ value_of default values

-- no source leaves the default, and a single one is taken as it is
pub record SingleSourceIsKept : Type 0 where
  pub none : (default : ℤ) → value_of default [] ≡ default
  pub one : (default source : ℤ) → value_of default (source ∷ []) ≡ source

-- '0' and 'Z' are '0', '1' and 'L' are '1', '-' and '-' are 'X'; 'Z' eight times and 'H' are 'H'
pub record WorkedSources : Type 0 where
  pub low : value_of (pos 0) (pos 2 ∷ pos 4 ∷ []) ≡ pos 2
  pub high : value_of (pos 0) (pos 3 ∷ pos 6 ∷ []) ≡ pos 3
  pub dashes : value_of (pos 0) (pos 8 ∷ pos 8 ∷ []) ≡ pos 1
  pub nine : value_of (pos 0) (pos 4 ∷ pos 4 ∷ pos 4 ∷ pos 4 ∷ pos 4 ∷ pos 4 ∷ pos 4 ∷ pos 4 ∷ pos 7 ∷ []) ≡ pos 7
