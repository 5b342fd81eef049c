-- The types of the literals that two names denote in regions.
use Rattle.std.specs.Prelude.{◌≡◌, ℕ, List, []}
use Rattle.vhdl_units.specs.declared.base_type.BaseType.{BaseType}
use Rattle.vhdl_units.specs.declared.entry.Entry.{Entry}
use Rattle.vhdl_names_overloads.specs.Literals.{literal_types}
use Rattle.vhdl_names_overloads.specs.Sharing.{TypesOfTwo}
use Rattle.vhdl_names_scope.specs.Declarations.{Named}
use Rattle.vhdl_names_scope.specs.Hiding.{seen}

-- where a name denotes literals of some types around regions, it denotes literals of these within them
abbrev pub Sees : List ℕ → List (List Named) → List BaseType → List BaseType → Type 0
Sees name regions around within = (found : List Entry) → around ≡ literal_types found → within ≡ literal_types (seen name regions found)

pub record BothSeen (left right : List ℕ) (regions : List (List Named)) (around within : TypesOfTwo) : Type 0 where
  pub left_seen : Sees left regions around.left within.left
  pub right_seen : Sees right regions around.right within.right
