-- What is kept of the associations before one: the numbers of the formals that have an actual are looked up in a set,
-- and no place is kept behind the last formal.
use Rattle.std.specs.BTreeSet.{BTreeSet, contains}
use Rattle.std.specs.Ordering.{nat_cmp}
use Rattle.std.specs.Prelude.{List, length, min, ℕ, ◌≡◌}
use Rattle.vhdl_names_rules.specs.Associations.{Matching, is_used}
use Rattle.vhdl_names_rules.specs.declared.associations.Taken.{Taken}
use Rattle.vhdl_units.specs.declared.entry.Object.{Object}

-- the set has the numbers of the list
abbrev pub HasNumbers : BTreeSet ℕ → List ℕ → Type 0
HasNumbers used numbers = (n : ℕ) → contains nat_cmp used n ≡ is_used numbers n

pub record Keeps (formals : List Object) (taken : Taken) (m : Matching) : Type 0 where
  pub position : taken.position ≡ min m.position (length formals)
  pub is_named : taken.is_named ≡ m.is_named
  pub used : HasNumbers taken.used m.used
