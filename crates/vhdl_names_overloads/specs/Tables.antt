-- How the literals among some declarations are looked up by their types.
use Rattle.std.specs.Prelude.{◌≡◌, ℕ, Bool, true, false, Option, Some, None, List, [], ◌∷◌, ◌++◌, filter}
use Rattle.std.specs.Ordering.{nat_cmp}
use Rattle.std.specs.BTreeMap.{BTreeMap, get}
use Rattle.vhdl_units.specs.declared.base_type.BaseType.{BaseType}
use Rattle.vhdl_units.specs.declared.base_type.BaseType.TheVariants as base
use Rattle.vhdl_units.specs.declared.entry.Entry.{Entry}
use Rattle.vhdl_units.specs.declared.entry.Entry.TheVariants as entry
use Rattle.vhdl_names_overloads.specs.Literals.{position_in, position_of, or_else, first_other}

-- the number of an enumeration type of the design
unfoldable pub own_number : BaseType → Option ℕ
own_number (base.Own number) = Some number
own_number _ = None

-- whether an entry is a literal of a type that is always visible
unfoldable pub is_visible : Entry → Bool
is_visible (entry.Literal (base.Own n) position) = false
is_visible (entry.Literal t position) = true
is_visible _ = false

-- the positions of the literals of the design's types, the other literals, and the first declaration that is none
pub record Indexed (own : BTreeMap ℕ ℕ) (visible : List Entry) (other : Option Entry) (entries : List Entry) : Type 0 where
  pub own_is : (n : ℕ) → get nat_cmp own n ≡ position_of (base.Own n) entries
  pub visible_is : visible ≡ filter is_visible entries
  pub other_is : other ≡ first_other entries

-- the declaration that is no literal, where another is added
unfoldable pub first_of : Option Entry → Entry → Option Entry
first_of (Some first) e = Some first
first_of None e = first_other (e ∷ [])

-- one more declaration is noted
pub record Notes (e : Entry) (own : BTreeMap ℕ ℕ) (visible : List Entry) (other : Option Entry) (own2 : BTreeMap ℕ ℕ) (visible2 : List Entry) (other2 : Option Entry) : Type 0 where
  pub own_is : (n : ℕ) → get nat_cmp own2 n ≡ or_else (get nat_cmp own n) (position_in (base.Own n) e)
  pub visible_is : visible2 ≡ visible ++ filter is_visible (e ∷ [])
  pub other_is : other2 ≡ first_of other e

-- nothing is noted
pub record Keeps (own : BTreeMap ℕ ℕ) (visible : List Entry) (other : Option Entry) (own2 : BTreeMap ℕ ℕ) (visible2 : List Entry) (other2 : Option Entry) : Type 0 where
  pub own_is : (n : ℕ) → get nat_cmp own2 n ≡ get nat_cmp own n
  pub visible_is : visible2 ≡ visible
  pub other_is : other2 ≡ other
