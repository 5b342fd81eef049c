-- The table by which a region's names are looked up.
use Rattle.std.specs.Prelude.{◌≡◌, ◌⊎◌, ℕ, Option, Some, None, List, [], ◌∷◌, ◌++◌, String, if◌then◌else◌}
use Rattle.std.specs.Global.{Global}
use Rattle.std.specs.Option.{option_map_or}
use Rattle.std.specs.Str.{bytes_eq}
use Rattle.std.specs.BTreeMap.{BTreeMap, get_by_text}
use Rattle.vhdl_units.specs.declared.entry.Entry.{Entry}
use Rattle.vhdl_names_overloads.specs.declared.shared.Shared.{Shared}
use Rattle.vhdl_names_overloads.specs.Literals.{literal_types}
use Rattle.vhdl_names_overloads.specs.Sharing.{shared}
use Rattle.vhdl_names_scope.specs.Declarations.{Named, own}

-- the entries of a name
abbrev pub at : BTreeMap (String Global) (List Entry) → List ℕ → List Entry
at table name = option_map_or (λ entries. entries) (get_by_text table name) []

-- one name has one more entry
abbrev pub Adds : List ℕ → Entry → BTreeMap (String Global) (List Entry) → BTreeMap (String Global) (List Entry) → Type 0
Adds name entry old new = (q : List ℕ) → at new q ≡ (if bytes_eq q name then at old q ++ entry ∷ [] else at old q)

-- each name has the entries that it had
abbrev pub Keeps : BTreeMap (String Global) (List Entry) → BTreeMap (String Global) (List Entry) → Type 0
Keeps old new = (q : List ℕ) → at new q ≡ at old q

-- what is found of each name is what the declarations say of it
pub record Finds (table : BTreeMap (String Global) (List Entry)) (undeclared : List Entry) (all : List Named) : Type 0 where
  pub declared_is : (name : List ℕ) → at table name ≡ own name all
  pub undeclared_is : undeclared ≡ []

-- ---- the types that two names of a region share, where they were found before

abbrev pub Sharings : Type 0
Sharings = BTreeMap (String Global) (BTreeMap (String Global) Shared)

abbrev pub shared_in : Option (BTreeMap (String Global) Shared) → List ℕ → Option Shared
shared_in (Some row) name = get_by_text row name
shared_in None name = None

abbrev pub shared_at : Sharings → List ℕ → List ℕ → Option Shared
shared_at sharings left right = shared_in (get_by_text sharings left) right

-- the types that two names share in a region
abbrev pub own_shared : List ℕ → List ℕ → List Named → Shared
own_shared left right region = shared (literal_types (own left region)) (literal_types (own right region))

-- they are kept as they are
abbrev pub Shares : Sharings → List Named → Type 0
Shares sharings region = (left right : List ℕ) (s : Shared) → shared_at sharings left right ≡ Some s → s ≡ own_shared left right region

-- what is kept was kept before, or is that of two names
abbrev pub KeepsOne : List ℕ → List ℕ → Shared → Sharings → Sharings → Type 0
KeepsOne left right s old new = (l r : List ℕ) (k : Shared) → shared_at new l r ≡ Some k → (shared_at old l r ≡ Some k) ⊎ ((l ≡ left) × (r ≡ right) × (k ≡ s))
