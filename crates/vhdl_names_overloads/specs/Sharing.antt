-- Which discrete types two expressions can both have.
use Rattle.std.specs.Prelude.{ℕ, ◌≡◌, ◌<◌, Bool, ◌&&◌, Option, Some, None, List, [], ◌∷◌, filter, is_some, if◌then◌else◌}
use Rattle.std.specs.List.{list_any}
use Rattle.vhdl_units.specs.declared.base_type.BaseType.{BaseType}
use Rattle.vhdl_units.specs.declared.base_type.BaseType.TheVariants as base
use Rattle.vhdl_units.specs.declared.entry.Entry.{Entry}
use Rattle.vhdl_units.specs.Types.{is_discrete, same}
use Rattle.vhdl_names_overloads.specs.declared.blocks.Block.{Block}
use Rattle.vhdl_names_overloads.specs.declared.shared.Shared.{Shared}
use Rattle.vhdl_names_overloads.specs.declared.shared.Shared.TheVariants as met
use Rattle.vhdl_names_overloads.specs.Blocks.{Apart}
use Rattle.vhdl_names_overloads.specs.Literals.{literal_type, position_of}
use Rattle.vhdl_names_overloads.specs.Tables.{own_number}

-- one type more is shared
unfoldable pub one_more : Shared → BaseType → Shared
one_more met.Nothing t = met.One t
one_more (met.One u) t = if same u t then met.One u else met.Several
one_more met.Several t = met.Several

unfoldable pub all_more : Shared → List BaseType → Shared
all_more s [] = s
all_more s (t ∷ types) = all_more (one_more s t) types

-- whether a type is discrete and one of some others
unfoldable pub is_shared : List BaseType → BaseType → Bool
is_shared others t = is_discrete t && list_any (same t) others

-- the discrete types that stand in both lists
unfoldable pub shared : List BaseType → List BaseType → Shared
shared types others = all_more met.Nothing (filter (is_shared others) types)

-- the types that are shared by these and by those
unfoldable pub together : Shared → Shared → Shared
together met.Nothing s = s
together (met.One t) met.Nothing = met.One t
together (met.One t) (met.One u) = if same t u then met.One t else met.Several
together (met.One t) met.Several = met.Several
together met.Several s = met.Several

-- the types of the literals that each of two names denotes
pub record TypesOfTwo : Type 0 where
  pub left : List BaseType
  pub right : List BaseType

-- each type of the design among some literals has a lower number than each among others
abbrev pub Below : List Entry → List Entry → Type 0
Below low high = (n m p q : ℕ) → position_of (base.Own n) low ≡ Some p → position_of (base.Own m) high ≡ Some q → n < m

-- no type that is always visible has literals among both
abbrev pub VisibleApart : List Entry → List Entry → Type 0
VisibleApart entries others = (t : BaseType) → own_number t ≡ None → (p q : ℕ) → position_of t entries ≡ Some p → position_of t others ≡ Some q → ⊥

-- ---- how they are found

-- one type more, where there is one and it passes a test
unfoldable pub if_passes : (BaseType → Bool) → Shared → Option BaseType → Shared
if_passes p s None = s
if_passes p s (Some t) = if p t then one_more s t else s

-- whether a type is discrete and some entry a literal of it
unfoldable pub is_literal_of : List Entry → BaseType → Bool
is_literal_of others t = is_discrete t && is_some (position_of t others)

-- one entry more
unfoldable pub with_entry : List Entry → Shared → Entry → Shared
with_entry others s e = if_passes (is_literal_of others) s (literal_type e)

unfoldable pub with_entries : List Entry → Shared → List Entry → Shared
with_entries others s [] = s
with_entries others s (e ∷ entries) = with_entries others (with_entry others s e) entries

-- entries of a block that change nothing
abbrev pub PassesOver : List Entry → Shared → Option Block → Type 0
PassesOver others met.Several b = Unit {0}
PassesOver others s None = ⊥
PassesOver others s (Some b) = Apart b others
