-- Literals and aggregates (IEEE Std 1076-2008, clauses 9.3.2 and 9.3.3), whose type shows from their place.
use Rattle.std.specs.Prelude.{Bool, true, false, ◌==◌, ◌||◌, ℕ, Option, Some, None, List, [], ◌∷◌, filter, fold, codes}
use Rattle.std.specs.List.{list_any, list_all}
use Rattle.vhdl_units.specs.declared.base_type.BaseType.{BaseType}
use Rattle.vhdl_units.specs.declared.base_type.BaseType.TheVariants as base
use Rattle.vhdl_units.specs.Types.{element}
use Rattle.vhdl_names_operators.specs.Sets.{has, predefined, arrays}

-- the literals of BIT and of STD_ULOGIC, in ASCII
unfoldable pub is_bit : ℕ → Bool
is_bit byte = byte == 48 || byte == 49

unfoldable pub is_std_ulogic : ℕ → Bool
is_std_ulogic byte = list_any (λ letter. letter == byte) (codes "UX01ZWLH-")

-- whether a string literal of these bytes can have the type t: each of them is a literal of the element type
unfoldable pub spells : List ℕ → BaseType → Bool
spells text base.BitVector = list_all is_bit text
spells text base.StdUlogicVector = list_all is_std_ulogic text
spells text base.String = true
spells text _ = false

unfoldable pub of_string : List ℕ → List BaseType
of_string text = filter (spells text) predefined

-- a bit string literal
unfoldable pub of_bits : List BaseType
of_bits = base.BitVector ∷ base.StdUlogicVector ∷ []

-- whether an item of an aggregate of the type t can have t's element type
unfoldable pub elements_can_be : List BaseType → Option BaseType → Bool
elements_can_be item (Some e) = has item e
elements_can_be item None = false

unfoldable pub holds : List BaseType → BaseType → Bool
holds item t = elements_can_be item (element t)

-- the types that an aggregate can still have once one more item is known
unfoldable pub narrowed : List BaseType → List BaseType → List BaseType
narrowed so_far item = filter (holds item) so_far

unfoldable pub aggregates : List (List BaseType) → List BaseType
aggregates items = fold narrowed arrays items
