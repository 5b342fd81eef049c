use Rattle.std.specs.Prelude.{ℕ, ◌-◌, ◌^◌, Bool, true, false, not, ◌||◌, List, [], length, ℤ, pos, ◌+ℤ◌, ◌-ℤ◌, neg_ℤ, ◌≤ℤ◌, Option, is_some, IsTrue, if◌then◌else◌, codes}
use Rattle.std.specs.Option.{option_map_or}
use Rattle.vhpi_values.specs.declared.types.Base.{Base}
use Rattle.vhpi_values.specs.declared.types.Base.TheVariants.{Boolean, Bit, Character, Logic, Own, Integer, Time}
use Rattle.vhpi_values.specs.declared.types.IndexRange.{IndexRange}

-- a subtype, as contracts see a `Ty`: the bounds of its scalar subtype, and for an array type its index range
pub record Subtype : Type 0 where
  pub base : Base
  pub left : ℤ
  pub right : ℤ
  pub is_resolved : Bool
  pub index : Option IndexRange

-- the characters of the literals of BIT and of STD_ULOGIC, by position
abbrev pub characters_of : Base → List ℕ
characters_of Bit = codes "01"
characters_of Logic = codes "UX01ZWLH-"
characters_of _ = []

-- the least value of a base type, a position, an integer or a number of femtoseconds
abbrev pub least_of : Base → ℤ
least_of Integer = neg_ℤ (pos (2 ^ 31))
least_of _ = pos 0

-- the greatest value of a base type: of an enumeration the position of its last literal
abbrev pub greatest_of : Base → ℤ
greatest_of Boolean = pos 1
greatest_of Bit = pos 1
greatest_of Character = pos 255
greatest_of Logic = pos 8
greatest_of (Own literals) = pos (length literals) -ℤ pos 1
greatest_of Integer = pos (2 ^ 31 - 1)
greatest_of Time = pos (2 ^ 63 - 1)

-- the number is a value of the base type
pub record IsValue (base : Base) (n : ℤ) : Type 0 where
  pub least : least_of base ≤ℤ n
  pub greatest : n ≤ℤ greatest_of base

abbrev pub is_bit_or_logic : Base → Bool
is_bit_or_logic Bit = true
is_bit_or_logic Logic = true
is_bit_or_logic _ = false

abbrev pub is_character : Base → Bool
is_character Character = true
is_character _ = false

abbrev pub is_integer : Base → Bool
is_integer Integer = true
is_integer _ = false

abbrev pub is_time : Base → Bool
is_time Time = true
is_time _ = false

abbrev pub is_enumeration : Base → Bool
is_enumeration Integer = false
is_enumeration Time = false
is_enumeration _ = true

abbrev pub is_array : Subtype → Bool
is_array ty = is_some ty.index

abbrev pub is_scalar : Subtype → Bool
is_scalar ty = not (is_array ty)

-- there are arrays of BIT, STD_ULOGIC, CHARACTER and INTEGER
abbrev pub can_be_element : Base → Bool
can_be_element base = is_bit_or_logic base || (is_character base || is_integer base)

-- what holds of each `Ty`: its bounds are values of its base, and there are arrays of that base if it is one
pub record IsSubtype (ty : Subtype) : Type 0 where
  pub left : IsValue ty.base ty.left
  pub right : IsValue ty.base ty.right
  pub element : IsTrue (is_scalar ty || can_be_element ty.base)

-- a number of things, none where it would be negative
abbrev pub at_least_none : ℤ → ℕ
at_least_none (pos n) = n
at_least_none _ = 0

-- the number of indices of an index range: a range against its own direction has none
abbrev pub range_length : IndexRange → ℕ
range_length range =
    if range.is_ascending then at_least_none (range.right -ℤ range.left +ℤ pos 1)
    else at_least_none (range.left -ℤ range.right +ℤ pos 1)

-- the number of elements of a value: a scalar has one
abbrev pub element_count : Subtype → ℕ
element_count ty = option_map_or range_length ty.index 1
