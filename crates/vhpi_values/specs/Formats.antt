use Rattle.std.specs.Prelude.{ℕ, ◌+◌, ◌-◌, ◌*◌, ◌%◌, Bool, true, false, ◌&&◌, ◌||◌, ◌==◌, List, [], ◌∷◌, ◌++◌, map, length, fold, replicate, slice_index, ℤ, pos, unsigned_abs, if◌then◌else◌}
use Rattle.std.specs.List.{list_all}
use Rattle.std.specs.Fmt.{signed_decimal, digit_glyph}
use Rattle.vhpi_values.specs.declared.types.Base.{Base}
use Rattle.vhpi_values.specs.declared.types.Base.TheVariants as base
use Rattle.vhpi_values.specs.declared.formats.Format.{Format}
use Rattle.vhpi_values.specs.declared.formats.Format.TheVariants as format
use Rattle.vhpi_values.specs.declared.formats.Formatted.{Formatted}
use Rattle.vhpi_values.specs.declared.formats.Formatted.TheVariants as formatted
use Rattle.vhpi_values.specs.Types.{Subtype, is_array, is_scalar, is_bit_or_logic, is_character, is_integer, is_time, is_enumeration, characters_of}

-- the formats that go with a type
abbrev pub pairs : Format → Subtype → Bool
pairs format.BinStr ty = is_bit_or_logic ty.base
pairs format.HexStr ty = is_bit_or_logic ty.base && is_array ty
pairs format.DecStr ty = is_integer ty.base && is_scalar ty
pairs format.Enum ty = is_enumeration ty.base && is_scalar ty
pairs format.Int ty = is_integer ty.base && is_scalar ty
pairs format.Logic ty = is_bit_or_logic ty.base && is_scalar ty
pairs format.Str ty = is_character ty.base && is_array ty
pairs format.Char ty = is_character ty.base && is_scalar ty
pairs format.Time ty = is_time ty.base && is_scalar ty
pairs format.ObjType ty = true
pairs format.EnumVec ty = (is_bit_or_logic ty.base || is_character ty.base) && is_array ty
pairs format.IntVec ty = is_integer ty.base && is_array ty
pairs format.LogicVec ty = is_bit_or_logic ty.base && is_array ty

-- the number of a scalar
abbrev pub first : List ℤ → ℤ
first (n ∷ _) = n
first [] = pos 0

-- the literal character at a position of BIT or STD_ULOGIC
abbrev pub character_at : Base → ℤ → ℕ
character_at base n = slice_index (characters_of base) (unsigned_abs n)

-- one literal character for each element
abbrev pub literal_text : Base → List ℤ → List ℕ
literal_text base value = map (character_at base) value

-- the bytes of a string: its positions in CHARACTER
abbrev pub string_text : List ℤ → List ℕ
string_text value = map unsigned_abs value

-- how many places before n elements fill the first group of four
abbrev pub filling : ℕ → ℕ
filling n = (4 - n % 4) % 4

-- the elements in whole groups of four, filled with '0' on the left
abbrev pub filled : List ℕ → List ℕ
filled text = replicate (filling (length text)) 48 ++ text

-- the character is '0' or '1'
abbrev pub is_binary : ℕ → Bool
is_binary c = (c == 48) || (c == 49)

-- the number that a group of '0' and '1' spells
abbrev pub group_value : List ℕ → ℕ
group_value group = fold (λ n c. 2 * n + (c - 48)) 0 group

-- the digit of a group: 0 to F where it is of '0' and '1' alone, 'Z' where it is of 'Z' alone, else 'X'
abbrev pub hex_digit : List ℕ → ℕ
hex_digit group =
    if list_all is_binary group then digit_glyph true (group_value group)
    else (if list_all (λ c. c == 90) group then 90 else 88)

-- whole groups of four characters
abbrev pub groups : List ℕ → List (List ℕ)
groups (a ∷ b ∷ c ∷ d ∷ rest) = (a ∷ b ∷ c ∷ d ∷ []) ∷ groups rest
groups _ = []

-- the digits of groups of four
abbrev pub hex_digits : List ℕ → List ℕ
hex_digits text = map hex_digit (groups text)

-- a group that its digit stands for: of '0' and '1' alone, or a whole group of 'Z' alone or of 'X' alone
abbrev pub is_exact : List ℕ → Bool
is_exact group = list_all is_binary group || (list_all (λ c. c == 90) group || list_all (λ c. c == 88) group)

-- one digit for four elements, from the right
abbrev pub hex_text : Base → List ℤ → List ℕ
hex_text base value = hex_digits (filled (literal_text base value))

-- what ObjType gives, by the base type and whether it is an array
abbrev pub object_content : Base → Bool → List ℤ → Formatted
object_content base.Integer false value = formatted.Int (first value)
object_content base.Integer true value = formatted.IntVec value
object_content base.Time _ value = formatted.Time (first value)
object_content base.Character false value = formatted.Char (first value)
object_content base.Character true value = formatted.Str (string_text value)
object_content base.Bit false value = formatted.Logic (first value)
object_content base.Bit true value = formatted.LogicVec value
object_content base.Logic false value = formatted.Logic (first value)
object_content base.Logic true value = formatted.LogicVec value
object_content _ _ value = formatted.Enum (first value)

-- the content of a format that goes with the type
abbrev pub content : Format → Subtype → List ℤ → Formatted
content format.BinStr ty value = formatted.BinStr (literal_text ty.base value)
content format.HexStr ty value = formatted.HexStr (hex_text ty.base value)
content format.DecStr ty value = formatted.DecStr (signed_decimal (first value))
content format.Enum ty value = formatted.Enum (first value)
content format.Int ty value = formatted.Int (first value)
content format.Logic ty value = formatted.Logic (first value)
content format.Str ty value = formatted.Str (string_text value)
content format.Char ty value = formatted.Char (first value)
content format.Time ty value = formatted.Time (first value)
content format.ObjType ty value = object_content ty.base (is_array ty) value
content format.EnumVec ty value = formatted.EnumVec value
content format.IntVec ty value = formatted.IntVec value
content format.LogicVec ty value = formatted.LogicVec value
