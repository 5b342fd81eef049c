use Rattle.std.specs.Prelude.{ℕ, ◌/◌, ◌%◌, Bool, true, not, ◌&&◌, ◌||◌, ◌==◌, nat_le, List, [], ◌∷◌, ◌++◌, map, ℤ, unsigned_abs, slice_get, if◌then◌else◌, codes}
use Rattle.std.specs.Option.{option_map_or}
use Rattle.std.specs.List.{join_with_byte, flat_map}
use Rattle.std.specs.Fmt.{signed_decimal, digit_glyph}
use Rattle.std.specs.Str.{str_to_ascii_lowercase}
use Rattle.vhpi_values.specs.declared.types.Base.{Base}
use Rattle.vhpi_values.specs.declared.types.Base.TheVariants as base
use Rattle.vhpi_values.specs.declared.types.Literal.{Literal}
use Rattle.vhpi_values.specs.declared.types.Literal.TheVariants as literal
use Rattle.vhpi_values.specs.Types.{Subtype, is_array}
use Rattle.vhpi_values.specs.Formats.{first, character_at, literal_text, string_text}

-- the byte is one of the 95 printable ones
abbrev pub is_printable : ℕ → Bool
is_printable c = nat_le 32 c && nat_le c 126

-- a byte inside quotes: one that isn't printable, a '"' and a '%' are '%' and two hexadecimal digits
abbrev pub escaped : ℕ → List ℕ
escaped c =
    if is_printable c && not ((c == 34) || (c == 37)) then c ∷ []
    else 37 ∷ digit_glyph true (c / 16) ∷ digit_glyph true (c % 16) ∷ []

-- a text in quotes
abbrev pub quoted : List ℕ → List ℕ
quoted text = 34 ∷ (flat_map escaped text ++ 34 ∷ [])

-- a character literal
abbrev pub character_literal : ℕ → List ℕ
character_literal c = 39 ∷ c ∷ 39 ∷ []

-- a literal of an enumeration type of the design's own
abbrev pub literal_image : Literal → List ℕ
literal_image (literal.Character c) = character_literal c
literal_image (literal.Identifier name) = str_to_ascii_lowercase name

-- the literal at a position
abbrev pub literal_at : List Literal → ℤ → List ℕ
literal_at literals n = option_map_or literal_image (slice_get literals (unsigned_abs n)) []

-- a value of a scalar type
abbrev pub scalar_image : Base → ℤ → List ℕ
scalar_image base.Boolean n = if unsigned_abs n == 0 then codes "false" else codes "true"
scalar_image base.Bit n = character_literal (character_at base.Bit n)
scalar_image base.Logic n = character_literal (character_at base.Logic n)
scalar_image base.Character n =
    if is_printable (unsigned_abs n) then character_literal (unsigned_abs n) else 35 ∷ signed_decimal n
scalar_image (base.Own literals) n = literal_at literals n
scalar_image base.Integer n = signed_decimal n
scalar_image base.Time n = signed_decimal n ++ codes " fs"

-- a value of an array type
abbrev pub array_image : Base → List ℤ → List ℕ
array_image base.Bit value = quoted (literal_text base.Bit value)
array_image base.Logic value = quoted (literal_text base.Logic value)
array_image base.Character value = quoted (string_text value)
array_image _ value = 40 ∷ (join_with_byte 44 (map signed_decimal value) ++ 41 ∷ [])

-- a value as the journal prints it
abbrev pub image : Subtype → List ℤ → List ℕ
image ty value = if is_array ty then array_image ty.base value else scalar_image ty.base (first value)
