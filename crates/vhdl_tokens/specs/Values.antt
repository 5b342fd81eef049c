-- How the value of a literal is found, by its bytes from the left. That it is what the definitions say
-- (specs/Spelling.antt) is proved in proofs/.
use Rattle.std.specs.Prelude.{ℕ, Bool, false, ◌==◌, ◌&&◌, Option, Some, None, List, [], ◌∷◌, ◌++◌, take, drop, if◌then◌else◌}
use Rattle.std.specs.List.{flat_map, prefix_len}
use Rattle.vhdl_tokens.specs.declared.bytes.Class.{Class}
use Rattle.vhdl_tokens.specs.Bytes.{is_word_byte, is_graphic}
use Rattle.vhdl_tokens.specs.Spelling.{are_digits, bits_at}
use Rattle.vhdl_tokens.specs.Text.{bits_base}

-- the byte of a character literal
abbrev pub char_value : List ℕ → Option ℕ
char_value [] = None
char_value (a ∷ []) = None
char_value (a ∷ b ∷ []) = None
char_value (a ∷ b ∷ c ∷ []) = if (a == 39 && is_graphic b) && c == 39 then Some b else None
char_value (a ∷ b ∷ c ∷ d ∷ more) = None

-- the value of a string literal that goes on with these bytes, of which front is known
unfoldable pub value_from : List ℕ → List ℕ → Option (List ℕ)
value_from front [] = None
value_from front (a ∷ []) = if a == 34 then Some front else None
value_from front (a ∷ b ∷ more) =
    if a == 34 then (if b == 34 then value_from (front ++ 34 ∷ []) more else None)
    else (if is_graphic a then value_from (front ++ a ∷ []) (b ∷ more) else None)

-- the value of a string literal
abbrev pub text_value : List ℕ → Option (List ℕ)
text_value [] = None
text_value (a ∷ more) = if a == 34 then value_from [] more else None

-- one quotation mark
abbrev pub is_quote : List ℕ → Bool
is_quote [] = false
is_quote (a ∷ []) = a == 34
is_quote (a ∷ b ∷ more) = false

-- the bits of these digits, if one quotation mark is what follows them
abbrev pub bits_in : Class → List ℕ → List ℕ → Option (List Bool)
bits_in base digits behind = if are_digits base digits && is_quote behind then Some (flat_map (bits_at base) digits) else None

-- the bits of a bit string literal of this base
abbrev pub bits_quoted : Class → List ℕ → Option (List Bool)
bits_quoted base [] = None
bits_quoted base (a ∷ []) = None
bits_quoted base (a ∷ b ∷ more) = bits_in base (take (prefix_len is_word_byte more) more) (drop (prefix_len is_word_byte more) more)

-- the same, if the base is known
abbrev pub bits_by : Option Class → List ℕ → Option (List Bool)
bits_by None bytes = None
bits_by (Some base) bytes = bits_quoted base bytes

-- the bits of a bit string literal
abbrev pub bits_value : List ℕ → Option (List Bool)
bits_value bytes = bits_by (bits_base bytes) bytes
