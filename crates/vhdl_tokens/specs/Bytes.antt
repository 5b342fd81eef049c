-- The bytes of a text by what they may stand in (IEEE Std 1076-2008, 15.2).
use Rattle.std.specs.Prelude.{ℕ, Bool, ◌==◌, ◌||◌, ◌&&◌, Option, Some, None, if◌then◌else◌, nat_le}
use Rattle.std.specs.Char.{is_ascii_alphanumeric, is_ascii_digit, is_ascii_hexdigit}
use Rattle.vhdl_tokens.specs.declared.bytes.Class.{Class}
use Rattle.vhdl_tokens.specs.declared.bytes.Class.TheVariants.{Name, Decimal, Binary, Octal, Hexadecimal}

-- a letter, a digit or an underline
abbrev pub is_word_byte : ℕ → Bool
is_word_byte b = is_ascii_alphanumeric b || b == 95

-- what may stand in a character or string literal
abbrev pub is_graphic : ℕ → Bool
is_graphic b = nat_le 32 b && nat_le b 126

-- space, tab, line feed and carriage return
abbrev pub is_separator : ℕ → Bool
is_separator b = ((b == 32 || b == 9) || b == 10) || b == 13

-- a byte of a class: of an identifier, of an integer, or of a bit string of base 2, 8 or 16
abbrev pub belongs : Class → ℕ → Bool
belongs Name b = is_ascii_alphanumeric b
belongs Decimal b = is_ascii_digit b
belongs Binary b = b == 48 || b == 49
belongs Octal b = nat_le 48 b && nat_le b 55
belongs Hexadecimal b = is_ascii_hexdigit b

-- what the base specifier B, O or X says of the digits behind it
abbrev pub base_of : ℕ → Option Class
base_of b =
    if b == 98 || b == 66 then Some Binary
    else (if b == 111 || b == 79 then Some Octal
    else (if b == 120 || b == 88 then Some Hexadecimal
    else None))
