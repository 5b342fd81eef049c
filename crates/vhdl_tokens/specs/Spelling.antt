-- How separators, comments and tokens are spelled (IEEE Std 1076-2008, 15.3 to 15.9).
use Rattle.std.specs.Prelude.{◌≡◌, ℕ, ◌+◌, ◌*◌, ◌-◌, ◌/◌, ◌%◌, ◌^◌, Bool, true, false, ◌==◌, ◌&&◌, not, Option, Some, None, List, [], ◌∷◌, ◌++◌, if◌then◌else◌, nat_lt}
use Rattle.std.specs.List.{list_all, flat_map}
use Rattle.std.specs.Char.{is_ascii_alphabetic}
use Rattle.vhdl_tokens.specs.declared.bytes.Class.{Class}
use Rattle.vhdl_tokens.specs.declared.bytes.Class.TheVariants.{Name, Decimal, Binary, Octal}
use Rattle.vhdl_tokens.specs.Bytes.{is_graphic, is_separator, belongs, base_of}
use Rattle.vhdl_tokens.specs.Delimiters.{is_closing}

-- there is a first byte, and it passes a test
abbrev pub begins : (ℕ → Bool) → List ℕ → Bool
begins test [] = false
begins test (b ∷ more) = test b

-- bytes of a class, at least one, with single underlines between them
abbrev pub is_spaced : Class → List ℕ → Bool
is_spaced class [] = false
is_spaced class (a ∷ []) = belongs class a
is_spaced class (a ∷ b ∷ more) =
    belongs class a && (if b == 95 then is_spaced class more else is_spaced class (b ∷ more))

-- a letter, then letters and digits, with single underlines between them
abbrev pub is_identifier : List ℕ → Bool
is_identifier name = begins is_ascii_alphabetic name && is_spaced Name name

-- a number and one more digit; an underline says nothing
abbrev pub with_digit : ℕ → ℕ → ℕ
with_digit n d = if d == 95 then n else 10 * n + (d - 48)

-- the number that digits to base 10 say behind those that say n
abbrev pub number_from : ℕ → List ℕ → ℕ
number_from n [] = n
number_from n (d ∷ digits) = number_from (with_digit n d) digits

-- the number that digits to base 10 say
abbrev pub number : List ℕ → ℕ
number digits = number_from 0 digits

-- a number of at most 2^128 - 1
abbrev pub is_small : ℕ → Bool
is_small n = nat_lt n (2 ^ 128)

-- the number, if it is so small
abbrev pub small : ℕ → Option ℕ
small n = if is_small n then Some n else None

-- digits with single underlines between them, which say a number of at most 2^128 - 1
abbrev pub is_integer : List ℕ → Bool
is_integer digits = is_spaced Decimal digits && is_small (number digits)

-- a byte between two apostrophes
pub record IsChar (bytes : List ℕ) (byte : ℕ) : Type 0 where
  pub spelled : bytes ≡ 39 ∷ byte ∷ 39 ∷ []
  pub graphic : is_graphic byte ≡ true

-- a byte of a string as it is spelled: a quotation mark is doubled
abbrev pub doubled : ℕ → List ℕ
doubled b = if b == 34 then 34 ∷ 34 ∷ [] else b ∷ []

-- bytes between two quotation marks, each quotation mark among them doubled
pub record IsText (bytes value : List ℕ) : Type 0 where
  pub spelled : bytes ≡ 34 ∷ (flat_map doubled value ++ 34 ∷ [])
  pub graphic : list_all is_graphic value ≡ true

-- no digits, or digits with single underlines between them
abbrev pub are_digits : Class → List ℕ → Bool
are_digits class [] = true
are_digits class (d ∷ digits) = is_spaced class (d ∷ digits)

-- what a digit is worth, up to base 16, in either case
abbrev pub digit_value : ℕ → ℕ
digit_value d = if nat_lt d 58 then d - 48 else (if nat_lt d 71 then d - 55 else d - 87)

-- the bit of a number that is worth p, a power of 2
abbrev pub bit_worth : ℕ → ℕ → Bool
bit_worth p n = n / p % 2 == 1

-- the bits of a digit, the most significant first: one, three or four
abbrev pub digit_bits : Class → ℕ → List Bool
digit_bits Binary d = bit_worth 1 (digit_value d) ∷ []
digit_bits Octal d = bit_worth 4 (digit_value d) ∷ bit_worth 2 (digit_value d) ∷ bit_worth 1 (digit_value d) ∷ []
digit_bits class d =
    bit_worth 8 (digit_value d) ∷ bit_worth 4 (digit_value d) ∷ bit_worth 2 (digit_value d) ∷ bit_worth 1 (digit_value d) ∷ []

-- an underline has no bits
abbrev pub bits_at : Class → ℕ → List Bool
bits_at class d = if d == 95 then [] else digit_bits class d

-- a base specifier, and digits of its base between two quotation marks
pub record IsBits (bytes : List ℕ) (bits : List Bool) : Type 0 where
  pub letter : ℕ
  pub base : Class
  pub digits : List ℕ
  pub spelled : bytes ≡ letter ∷ 34 ∷ (digits ++ 34 ∷ [])
  pub base_is : base_of letter ≡ Some base
  pub digits_are : are_digits base digits ≡ true
  pub bits_are : bits ≡ flat_map (bits_at base) digits

-- one space, tab, line feed or carriage return
pub record IsSeparator (bytes : List ℕ) : Type 0 where
  pub byte : ℕ
  pub spelled : bytes ≡ byte ∷ []
  pub separates : is_separator byte ≡ true

-- no line feed
abbrev pub is_on_line : ℕ → Bool
is_on_line b = not (b == 10)

-- `--` to the end of the line
pub record IsLineComment (bytes behind : List ℕ) : Type 0 where
  pub body : List ℕ
  pub spelled : bytes ≡ 45 ∷ 45 ∷ body
  pub on_line : list_all is_on_line body ≡ true
  pub ends : begins is_on_line behind ≡ false

-- the first `*/` is at the end
abbrev pub is_closed : List ℕ → Bool
is_closed [] = false
is_closed (a ∷ []) = false
is_closed (a ∷ b ∷ []) = is_closing a b
is_closed (a ∷ b ∷ c ∷ more) = not (is_closing a b) && is_closed (b ∷ c ∷ more)

-- `/*` to the next `*/`
pub record IsBlockComment (bytes : List ℕ) : Type 0 where
  pub body : List ℕ
  pub spelled : bytes ≡ 47 ∷ 42 ∷ body
  pub closed : is_closed body ≡ true
