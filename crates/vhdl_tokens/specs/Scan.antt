-- What stands at the front of a text, by its bytes from the left. That it is what the definition of a
-- text says (specs/Text.antt) is proved in proofs/.
use Rattle.std.specs.Prelude.{ℕ, ◌+◌, Bool, ◌==◌, ◌&&◌, Option, Some, None, List, [], ◌∷◌, take, drop, if◌then◌else◌}
use Rattle.std.specs.List.{prefix_len}
use Rattle.std.specs.Char.{is_ascii_alphabetic, is_ascii_digit}
use Rattle.vhdl_tokens.specs.declared.bytes.Class.{Class}
use Rattle.vhdl_tokens.specs.declared.bytes.Class.TheVariants.{Name}
use Rattle.vhdl_tokens.specs.declared.token.Kind.{Kind}
use Rattle.vhdl_tokens.specs.declared.token.Kind.TheVariants as kind
use Rattle.vhdl_tokens.specs.declared.token.Delimiter.{Delimiter}
use Rattle.vhdl_tokens.specs.declared.token.Delimiter.TheVariants as delimiter
use Rattle.vhdl_tokens.specs.declared.reserved.Reserved.{Reserved}
use Rattle.vhdl_tokens.specs.declared.scan.Found.{Found}
use Rattle.vhdl_tokens.specs.declared.scan.TextStep.{TextStep}
use Rattle.vhdl_tokens.specs.declared.scan.TextStep.TheVariants.{Takes, Ends, Breaks}
use Rattle.vhdl_tokens.specs.Bytes.{is_word_byte, is_graphic, is_separator}
use Rattle.vhdl_tokens.specs.Reserved.{reserved_word}
use Rattle.vhdl_tokens.specs.Delimiters.{single, double, is_dashes, is_opening, is_closing}
use Rattle.vhdl_tokens.specs.Spelling.{begins, is_spaced, is_integer, are_digits, is_on_line}
use Rattle.vhdl_tokens.specs.Text.{bits_base}

-- so many bytes that are no token
abbrev pub blank : ℕ → Option Found
blank len = Some (record { kind = None; len = len })

-- a token of so many bytes
abbrev pub token : Kind → ℕ → Option Found
token k len = Some (record { kind = Some k; len = len })

-- how far letters, digits and underlines go
abbrev pub run_len : List ℕ → ℕ
run_len text = prefix_len is_word_byte text

-- a name is a reserved word or an identifier
abbrev pub kind_of_word : Option Reserved → Kind
kind_of_word None = kind.Identifier
kind_of_word (Some word) = kind.Word word

-- a run of n bytes that begins with a letter
abbrev pub name_in : List ℕ → ℕ → Option Found
name_in word n = if is_spaced Name word then token (kind_of_word (reserved_word word)) n else None

unfoldable pub name_at : List ℕ → Option Found
name_at text = name_in (take (run_len text) text) (run_len text)

-- a run of n bytes that begins with a digit
abbrev pub integer_in : List ℕ → ℕ → Option Found
integer_in digits n = if is_integer digits then token kind.Int n else None

unfoldable pub integer_at : List ℕ → Option Found
integer_at text = integer_in (take (run_len text) text) (run_len text)

-- n bytes behind a quotation mark, and what follows them
abbrev pub bits_in : Class → List ℕ → List ℕ → ℕ → Option Found
bits_in base digits behind n =
    if are_digits base digits && begins (λ b. b == 34) behind then token kind.Bits (n + 3) else None

unfoldable pub bits_at : Class → List ℕ → Option Found
bits_at base [] = None
bits_at base (a ∷ []) = None
bits_at base (a ∷ b ∷ more) = bits_in base (take (run_len more) more) (drop (run_len more) more) (run_len more)

-- what begins with a letter
abbrev pub word_by : Option Class → List ℕ → Option Found
word_by None text = name_at text
word_by (Some base) text = bits_at base text

unfoldable pub word_at : List ℕ → Option Found
word_at text = word_by (bits_base text) text

-- how a string literal goes on
abbrev pub text_step : List ℕ → TextStep
text_step [] = Breaks
text_step (a ∷ []) = if a == 34 then Ends else (if is_graphic a then Takes 1 else Breaks)
text_step (a ∷ b ∷ more) =
    if a == 34 then (if b == 34 then Takes 2 else Ends) else (if is_graphic a then Takes 1 else Breaks)

-- the bytes of a string literal, of which n stand before these
unfoldable pub text_end : ℕ → List ℕ → Option ℕ
text_end n [] = None
text_end n (a ∷ []) = if a == 34 then Some (n + 1) else None
text_end n (a ∷ b ∷ more) =
    if a == 34 then (if b == 34 then text_end (n + 2) more else Some (n + 1))
    else (if is_graphic a then text_end (n + 1) (b ∷ more) else None)

-- a string literal of so many bytes, if it is ended
abbrev pub text_to : Option ℕ → Option Found
text_to None = None
text_to (Some n) = token kind.Text n

-- the bytes of a comment up to the next `*/`, of which n stand before these
unfoldable pub block_end : ℕ → List ℕ → Option ℕ
block_end n [] = None
block_end n (a ∷ []) = None
block_end n (a ∷ b ∷ more) = if is_closing a b then Some (n + 2) else block_end (n + 1) (b ∷ more)

-- a comment of so many bytes, if it is ended
abbrev pub block_to : Option ℕ → Option Found
block_to None = None
block_to (Some n) = blank n

-- what begins with an apostrophe that is no delimiter
unfoldable pub char_at : List ℕ → Option Found
char_at [] = None
char_at (a ∷ []) = None
char_at (a ∷ b ∷ []) = None
char_at (a ∷ b ∷ c ∷ more) = if is_graphic b && c == 39 then token kind.Char 3 else None

-- what begins with an apostrophe
abbrev pub tick_at : Bool → List ℕ → Option Found
tick_at after_name text = if after_name then token (kind.Delimiter delimiter.Tick) 1 else char_at text

-- a delimiter of one byte, if it is one
abbrev pub single_at : Option Delimiter → Option Found
single_at None = None
single_at (Some d) = token (kind.Delimiter d) 1

-- a delimiter of two bytes, or else of the first of them, a
abbrev pub double_at : Option Delimiter → ℕ → Option Found
double_at None a = single_at (single a)
double_at (Some d) a = token (kind.Delimiter d) 2

-- a comment or a delimiter
unfoldable pub mark_at : List ℕ → Option Found
mark_at [] = None
mark_at (a ∷ []) = single_at (single a)
mark_at (a ∷ b ∷ more) =
    if is_dashes a b then blank (2 + prefix_len is_on_line more)
    else (if is_opening a b then block_to (block_end 2 more)
    else double_at (double a b) a)

-- what stands at the front of a text, if anything does
unfoldable pub piece_at : Bool → List ℕ → Option Found
piece_at after_name [] = None
piece_at after_name (b ∷ more) =
    if is_ascii_alphabetic b then word_at (b ∷ more)
    else (if is_ascii_digit b then integer_at (b ∷ more)
    else (if is_separator b then blank 1
    else (if b == 34 then text_to (text_end 1 more)
    else (if b == 39 then tick_at after_name (b ∷ more)
    else mark_at (b ∷ more)))))
