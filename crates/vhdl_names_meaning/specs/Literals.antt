-- Numbers and other literals (IEEE Std 1076-2008, clauses 5.2.3.1, 5.2.4.2 and 9.3.2).
use Rattle.std.specs.Prelude.{Bool, List, None, Option, Some, [], false, if◌then◌else◌, map, nat_lt, true, ℕ, ◌*◌}
use Rattle.vhdl_names_meaning.specs.Names.{candidate_with, only_value}
use Rattle.vhdl_names_meaning.specs.declared.candidates.Candidate.{Candidate}
use Rattle.vhdl_names_operators.specs.Literals.{of_bits, of_string}
use Rattle.vhdl_tokens.specs.Meaning.{integer_of, span}
use Rattle.vhdl_tokens.specs.Values.{bits_value, text_value}
use Rattle.vhdl_tokens.specs.declared.token.Kind.{Kind}
use Rattle.vhdl_tokens.specs.declared.token.Token.{Token}
use Rattle.vhdl_units.specs.declared.entry.Entry.{Entry}
use Rattle.vhdl_units.specs.declared.entry.TimeUnit.{TimeUnit}
use Rattle.vhdl_names_typing.specs.Literals.{femtoseconds_in, integer_high, time_high, unit_in}
use Rattle.vhdl_names_overloads.specs.Literals.{literal_types}
use Rattle.vhdl_units.specs.declared.base_type.BaseType.TheVariants as base
use Rattle.vhdl_names_meaning.specs.declared.candidates.Open.TheVariants as pending
use Rattle.vhdl_tokens.specs.declared.token.Kind.TheVariants as kind
use Rattle.vhdl_units.specs.declared.values.Value.TheVariants as value

-- a number that isn't too large, else nought
unfoldable pub within : ℕ → ℕ → ℕ
within high n = if nat_lt high n then 0 else n

unfoldable pub number_or : Option ℕ → ℕ
number_or (Some n) = n
number_or None = 0

unfoldable pub each_of : Option TimeUnit → ℕ
each_of (Some u) = femtoseconds_in u
each_of None = 0

unfoldable pub integer_candidate : ℕ → Candidate
integer_candidate n = only_value (value.Integer (within integer_high n)) base.Integer true

unfoldable pub time_candidate : ℕ → ℕ → Candidate
time_candidate n each = only_value (value.Time (within time_high (n * each))) base.Time true

-- INT [ id ]
unfoldable pub number : List ℕ → (Token → List Entry) → Token → Option Token → Candidate
number text look token None = integer_candidate (number_or (integer_of (span text token)))
number text look token (Some unit) = time_candidate (number_or (integer_of (span text token))) (each_of (unit_in (look unit)))

-- the characters 0 and 1
unfoldable pub bit_byte : Bool → ℕ
bit_byte true = 49
bit_byte false = 48

unfoldable pub text_candidate : Option (List ℕ) → Candidate
text_candidate (Some bytes) = candidate_with (of_string bytes) true (pending.Text bytes)
text_candidate None = candidate_with [] true (pending.Text [])

unfoldable pub bits_candidate : Option (List Bool) → Candidate
bits_candidate (Some bits) = candidate_with of_bits true (pending.Text (map bit_byte bits))
bits_candidate None = candidate_with of_bits true (pending.Text [])

unfoldable pub character_candidate : List Entry → Candidate
character_candidate entries = candidate_with (literal_types entries) true (pending.Literals entries)

-- CHAR, STRING and BITS
unfoldable pub spelled_as : Kind → List ℕ → List Entry → Candidate
spelled_as kind.Char bytes entries = character_candidate entries
spelled_as kind.Text bytes entries = text_candidate (text_value bytes)
spelled_as kind.Bits bytes entries = bits_candidate (bits_value bytes)
spelled_as _ bytes entries = candidate_with [] false (pending.Value value.Unknown)

unfoldable pub spelled : List ℕ → (Token → List Entry) → Token → Candidate
spelled text look token = spelled_as token.kind (span text token) (look token)
