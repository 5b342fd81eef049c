-- Numbers and other literals (IEEE Std 1076-2008, clauses 5.2.3.1, 5.2.4.2 and 9.3.2).
use Rattle.std.specs.Prelude.{Bool, List, None, Option, Some, [], false, if◌then◌else◌, nat_lt, not, true, ℕ, ◌*◌, ◌-◌, ◌^◌, ◌∷◌}
use Rattle.vhdl_names_operators.specs.Literals.{of_bits, of_string}
use Rattle.vhdl_tokens.specs.Meaning.{integer_of, span}
use Rattle.vhdl_tokens.specs.Values.{text_value}
use Rattle.vhdl_tokens.specs.declared.token.Kind.{Kind}
use Rattle.vhdl_tokens.specs.declared.token.Token.{Token}
use Rattle.vhdl_units.specs.Faults.{at}
use Rattle.vhdl_units.specs.declared.base_type.BaseType.{BaseType}
use Rattle.vhdl_units.specs.declared.entry.Entry.{Entry}
use Rattle.vhdl_units.specs.declared.entry.TimeUnit.{TimeUnit}
use Rattle.vhdl_units.specs.declared.fault.Fault.{Fault}
use Rattle.vhdl_names_overloads.specs.Literals.{literal_types}
use Rattle.vhdl_names_typing.specs.declared.told.Told.{Told}
use Rattle.vhdl_units.specs.declared.base_type.BaseType.TheVariants as base
use Rattle.vhdl_units.specs.declared.entry.Entry.TheVariants as entry
use Rattle.vhdl_names_typing.specs.declared.told.Form.TheVariants as form
use Rattle.vhdl_tokens.specs.declared.token.Kind.TheVariants as kind
use Rattle.vhdl_units.specs.declared.fault.Rule.TheVariants as rule
use Rattle.vhdl_units.specs.declared.entry.TimeUnit.TheVariants as unit

abbrev pub integer_high : ℕ
integer_high = 2147483647

-- in femtoseconds
abbrev pub time_high : ℕ
time_high = 2 ^ 63 - 1

unfoldable pub femtoseconds_in : TimeUnit → ℕ
femtoseconds_in unit.Femtosecond = 1
femtoseconds_in unit.Picosecond = 1000
femtoseconds_in unit.Nanosecond = 1000000
femtoseconds_in unit.Microsecond = 1000000000
femtoseconds_in unit.Millisecond = 1000000000000
femtoseconds_in unit.Second = 1000000000000000
femtoseconds_in unit.Minute = 60000000000000000
femtoseconds_in unit.Hour = 3600000000000000000

-- a number that is spelled at most so large, counted in so many
unfoldable pub is_within : ℕ → ℕ → Option ℕ → Bool
is_within high each (Some n) = not (nat_lt high (n * each))
is_within high each None = false

-- the unit that a name denotes
unfoldable pub unit_in : List Entry → Option TimeUnit
unit_in (entry.Unit u ∷ entries) = Some u
unit_in _ = None

unfoldable pub literal_told : ℕ → List Fault → List BaseType → Told
literal_told place typing types = record {
  place = place;
  names = [];
  typing = typing;
  types = types;
  is_static = true;
  reads = false;
  form = form.Value;
}

unfoldable pub too_large : Bool → ℕ → List Fault
too_large fits place = if fits then [] else at place rule.Number

unfoldable pub integer_told : ℕ → Option ℕ → Told
integer_told place n = literal_told place (too_large (is_within integer_high 1 n) place) (base.Integer ∷ [])

unfoldable pub time_typing : ℕ → Option ℕ → ℕ → Option TimeUnit → List Fault
time_typing place n unit_place (Some u) = too_large (is_within time_high (femtoseconds_in u) n) place
time_typing place n unit_place None = at unit_place rule.Number

unfoldable pub time_told : ℕ → Option ℕ → ℕ → Option TimeUnit → Told
time_told place n unit_place u = literal_told place (time_typing place n unit_place u) (base.Time ∷ [])

-- INT [ id ]
unfoldable pub number_told : List ℕ → (Token → List Entry) → Token → Option Token → Told
number_told text look token None = integer_told token.start (integer_of (span text token))
number_told text look token (Some unit) = time_told token.start (integer_of (span text token)) unit.start (unit_in (look unit))

-- CHAR, STRING and BITS
unfoldable pub string_types : Option (List ℕ) → List BaseType
string_types (Some bytes) = of_string bytes
string_types None = []

unfoldable pub spelled_types : Kind → List ℕ → List Entry → List BaseType
spelled_types kind.Char bytes entries = literal_types entries
spelled_types kind.Text bytes entries = string_types (text_value bytes)
spelled_types kind.Bits bytes entries = of_bits
spelled_types _ bytes entries = []

unfoldable pub spelled_told : List ℕ → (Token → List Entry) → Token → Told
spelled_told text look token = literal_told token.start [] (spelled_types token.kind (span text token) (look token))
