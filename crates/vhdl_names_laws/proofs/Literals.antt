-- Numbers and other literals tell what they mean.
use Rattle.std.proofs.Common.{◌≡◌, ℕ, ◌*◌, Bool, true, false, Option, Some, None, if◌then◌else◌, List, [], ◌∷◌, map, refl, ap, sym, ◌∙◌}
use Rattle.std.specs.List.{list_all}
use Rattle.vhdl_names_laws.specs.Known.{known_value}
use Rattle.vhdl_names_laws.specs.Tells.{Agrees, Tells}
use Rattle.vhdl_names_laws.specs.Typed.{HasType, type_of}
use Rattle.vhdl_names_laws.proofs.Knows.{known_integer, known_literal, known_text, known_time}
use Rattle.vhdl_names_laws.proofs.OfType.{type_integer, type_literal, type_text, type_time}
use Rattle.vhdl_names_laws.proofs.Settles.{open_literals, open_text, settled_own, static_with, types_with}
use Rattle.vhdl_names_laws.proofs.Single.{none_agrees, only_agrees}
use Rattle.vhdl_names_meaning.specs.Literals.{bit_byte, bits_candidate, character_candidate, each_of, integer_candidate, number, number_or, spelled, spelled_as, text_candidate, time_candidate, within}
use Rattle.vhdl_names_meaning.specs.Names.{candidate_with}
use Rattle.vhdl_names_meaning.specs.Settling.{literal_at}
use Rattle.vhdl_names_operators.proofs.Given.{has_of_string}
use Rattle.vhdl_names_overloads.proofs.Same.{same_is}
use Rattle.vhdl_names_operators.specs.Literals.{is_bit, is_std_ulogic, of_bits, of_string, spells}
use Rattle.vhdl_names_operators.specs.Sets.{has}
use Rattle.vhdl_tokens.specs.Meaning.{integer_of, span}
use Rattle.vhdl_tokens.specs.Values.{bits_value, text_value}
use Rattle.vhdl_tokens.specs.declared.token.Kind.{Kind}
use Rattle.vhdl_tokens.specs.declared.token.Token.{Token}
use Rattle.vhdl_units.specs.Types.{same}
use Rattle.vhdl_units.specs.declared.base_type.BaseType.{BaseType}
use Rattle.vhdl_units.specs.declared.entry.Entry.{Entry}
use Rattle.vhdl_names_typing.specs.Literals.{integer_high, integer_told, literal_told, number_told, spelled_told, spelled_types, string_types, time_high, time_told, unit_in}
use Rattle.vhdl_names_overloads.specs.Literals.{literal_type, literal_types}
use Rattle.vhdl_names_typing.specs.declared.told.Told.{Told}
use Rattle.vhdl_units.specs.declared.values.Value.{Value}
use Rattle.vhdl_units.specs.declared.base_type.BaseType.TheVariants as base
use Rattle.vhdl_units.specs.declared.entry.Entry.TheVariants as entry
use Rattle.vhdl_tokens.specs.declared.token.Kind.TheVariants as kind
use Rattle.vhdl_names_meaning.specs.declared.candidates.Open.TheVariants as pending
use Rattle.vhdl_units.specs.declared.values.Value.TheVariants as value

-- ---- numbers

integer_tells : (told : Told) (n : ℕ) → told.types ≡ base.Integer ∷ [] → told.is_static ≡ true → Agrees told (integer_candidate n)
unfolding integer_candidate
integer_tells told n types static =
    only_agrees told (value.Integer (within integer_high n)) base.Integer true types static (known_integer (within integer_high n)) (type_integer (within integer_high n))

time_tells : (told : Told) (n each : ℕ) → told.types ≡ base.Time ∷ [] → told.is_static ≡ true → Agrees told (time_candidate n each)
unfolding time_candidate
time_tells told n each types static =
    only_agrees told (value.Time (within time_high (n * each))) base.Time true types static (known_time (within time_high (n * each))) (type_time (within time_high (n * each)))

pub number_tells : (text : List ℕ) (look : Token → List Entry) (token : Token) (unit : Option Token) → Tells (number_told text look token unit) (number text look token unit)
unfolding number_told number integer_told time_told literal_told
number_tells text look token None names typing = integer_tells (integer_told token.start (integer_of (span text token))) (number_or (integer_of (span text token))) refl refl
number_tells text look token (Some unit) names typing =
    time_tells (time_told token.start (integer_of (span text token)) unit.start (unit_in (look unit))) (number_or (integer_of (span text token))) (each_of (unit_in (look unit))) refl refl

-- ---- overloaded literals

either : (b : Bool) (v w : Value) → known_value v ≡ true → (b ≡ false → known_value w ≡ true) → known_value (if b then v else w) ≡ true
either true v w h k = h
either false v w h k = k refl

literal_known : (t : BaseType) (entries : List Entry) → has (literal_types entries) t ≡ true → known_value (literal_at t entries) ≡ true
unfolding has literal_types literal_type literal_at
literal_known t [] h = absurd cc
literal_known t (entry.Literal u position ∷ entries) h =
    either (same t u) (value.Literal u position) (literal_at t entries) (known_literal u position) (λ no. literal_known t entries (rw no at h))
literal_known t (_ ∷ entries) h = literal_known t entries h

either_typed : (b : Bool) (v w : Value) (t : BaseType) → (b ≡ true → HasType v t) → (b ≡ false → HasType w t) → HasType (if b then v else w) t
either_typed true v w t h k = h refl
either_typed false v w t h k = k refl

literal_typed : (t : BaseType) (entries : List Entry) → has (literal_types entries) t ≡ true → HasType (literal_at t entries) t
unfolding has literal_types literal_type literal_at
literal_typed t [] h = absurd cc
literal_typed t (entry.Literal u position ∷ entries) h =
    either_typed (same t u) (value.Literal u position) (literal_at t entries) t
    (λ yes. type_literal u position ∙ ap (λ x. Some x) (sym (same_is t u yes))) (λ no. literal_typed t entries (rw no at h))
literal_typed t (_ ∷ entries) h = literal_typed t entries h

-- literals that a name or a character stands for
pub literals_agree : (told : Told) (entries : List Entry) → told.types ≡ literal_types entries → told.is_static ≡ true → Agrees told (candidate_with (literal_types entries) true (pending.Literals entries))
literals_agree told entries types static = record {
  types = types_with (literal_types entries) true (pending.Literals entries) ∙ sym types;
  known = λ t h. let g : has (literal_types entries) t ≡ true = (rw types at h) in
      ap known_value (settled_own (literal_types entries) true (pending.Literals entries) t g ∙ open_literals entries t) ∙ literal_known t entries g;
  typed = λ t h. let g : has (literal_types entries) t ≡ true = (rw types at h) in
      ap type_of (settled_own (literal_types entries) true (pending.Literals entries) t g ∙ open_literals entries t) ∙ literal_typed t entries g;
  static = λ t h. static_with (literal_types entries) true (pending.Literals entries) ∙ sym static;
}

-- ---- strings

text_agrees : (told : Told) (types : List BaseType) (bytes : List ℕ) → told.types ≡ types → told.is_static ≡ true → ((t : BaseType) → has types t ≡ true → spells bytes t ≡ true)
    → Agrees told (candidate_with types true (pending.Text bytes))
text_agrees told types bytes same static spelled = record {
  types = types_with types true (pending.Text bytes) ∙ sym same;
  known = λ t h. ap known_value (settled_own types true (pending.Text bytes) t (rw (sym same) h) ∙ open_text bytes t) ∙ known_text t bytes;
  typed = λ t h. let g : has types t ≡ true = (rw same at h) in ap type_of (settled_own types true (pending.Text bytes) t g ∙ open_text bytes t) ∙ type_text t bytes (spelled t g);
  static = λ t h. static_with types true (pending.Text bytes) ∙ sym static;
}

string_agrees : (told : Told) (o : Option (List ℕ)) → told.types ≡ string_types o → told.is_static ≡ true → Agrees told (text_candidate o)
unfolding string_types text_candidate has
string_agrees told (Some bytes) h static = text_agrees told (of_string bytes) bytes h static (λ t has. sym (has_of_string bytes t) ∙ has)
string_agrees told None h static = text_agrees told [] [] h static (λ t has. absurd cc)

bits_are_bits : (bits : List Bool) → list_all is_bit (map bit_byte bits) ≡ true
unfolding is_bit bit_byte
bits_are_bits [] = refl
bits_are_bits (true ∷ bits) = bits_are_bits bits
bits_are_bits (false ∷ bits) = bits_are_bits bits

bits_are_std_ulogic : (bits : List Bool) → list_all is_std_ulogic (map bit_byte bits) ≡ true
unfolding is_std_ulogic bit_byte
bits_are_std_ulogic [] = refl
bits_are_std_ulogic (true ∷ bits) = bits_are_std_ulogic bits
bits_are_std_ulogic (false ∷ bits) = bits_are_std_ulogic bits

bits_spelled : (bits : List Bool) (t : BaseType) → has of_bits t ≡ true → spells (map bit_byte bits) t ≡ true
unfolding of_bits has spells
bits_spelled bits base.BitVector h = bits_are_bits bits
bits_spelled bits base.StdUlogicVector h = bits_are_std_ulogic bits
bits_spelled bits base.String h = refl
bits_spelled bits _ h = absurd cc

bits_agree : (told : Told) (o : Option (List Bool)) → told.types ≡ of_bits → told.is_static ≡ true → Agrees told (bits_candidate o)
unfolding bits_candidate
bits_agree told (Some bits) h static = text_agrees told of_bits (map bit_byte bits) h static (bits_spelled bits)
bits_agree told None h static = text_agrees told of_bits [] h static (bits_spelled [])

characters_agree : (told : Told) (entries : List Entry) → told.types ≡ literal_types entries → told.is_static ≡ true → Agrees told (character_candidate entries)
unfolding character_candidate
characters_agree told entries types static = literals_agree told entries types static

spelled_agrees : (k : Kind) (told : Told) (bytes : List ℕ) (entries : List Entry) → told.types ≡ spelled_types k bytes entries → told.is_static ≡ true → Agrees told (spelled_as k bytes entries)
unfolding spelled_types spelled_as
spelled_agrees kind.Char told bytes entries h static = characters_agree told entries h static
spelled_agrees kind.Text told bytes entries h static = string_agrees told (text_value bytes) h static
spelled_agrees kind.Bits told bytes entries h static = bits_agree told (bits_value bytes) h static
spelled_agrees _ told bytes entries h static = none_agrees told _ h (types_with [] false (pending.Value value.Unknown))

pub spelled_tells : (text : List ℕ) (look : Token → List Entry) (token : Token) → Tells (spelled_told text look token) (spelled text look token)
unfolding spelled_told spelled literal_told
spelled_tells text look token names typing = spelled_agrees token.kind (spelled_told text look token) (span text token) (look token) refl refl
