-- What the bytes of a token say.
use Rattle.std.specs.Prelude.{◌≡◌, ℕ, ◌-◌, ◌<◌, ◌≤◌, Bool, true, Option, Some, None, List, [], ◌∷◌, length, take, drop, map, if◌then◌else◌}
use Rattle.std.specs.Char.{to_ascii_lowercase}
use Rattle.vhdl_tokens.specs.declared.token.Kind.{Kind}
use Rattle.vhdl_tokens.specs.declared.token.Kind.TheVariants as kind
use Rattle.vhdl_tokens.specs.declared.token.Token.{Token}
use Rattle.vhdl_tokens.specs.declared.token.Delimiter.{Delimiter}
use Rattle.vhdl_tokens.specs.Reserved.{reserved_word}
use Rattle.vhdl_tokens.specs.Delimiters.{single, double}
use Rattle.vhdl_tokens.specs.Spelling.{is_identifier, is_integer, number, IsChar, IsText, IsBits}

-- the bytes of a token
abbrev pub span : List ℕ → Token → List ℕ
span text token = take (token.end - token.start) (drop token.start text)

-- the name of an identifier, in lower case
abbrev pub identifier_of : List ℕ → Option (List ℕ)
identifier_of bytes = if is_identifier bytes then Some (map to_ascii_lowercase bytes) else None

-- the number of an integer
abbrev pub integer_of : List ℕ → Option ℕ
integer_of bytes = if is_integer bytes then Some (number bytes) else None

-- The value that bytes spell, if they spell one.
abbrev pub Means : {V : Type 0} → (V → Type 0) → Option V → Type 0
Means {V} Spells None = (value : V) → Spells value → ⊥
Means {V} Spells (Some value) = Spells value

-- a delimiter's spelling
abbrev pub SpellsDelimiter : Delimiter → List ℕ → Type 0
SpellsDelimiter d [] = ⊥
SpellsDelimiter d (a ∷ []) = single a ≡ Some d
SpellsDelimiter d (a ∷ b ∷ []) = double a b ≡ Some d
SpellsDelimiter d (a ∷ b ∷ c ∷ more) = ⊥

-- Each token's bytes are spelled as its kind says.
abbrev pub IsSpelled : Kind → List ℕ → Type 0
IsSpelled kind.Identifier bytes = (is_identifier bytes ≡ true) × (reserved_word bytes ≡ None)
IsSpelled (kind.Word word) bytes = reserved_word bytes ≡ Some word
IsSpelled kind.Int bytes = is_integer bytes ≡ true
IsSpelled kind.Char bytes = (byte : ℕ) × IsChar bytes byte
IsSpelled kind.Text bytes = (value : List ℕ) × IsText bytes value
IsSpelled kind.Bits bytes = (bits : List Bool) × IsBits bytes bits
IsSpelled (kind.Delimiter d) bytes = SpellsDelimiter d bytes

-- A token of a text: it lies within the text, and its bytes are spelled as its kind says.
pub record IsTokenOf (text : List ℕ) (token : Token) : Type 0 where
  pub within : token.end ≤ length text
  pub spelled : IsSpelled token.kind (span text token)

-- The tokens stand one behind the other, from a place on.
abbrev pub StandInOrder : ℕ → List Token → Type 0
StandInOrder place [] = Unit {0}
StandInOrder place (token ∷ tokens) = (place ≤ token.start) × (token.start < token.end) × StandInOrder token.end tokens
