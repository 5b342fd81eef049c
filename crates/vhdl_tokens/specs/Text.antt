-- A text as its tokens: the text is, in order, separators, comments and the spans of the tokens.
use Rattle.std.specs.Prelude.{◌≡◌, ℕ, ◌+◌, Bool, true, false, ◌==◌, ◌||◌, not, Option, Some, None, List, [], ◌∷◌, ◌++◌, ◌⊎◌, is_some, length, take, count_by, if◌then◌else◌}
use Rattle.std.specs.Char.{is_ascii_alphabetic, is_ascii_digit}
use Rattle.vhdl_tokens.specs.declared.token.Kind.{Kind}
use Rattle.vhdl_tokens.specs.declared.token.Kind.TheVariants as kind
use Rattle.vhdl_tokens.specs.declared.token.Token.{Token}
use Rattle.vhdl_tokens.specs.declared.token.TokenError.{TokenError}
use Rattle.vhdl_tokens.specs.declared.token.TokenError.TheVariants as error
use Rattle.vhdl_tokens.specs.declared.token.Delimiter.{Delimiter}
use Rattle.vhdl_tokens.specs.declared.token.Delimiter.TheVariants as delimiter
use Rattle.vhdl_tokens.specs.declared.reserved.Reserved.TheVariants as reserved
use Rattle.vhdl_tokens.specs.declared.bytes.Class.{Class}
use Rattle.vhdl_tokens.specs.Bytes.{is_word_byte, base_of}
use Rattle.vhdl_tokens.specs.Reserved.{reserved_word}
use Rattle.vhdl_tokens.specs.Delimiters.{single, double, goes_on}
use Rattle.vhdl_tokens.specs.Spelling.{begins, is_identifier, is_integer, IsChar, IsText, IsBits, IsSeparator, IsLineComment, IsBlockComment}

-- the base of the bit string that a text begins with: a base specifier, and then a quotation mark
abbrev pub bits_base : List ℕ → Option Class
bits_base [] = None
bits_base (letter ∷ []) = None
bits_base (letter ∷ b ∷ more) = if b == 34 then base_of letter else None

-- an identifier or reserved word, as long as it goes
pub record IsWord (bytes behind : List ℕ) : Type 0 where
  pub name : is_identifier bytes ≡ true
  pub longest : begins is_word_byte behind ≡ false
  pub no_bits : bits_base (bytes ++ behind) ≡ None

-- A delimiter, the longest. An apostrophe is one only behind a name.
abbrev pub IsDelimiter : Delimiter → Bool → List ℕ → List ℕ → Type 0
IsDelimiter d after_name [] behind = ⊥
IsDelimiter d after_name (a ∷ []) behind =
    (single a ≡ Some d) × (goes_on a behind ≡ false) × ((not (a == 39) || after_name) ≡ true)
IsDelimiter d after_name (a ∷ b ∷ []) behind = double a b ≡ Some d
IsDelimiter d after_name (a ∷ b ∷ c ∷ more) behind = ⊥

-- These bytes are one piece of a text: a separator or comment, or a token of this kind, the longest.
-- `behind` is what follows them in the text, and `after_name` says that the token before them is an
-- identifier, `)` or the reserved word `all`.
abbrev pub IsPiece : Option Kind → Bool → List ℕ → List ℕ → Type 0
IsPiece None after_name bytes behind = IsSeparator bytes ⊎ (IsLineComment bytes behind ⊎ IsBlockComment bytes)
IsPiece (Some kind.Identifier) after_name bytes behind = IsWord bytes behind × (reserved_word bytes ≡ None)
IsPiece (Some (kind.Word word)) after_name bytes behind = IsWord bytes behind × (reserved_word bytes ≡ Some word)
IsPiece (Some kind.Int) after_name bytes behind = (is_integer bytes ≡ true) × (begins is_word_byte behind ≡ false)
IsPiece (Some kind.Char) after_name bytes behind = (byte : ℕ) × IsChar bytes byte × (after_name ≡ false)
IsPiece (Some kind.Text) after_name bytes behind =
    (value : List ℕ) × IsText bytes value × (begins (λ b. b == 34) behind ≡ false)
IsPiece (Some kind.Bits) after_name bytes behind = (bits : List Bool) × IsBits bytes bits
IsPiece (Some (kind.Delimiter d)) after_name bytes behind = IsDelimiter d after_name bytes behind

-- an apostrophe behind a token of this kind is a delimiter
abbrev pub is_name_end : Kind → Bool
is_name_end kind.Identifier = true
is_name_end (kind.Word reserved.All) = true
is_name_end (kind.Delimiter delimiter.RightParen) = true
is_name_end _ = false

-- whether the token before what follows a piece is such: separators and comments change nothing
abbrev pub name_behind : Option Kind → Bool → Bool
name_behind None after_name = after_name
name_behind (Some k) after_name = is_name_end k

-- a piece of a text: what token it is, if it is one, and its bytes
pub record Piece : Type 0 where
  pub kind : Option Kind
  pub bytes : List ℕ

-- The text is these pieces and then the rest. `before` says that a name stands before the pieces, and
-- `after` that one stands before the rest.
abbrev pub Splits : List Piece → Bool → List ℕ → Bool → List ℕ → Type 0
Splits [] before text after rest = (before ≡ after) × (text ≡ rest)
Splits (piece ∷ pieces) before text after rest =
    (behind : List ℕ) × (text ≡ piece.bytes ++ behind) × IsPiece piece.kind before piece.bytes behind × Splits pieces (name_behind piece.kind before) behind after rest

-- how many bytes the pieces have
abbrev pub size_of : List Piece → ℕ
size_of [] = 0
size_of (piece ∷ pieces) = length piece.bytes + size_of pieces

-- one more than the line feeds before a place
abbrev pub line_at : List ℕ → ℕ → ℕ
line_at text place = 1 + count_by (λ b. b == 10) (take place text)

-- the token that a piece is, if it is one
abbrev pub token_of : Option Kind → ℕ → ℕ → ℕ → List Token
token_of None start end line = []
token_of (Some k) start end line = record { kind = k; start = start; end = end; line = line } ∷ []

-- the tokens among the pieces that stand in a text from a place on
abbrev pub tokens_of : List ℕ → ℕ → List Piece → List Token
tokens_of text place [] = []
tokens_of text place (piece ∷ pieces) =
    token_of piece.kind place (place + length piece.bytes) (line_at text place) ++ tokens_of text (place + length piece.bytes) pieces

-- The text is, in order, separators, comments and the spans of these tokens, each the longest.
pub record Tokens (text : List ℕ) (tokens : List Token) : Type 0 where
  pub pieces : List Piece
  pub after : Bool
  pub whole : Splits pieces false text after []
  pub tokens_are : tokens ≡ tokens_of text 0 pieces

-- A token begins with this byte: in some text one does.
pub record BeginsToken (byte : ℕ) : Type 0 where
  pub which : Kind
  pub after_name : Bool
  pub more : List ℕ
  pub behind : List ℕ
  pub piece : IsPiece (Some which) after_name (byte ∷ more) behind

-- the test of that: a letter, a digit, a quotation mark or the first byte of a delimiter
abbrev pub begins_token : ℕ → Bool
begins_token b = (is_ascii_alphabetic b || is_ascii_digit b) || (b == 34 || is_some (single b))

-- the fault at a place where no piece stands, by the byte there
abbrev pub fault_of : ℕ → ℕ → TokenError
fault_of place b = if begins_token b then error.BadLiteral place else error.BadByte place

-- The first fault: pieces stand up to a byte at which none does.
pub record IsFault (text : List ℕ) (fault : TokenError) : Type 0 where
  pub pieces : List Piece
  pub after : Bool
  pub byte : ℕ
  pub rest : List ℕ
  pub splits : Splits pieces false text after (byte ∷ rest)
  pub no_piece : (k : Option Kind) (bytes behind : List ℕ) → byte ∷ rest ≡ bytes ++ behind → IsPiece k after bytes behind → ⊥
  pub fault_is : fault ≡ fault_of (size_of pieces) byte

-- a refusal: the first fault, unless memory ran out
abbrev pub Refuses : List ℕ → TokenError → Type 0
Refuses text error.NoMemory = Unit {0}
Refuses text fault = IsFault text fault
