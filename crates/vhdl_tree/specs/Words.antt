-- Tokens as a grammar sees them: their kind, and where they stand.
use Rattle.std.specs.Prelude.{ℕ, Option, Some, None, List, [], ◌∷◌}
use Rattle.vhdl_tokens.specs.declared.token.Kind.{Kind}
use Rattle.vhdl_tokens.specs.declared.token.Kind.TheVariants as kind
use Rattle.vhdl_tokens.specs.declared.token.Token.{Token}
use Rattle.vhdl_tokens.specs.declared.token.Delimiter.{Delimiter}
use Rattle.vhdl_tokens.specs.declared.reserved.Reserved.{Reserved}

-- where a token stands: its first byte, the byte behind it, and its line
pub record Span : Type 0 where
  pub start : ℕ
  pub end : ℕ
  pub line : ℕ

abbrev pub tok : Kind → Span → Token
tok k x = record { kind = k; start = x.start; end = x.end; line = x.line }

-- an identifier, a reserved word and a delimiter
abbrev pub id : Span → Token
id x = tok kind.Identifier x

abbrev pub word : Reserved → Span → Token
word w x = tok (kind.Word w) x

abbrev pub mark : Delimiter → Span → Token
mark d x = tok (kind.Delimiter d) x

-- the kind of the next token, if there is one
abbrev pub kind_of : List Token → Option Kind
kind_of [] = None
kind_of (t ∷ ts) = Some t.kind

-- the first byte of the next token, and its line
abbrev pub place_of : List Token → ℕ
place_of [] = 0
place_of (t ∷ ts) = t.start

abbrev pub line_of : List Token → ℕ
line_of [] = 0
line_of (t ∷ ts) = t.line
