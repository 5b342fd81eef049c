-- The names that tokens spell (IEEE Std 1076-2008, 15.4 and 15.6).
use Rattle.std.specs.Prelude.{ℕ, Bool, List, map, filter, nat_lt}
use Rattle.std.specs.Char.{to_ascii_lowercase}
use Rattle.vhdl_tokens.specs.declared.token.Kind.{Kind}
use Rattle.vhdl_tokens.specs.declared.token.Kind.TheVariants as kind
use Rattle.vhdl_tokens.specs.declared.token.Token.{Token}
use Rattle.vhdl_tokens.specs.Meaning.{span}

-- Upper and lower case are the same, but in a character literal.
abbrev pub folded : Kind → ℕ → ℕ
folded kind.Char byte = byte
folded _ byte = to_ascii_lowercase byte

abbrev pub is_ascii : ℕ → Bool
is_ascii byte = nat_lt byte 128

-- The name that a token spells. Tokens of a text have no other bytes than those below 128.
abbrev pub word_in : List ℕ → Token → List ℕ
word_in text token = filter is_ascii (map (folded token.kind) (span text token))
