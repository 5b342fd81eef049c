-- When two kinds of tokens are the same.
use Rattle.std.specs.Prelude.{Bool, true, false}
use denote.Enum.Bare.{sameb}
use Rattle.vhdl_tokens.specs.declared.token.Kind.{Kind}
use Rattle.vhdl_tokens.specs.declared.token.Kind.TheVariants.{Identifier, Word, Int, Char, Text, Bits, Delimiter}
use Rattle.vhdl_tokens.specs.declared.token.Delimiter as delimiter
use Rattle.vhdl_tokens.specs.contracts.token.Delimiter as delimiters
use Rattle.vhdl_tokens.specs.declared.reserved.Reserved.{Reserved}
use Rattle.vhdl_tokens.specs.contracts.reserved.Reserved as words

unfoldable pub same_word : Reserved → Reserved → Bool
same_word = sameb words.the_type

unfoldable pub same_delimiter : delimiter.Delimiter → delimiter.Delimiter → Bool
same_delimiter = sameb delimiters.the_type

unfoldable pub same : Kind → Kind → Bool
same Identifier Identifier = true
same (Word a) (Word b) = same_word a b
same Int Int = true
same Char Char = true
same Text Text = true
same Bits Bits = true
same (Delimiter a) (Delimiter b) = same_delimiter a b
same _ _ = false
