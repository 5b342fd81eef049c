-- What a token denotes as a name, by the regions that are open where it stands (IEEE Std 1076-2008, clause 12).
use Rattle.std.specs.Prelude.{List, ℕ}
use Rattle.vhdl_names_scope.specs.Names.{word_in}
use Rattle.vhdl_names_scope.specs.Nesting.{Nested, meanings}
use Rattle.vhdl_tokens.specs.declared.token.Token.{Token}
use Rattle.vhdl_units.specs.declared.entry.Entry.{Entry}

unfoldable pub look : List ℕ → Nested → Token → List Entry
look text regions token = meanings regions (word_in text token)
