-- Context clauses, names after `end`, and the attribute of a foreign architecture (IEEE Std 1076-2008, clauses 7.2,
-- 12.4, 13 and 20.2). Names are compared in lower case.
use Rattle.std.specs.Char.{to_ascii_lowercase}
use Rattle.std.specs.List.{flat_map}
use Rattle.std.specs.Prelude.{Bool, List, None, Option, Some, [], bytes_eq, codes, false, if◌then◌else◌, map, not, true, ℕ, ◌&&◌, ◌++◌, ◌+◌, ◌==◌, ◌||◌, ◌∷◌}
use Rattle.vhdl_tokens.specs.Meaning.{span}
use Rattle.vhdl_tokens.specs.Values.{text_value}
use Rattle.vhdl_tokens.specs.declared.token.Kind.{Kind}
use Rattle.vhdl_tokens.specs.declared.token.Token.{Token}
use Rattle.vhdl_tree.specs.declared.declarations.AttributeSpecification.{AttributeSpecification}
use Rattle.vhdl_tree.specs.declared.expressions.Choice.{Choice}
use Rattle.vhdl_tree.specs.declared.expressions.Expr.{Expr}
use Rattle.vhdl_tree.specs.declared.expressions.Item.{Item}
use Rattle.vhdl_tree.specs.declared.expressions.Link.{Link}
use Rattle.vhdl_tree.specs.declared.expressions.Name.{Name}
use Rattle.vhdl_tree.specs.declared.expressions.Part.{Part}
use Rattle.vhdl_tree.specs.declared.units.Use.{Use}
use Rattle.vhdl_units.specs.Faults.{at}
use Rattle.vhdl_units.specs.declared.fault.Fault.{Fault}
use Rattle.vhdl_names_typing.specs.Faults.{break_if, typing_of}
use Rattle.vhdl_names_typing.specs.declared.told.Told.{Told}
use Rattle.vhdl_tokens.specs.declared.token.Kind.TheVariants as kind
use Rattle.vhdl_units.specs.declared.fault.Rule.TheVariants as rule
use Rattle.vhdl_tree.specs.declared.expressions.Choice.TheOpen.{Expr-F}  -- keep
use Rattle.vhdl_tree.specs.declared.expressions.Expr.{out-Expr}  -- keep

unfoldable pub word_of : List ℕ → Token → List ℕ
word_of text token = map to_ascii_lowercase (span text token)

unfoldable pub is_word : List ℕ → Token → List ℕ → Bool
is_word text token word = bytes_eq (word_of text token) word

-- ---- context clauses

unfoldable pub is_library : List ℕ → Token → Bool
is_library text token = is_word text token (codes "ieee") || is_word text token (codes "std") || is_word text token (codes "work")

unfoldable pub library_fault : List ℕ → Token → List Fault
library_fault text token = if is_library text token then [] else at token.start rule.UnknownLibrary

unfoldable pub library_faults : List ℕ → List Token → List Fault
library_faults text tokens = flat_map (library_fault text) tokens

unfoldable pub is_package : List ℕ → Token → Token → Bool
is_package text lib unit =
    (is_word text lib (codes "ieee") && is_word text unit (codes "std_logic_1164")) ||
    (is_word text lib (codes "std") && is_word text unit (codes "standard"))

unfoldable pub use_faults : List ℕ → Use → List Fault
use_faults text clause = if is_package text clause.library clause.package then [] else at clause.library.start rule.UnknownLibrary

-- ---- names after `end`

unfoldable pub is_same_word : List ℕ → Token → Option Token → Bool
is_same_word text token (Some other) = bytes_eq (word_of text token) (word_of text other)
is_same_word text token None = false

-- what ends has this name, if it has one
unfoldable pub end_faults : List ℕ → Option Token → Option Token → List Fault
end_faults text name (Some token) = if is_same_word text token name then [] else at token.start rule.EndName
end_faults text name None = []

-- ---- the attribute FOREIGN

-- how many words begin in a text, words being separated by blanks
unfoldable pub words_from : Bool → List ℕ → ℕ
words_from is_inside [] = 0
words_from is_inside (b ∷ bytes) = (if not is_inside && not (b == 32) then 1 else 0) + words_from (not (b == 32)) bytes

unfoldable pub without_blanks : List ℕ → List ℕ
without_blanks [] = []
without_blanks (b ∷ bytes) = if b == 32 then without_blanks bytes else b ∷ bytes

unfoldable pub starts_with : List ℕ → List ℕ → Bool
starts_with [] bytes = true
starts_with (w ∷ word) [] = false
starts_with (w ∷ word) (b ∷ bytes) = w == b && starts_with word bytes

-- three words, of which the first is VHPI: a model and a library
unfoldable pub is_foreign_text : List ℕ → Bool
is_foreign_text bytes = words_from false bytes == 3 && starts_with (codes "VHPI ") (without_blanks bytes)

unfoldable pub is_foreign_string : Kind → Option (List ℕ) → Bool
is_foreign_string kind.Text (Some bytes) = is_foreign_text bytes
is_foreign_string _ _ = false

unfoldable pub foreign_value : List ℕ → Expr-F Choice Expr Part Item Link Name → Bool
foreign_value text (Expr-F.Literal token) = is_foreign_string token.kind (text_value (span text token))
foreign_value text _ = false

unfoldable pub is_foreign_value : List ℕ → Expr → Bool
is_foreign_value text e = foreign_value text (out-Expr e)

-- It is FOREIGN, of its own architecture, for the first time there, and nothing else stands in that.
unfoldable pub is_right_attribute : List ℕ → List ℕ → Bool → AttributeSpecification → Bool
is_right_attribute text architecture is_allowed specification =
    is_word text specification.attribute (codes "foreign") && (is_word text specification.architecture architecture &&
    (is_allowed && is_foreign_value text specification.value))

unfoldable pub attribute_faults : List ℕ → List ℕ → Bool → AttributeSpecification → Told → List Fault
attribute_faults text architecture is_allowed specification told =
    told.names ++ (typing_of told ++ break_if (not (is_right_attribute text architecture is_allowed specification)) told.names specification.attribute.start rule.Foreign)
