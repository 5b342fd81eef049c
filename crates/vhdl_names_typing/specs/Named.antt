-- Expressions that are an enumeration literal and nothing else (IEEE Std 1076-2008, clauses 5.2.2 and 8.1).
use Rattle.std.specs.Prelude.{◌==◌, ℕ, Bool, true, false, Option, Some, None, List, [], length, string_bytes, if◌then◌else◌}
use Rattle.std.specs.List.{list_all}
use Rattle.vhdl_names_scope.specs.Names.{word_in}
use Rattle.vhdl_names_scope.specs.Nesting.{Nested, meanings}
use Rattle.vhdl_tokens.specs.declared.token.Kind.{Kind}
use Rattle.vhdl_tokens.specs.declared.token.Kind.TheVariants as kind
use Rattle.vhdl_tokens.specs.declared.token.Token.{Token}
use Rattle.vhdl_tree.specs.declared.declarations.Bounds.{Bounds}
use Rattle.vhdl_tree.specs.declared.declarations.Bounds.TheVariants as bounds
use Rattle.vhdl_tree.specs.declared.expressions.Choice.{Choice}
use Rattle.vhdl_tree.specs.declared.expressions.Expr.{Expr}
use Rattle.vhdl_tree.specs.declared.expressions.Item.{Item}
use Rattle.vhdl_tree.specs.declared.expressions.Link.{Link}
use Rattle.vhdl_tree.specs.declared.expressions.Name.{Name}
use Rattle.vhdl_tree.specs.declared.expressions.Part.{Part}
use Rattle.vhdl_units.specs.declared.base_type.BaseType.{BaseType}
use Rattle.vhdl_units.specs.Entries.{is_literal}
use Rattle.vhdl_names_overloads.specs.Literals.{literal_types}
use Rattle.vhdl_units.specs.declared.entry.Entry.{Entry}
use Rattle.vhdl_names_typing.specs.declared.named.LiteralBounds.{LiteralBounds}
use Rattle.vhdl_tree.specs.declared.expressions.Choice.TheOpen.{Expr-F}  -- keep
use Rattle.vhdl_tree.specs.declared.expressions.Expr.{out-Expr}  -- keep
use Rattle.vhdl_tree.specs.declared.expressions.Name.{out-Name}  -- keep

unfoldable pub is_character : Kind → Bool
is_character kind.Char = true
is_character _ = false

-- the token that a whole expression is, where it is an identifier or a character literal
unfoldable pub token_in : Expr-F Choice Expr Part Item Link Name → Option Token
token_in (Expr-F.Name n) = if length (out-Name n).parts == 0 then Some (out-Name n).identifier else None
token_in (Expr-F.Literal token) = if is_character token.kind then Some token else None
token_in _ = None

unfoldable pub sole_token : Expr → Option Token
sole_token e = token_in (out-Expr e)

-- what a name denotes are enumeration literals alone, and there are some
unfoldable pub are_literals : List Entry → Bool
are_literals [] = false
are_literals entries = list_all is_literal entries

unfoldable pub denoted_by : List ℕ → Nested → Option Token → Option (List ℕ)
denoted_by text regions None = None
denoted_by text regions (Some token) = if are_literals (meanings regions (word_in text token)) then Some (word_in text token) else None

-- the name of the enumeration literals that a whole expression is
unfoldable pub literal_name : List ℕ → Nested → Expr → Option (List ℕ)
literal_name text regions e = denoted_by text regions (sole_token e)

unfoldable pub both : Option (List ℕ) → Option (List ℕ) → Option (List ℕ × List ℕ)
both (Some left) (Some right) = Some (left, right)
both _ _ = None

-- the names of two bounds, where both are enumeration literals and nothing else
unfoldable pub literal_names : List ℕ → Nested → Bounds → Option (List ℕ × List ℕ)
literal_names text regions (bounds.Range low direction high) = both (literal_name text regions low) (literal_name text regions high)
literal_names text regions (bounds.Name n) = None

abbrev pub names_of : LiteralBounds → List ℕ × List ℕ
names_of names = (string_bytes names.left, string_bytes names.right)

-- the types of the literals that a name denotes
abbrev pub types_of : Nested → List ℕ → List BaseType
types_of regions name = literal_types (meanings regions name)
