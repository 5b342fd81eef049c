-- What a token that is next makes of a production, by what a test says of its kind.
use Rattle.std.proofs.Common.{◌≡◌, true, List, ◌∷◌, Option, Some, refl}
use denote.Enum.Bare.{true_same}
use Rattle.vhdl_tokens.specs.declared.token.Kind.{Kind}
use Rattle.vhdl_tokens.specs.declared.token.Kind.TheVariants as kind
use Rattle.vhdl_tokens.specs.declared.token.Token.{Token}
use Rattle.vhdl_tokens.specs.declared.token.Delimiter.TheVariants as delimiter
use Rattle.vhdl_tokens.specs.declared.reserved.Reserved.TheVariants as reserved
use Rattle.vhdl_tree.specs.contracts.expressions.Operator.{the_type}
use Rattle.vhdl_tree.specs.declared.expressions.Operator.{Operator}
use Rattle.vhdl_tree.specs.declared.expressions.Expr.{Expr}
use Rattle.vhdl_tree.specs.declared.expressions.Expr.TheVariants as expr
use Rattle.vhdl_tree.specs.declared.expressions.Part.TheVariants as a_part
use Rattle.vhdl_tree.specs.declared.expressions.Choice.TheVariants as a_choice
use Rattle.vhdl_tree.specs.Words.{Span, tok, mark}
use Rattle.vhdl_tree.specs.Lists.{IsOptional}
use Rattle.vhdl_tree.specs.Expressions.{chaining, again, same_operator, IsChoice, IsPart, IsPrimary}
use Rattle.vhdl_reader_expressions.proofs.Sound.{placed}
use Rattle.vhdl_reader_expressions.specs.declared.tables.Start.TheVariants as a_start
use Rattle.vhdl_reader_expressions.specs.Reading as spec

-- an operator that may stand in a chain is itself again
pub again_self : (k : Kind) (o : Operator) → chaining (Some k) ≡ Some o → again o (Some k) ≡ Some o
unfolding same_operator
again_self k o is = rw is (rw (true_same the_type o o refl) refl)

module _ (S : List Token → Expr → List Token → Type 0) where
  pub others_choice : (ts : List Token) (k : Kind) (x : Span) (us : List Token) → tok k x ∷ us ≡ ts → spec.is_others (Some k) ≡ true → IsChoice S ts (a_choice.Others (tok k x)) us
  others_choice ts (kind.Word reserved.Others) x us e h = placed (IsChoice S) e IsChoice.others
  others_choice ts _ x us e h = absurd cc

  pub range_part : (ts : List Token) (k : Kind) (x y : Span) (us : List Token) → mark delimiter.Tick x ∷ tok k y ∷ us ≡ ts → spec.is_range_word (Some k) ≡ true → IsPart S ts (a_part.Attribute (tok k y)) us
  range_part ts (kind.Word reserved.Range) x y us e h = placed (IsPart S) e IsPart.range
  range_part ts _ x y us e h = absurd cc

  pub number_primary : (ts vs us : List Token) (k : Kind) (x : Span) (unit : Option Token) → tok k x ∷ vs ≡ ts → spec.start_of (Some k) ≡ a_start.Numbered → IsOptional kind.Identifier vs unit us
      → IsPrimary S ts (expr.Number (tok k x) unit) us
  number_primary ts vs us kind.Int x unit e h r = placed (IsPrimary S) e (IsPrimary.number r)
  number_primary ts vs us (kind.Delimiter delimiter.LeftParen) x unit e h r = absurd cc
  number_primary ts vs us (kind.Delimiter _) x unit e h r = absurd cc
  number_primary ts vs us _ x unit e h r = absurd cc

  pub literal_primary : (ts us : List Token) (k : Kind) (x : Span) → tok k x ∷ us ≡ ts → spec.start_of (Some k) ≡ a_start.Spelled → IsPrimary S ts (expr.Literal (tok k x)) us
  literal_primary ts us kind.Char x e h = placed (IsPrimary S) e (IsPrimary.literal refl)
  literal_primary ts us kind.Text x e h = placed (IsPrimary S) e (IsPrimary.literal refl)
  literal_primary ts us kind.Bits x e h = placed (IsPrimary S) e (IsPrimary.literal refl)
  literal_primary ts us (kind.Delimiter delimiter.LeftParen) x e h = absurd cc
  literal_primary ts us (kind.Delimiter _) x e h = absurd cc
  literal_primary ts us _ x e h = absurd cc
