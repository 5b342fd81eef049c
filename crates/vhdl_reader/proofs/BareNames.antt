-- An expression that begins with an identifier and has the tree of a name without parts is an identifier.
use Rattle.std.proofs.Common.{◌≡◌, ℕ, zero, suc, true, false, List, [], ◌∷◌, Option, Some, None, refl, subst, ap, sym, rules, arith}
use Rattle.vhdl_tokens.specs.declared.token.Kind.{Kind}
use Rattle.vhdl_tokens.specs.declared.token.Kind.TheVariants as kind
use Rattle.vhdl_tokens.specs.declared.token.Token.{Token}
use Rattle.vhdl_tree.specs.declared.expressions.Expr.{Expr, out-Expr, the_lemmas}
use Rattle.vhdl_tree.specs.declared.expressions.Expr.TheVariants as expr
use Rattle.vhdl_tree.specs.declared.expressions.Operator.TheVariants as op
use Rattle.vhdl_tree.specs.declared.expressions.Unary.{Unary}
use Rattle.vhdl_tree.specs.declared.expressions.Choice.TheOpen.{Expr-F}
use Rattle.vhdl_tree.specs.declared.expressions.Name.{Name, out-Name, the_lemmas as name_lemmas}
use Rattle.vhdl_tree.specs.declared.expressions.Part.{Part}
use Rattle.vhdl_tree.specs.declared.expressions.Link.{Link}
use Rattle.vhdl_tree.specs.Words.{Span, tok, id, kind_of, place_of}
use Rattle.vhdl_tree.specs.Lists.{Many, Operations}
use Rattle.vhdl_tree.specs.Expressions.{link_of, name_of, SimpleWithin, Expression, NameOf, IsName, IsPrimary, IsFactor, IsTerm, IsSigned, IsSimple, IsRelation, IsExpression}
use Rattle.vhdl_reader_expressions.specs.Reading as expressions
use Rattle.vhdl_reader_expressions.specs.Reading.{Layer}
use Rattle.vhdl_reader_expressions.proofs.NamedBounds.{name_in, as_name, chain_opens, literal_opens, within_name}
use Rattle.vhdl_reader.specs.Reading as spec
use Rattle.vhdl_reader.specs.Reading.{formal_of}

relation_name : (depth : ℕ) (ts : List Token) (a : Expr) (us : List Token) (n : Name) → IsRelation (SimpleWithin depth) ts a us → as_name a ≡ Some n → expressions.begins_name (kind_of ts) ≡ true
    → NameOf ts n us
relation_name depth ts a us n (IsRelation.plain r) is begins = within_name depth ts a us n r is begins
relation_name depth ts a us n (IsRelation.compared {a = b} {b = d} {o = o} r p s) is begins = let e = chain_opens (place_of ts) b (link_of o d ∷ []) in absurd cc

expression_name : (depth : ℕ) (ts : List Token) (a : Expr) (us : List Token) (n : Name) → IsExpression (SimpleWithin depth) ts a us → as_name a ≡ Some n → expressions.begins_name (kind_of ts) ≡ true
    → NameOf ts n us
expression_name depth ts a us n (IsExpression.chain {a = b} o r Operations.none) is begins = relation_name depth ts b us n r is begins
expression_name depth ts a us n (IsExpression.chain {a = b} o r (Operations.more {op = p} {a = d} {all = links} q s rest)) is begins =
    let e = chain_opens (place_of ts) b (link_of p d ∷ links) in absurd cc
expression_name depth ts a us n (IsExpression.once {a = b} {b = d} {o = o} r p s) is begins = let e = chain_opens (place_of ts) b (link_of o d ∷ []) in absurd cc

-- ---- the formal of an association

abbrev alone_of : Name → Option Token
alone_of n = spec.alone (out-Name n).identifier (out-Name n).parts

pub alone_opens : (t : Token) (parts : List Part) → alone_of (name_of t parts) ≡ spec.alone t parts
alone_opens t parts = first_of (search (rules, name_lemmas), grind (arith, name_lemmas))

-- the tokens are this identifier, and then us
pub record IsBare (ts us : List Token) (t : Token) : Type 0 where
  pub span : Span
  pub token : t ≡ id span
  pub stands : id span ∷ us ≡ ts

name_alone : (S : List Token → Expr → List Token → Type 0) (ts us : List Token) (n : Name) (t : Token) → IsName S ts n us → alone_of n ≡ Some t → IsBare ts us t
name_alone S ts us n t (IsName.named {x = x} Many.none) e = let o = alone_opens (id x) [] in let same : id x ≡ t = cc in record { span = x; token = sym same; stands = refl }
name_alone S ts us n t (IsName.named {x = x} (Many.more {a = p} {all = parts} r rest)) e = let o = alone_opens (id x) (p ∷ parts) in absurd cc

named_begins : (k : Option Kind) → spec.is_identifier k ≡ true → expressions.begins_name k ≡ true
named_begins (Some kind.Identifier) e = refl
named_begins _ e = absurd cc

-- a formal that is found is the whole expression
pub formal_found : (ts us : List Token) (a : Expr) (t : Token) → Expression ts a us → spec.is_identifier (kind_of ts) ≡ true → formal_of true a ≡ Some t → IsBare ts us t
unfolding formal_of
formal_found ts us a t r begins e = by (out-Expr a) refl e
  where
    by : (layer : Layer) → out-Expr a ≡ layer → spec.bare layer ≡ Some t → IsBare ts us t
    by (Expr-F.Name n) is found = let s = expression_name r.0 ts a us n r.1 (ap name_in is) (named_begins (kind_of ts) begins) in name_alone (SimpleWithin s.0) ts us n t s.1 found
    by _ is found = absurd cc

-- none is found where the expression begins with no identifier
pub formal_unfound : (a : Expr) (t : Token) → formal_of false a ≡ Some t → ⊥
unfolding formal_of
formal_unfound a t e = cc
