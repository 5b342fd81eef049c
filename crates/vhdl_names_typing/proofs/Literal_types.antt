-- The types of an expression that is an enumeration literal and nothing else.
use Rattle.std.proofs.Common.{◌≡◌, ◌==◌, ℕ, Bool, true, false, List, [], ◌∷◌, refl, sym, ap, subst, ◌∙◌, length, map, Option, if◌then◌else◌, arith}
use Rattle.std.specs.Prelude.{Some, None}
use Rattle.std.specs.List.{list_all}
use Rattle.std.proofs.lemmas.Bool.{eqb-true}
use Rattle.vhdl_tokens.specs.declared.token.Kind.{Kind}
use Rattle.vhdl_tokens.specs.declared.token.Kind.TheVariants as kind
use Rattle.vhdl_tokens.specs.declared.token.Token.{Token}
use Rattle.vhdl_tokens.specs.Meaning.{span}
use Rattle.vhdl_tree.specs.declared.declarations.Bounds.{Bounds}
use Rattle.vhdl_tree.specs.declared.declarations.Bounds.TheVariants as bounds
use Rattle.vhdl_tree.specs.declared.expressions.Choice.{Choice}
use Rattle.vhdl_tree.specs.declared.expressions.Expr.{Expr, out-Expr}
use Rattle.vhdl_tree.specs.declared.expressions.Item.{Item}
use Rattle.vhdl_tree.specs.declared.expressions.Link.{Link}
use Rattle.vhdl_tree.specs.declared.expressions.Name.{Name, out-Name}
use Rattle.vhdl_tree.specs.declared.expressions.Part.{Part}
use Rattle.vhdl_units.specs.declared.base_type.BaseType.{BaseType}
use Rattle.vhdl_units.specs.declared.entry.Entry.{Entry}
use Rattle.vhdl_units.specs.declared.entry.Entry.TheVariants as entry
use Rattle.vhdl_units.specs.Entries.{is_literal}
use Rattle.vhdl_names_overloads.specs.Literals.{literal_types}
use Rattle.vhdl_names_scope.specs.Names.{word_in}
use Rattle.vhdl_names_scope.specs.Nesting.{Nested, meanings}
use Rattle.vhdl_names_typing.specs.Literals.{literal_told, spelled_told, spelled_types}
use Rattle.vhdl_names_typing.specs.Named.{are_literals, both, denoted_by, is_character, literal_name, literal_names, token_in, sole_token}
use Rattle.vhdl_names_typing.specs.Names.{begun, declared, denoted, extended_by, finished, name_told, told_as, undeclared, value_as, value_of}
use Rattle.vhdl_names_typing.specs.Scope.{look}
use Rattle.vhdl_names_typing.specs.Trees.{choice_step, expr_step, item_step, link_step, name_step, part_step, told, told_name, told_part}
use Rattle.vhdl_names_typing.specs.declared.told.ChoiceTold.{ChoiceTold}
use Rattle.vhdl_names_typing.specs.declared.told.ItemTold.{ItemTold}
use Rattle.vhdl_names_typing.specs.declared.told.LinkTold.{LinkTold}
use Rattle.vhdl_names_typing.specs.declared.told.NameTold.{NameTold}
use Rattle.vhdl_names_typing.specs.declared.told.PartTold.{PartTold}
use Rattle.vhdl_names_typing.specs.declared.told.Told.{Told}
use Rattle.vhdl_tree.specs.declared.expressions.Choice.TheOpen.{Expr-F}
use Rattle.vhdl_tree.specs.declared.expressions.Choice.TheFolds.{fold_out-Expr, fold_out-Name}

-- ---- the token

pub chosen : {X : Type 0} (b : Bool) (x y : X) → (if b then Some x else None) ≡ Some y → (b ≡ true) × (x ≡ y)
chosen true x y h = (refl, cc)
chosen false x y h = absurd cc

pub nothing_follows : {X Y : Type 0} (f : X → Y) (xs : List X) → (length xs == 0) ≡ true → map f xs ≡ []
nothing_follows f [] h = refl
nothing_follows f (x ∷ xs) h = absurd (omega (arith, eqb-true (length (x ∷ xs)) 0 h))

-- ---- the name

-- an expression is a name that denotes enumeration literals alone
pub record IsLiteral (text : List ℕ) (regions : Nested) (e : Expr) (name : List ℕ) : Type 0 where
  pub token : Token
  pub token_is : sole_token e ≡ Some token
  pub name_is : name ≡ word_in text token
  pub literals : list_all is_literal (meanings regions name) ≡ true

all_literals : (entries : List Entry) → are_literals entries ≡ true → list_all is_literal entries ≡ true
unfolding are_literals
all_literals [] h = absurd cc
all_literals (e ∷ entries) h = h

denoted_is : (text : List ℕ) (regions : Nested) (e : Expr) (token : Option Token) (name : List ℕ) → sole_token e ≡ token → denoted_by text regions token ≡ Some name → IsLiteral text regions e name
unfolding denoted_by
denoted_is text regions e None name is h = absurd cc
denoted_is text regions e (Some token) name is h =
    let parts = chosen (are_literals (meanings regions (word_in text token))) (word_in text token) name h in
    record {
      token = token;
      token_is = is;
      name_is = sym parts.1;
      literals = all_literals (meanings regions name) (subst (λ n. are_literals (meanings regions n) ≡ true) parts.1 parts.0);
    }

literal_is : (text : List ℕ) (regions : Nested) (e : Expr) (name : List ℕ) → literal_name text regions e ≡ Some name → IsLiteral text regions e name
unfolding literal_name
literal_is text regions e name h = denoted_is text regions e (sole_token e) name refl h

both_are : (one other : Option (List ℕ)) (left right : List ℕ) → both one other ≡ Some (left, right) → (one ≡ Some left) × (other ≡ Some right)
unfolding both
both_are (Some x) (Some y) left right h =
    let pair : ◌≡◌ {A = List ℕ × List ℕ} (x, y) (left, right) = cc in
    (ap (λ (p : List ℕ × List ℕ). Some p.0) pair, ap (λ (p : List ℕ × List ℕ). Some p.1) pair)
both_are None _ left right h = absurd cc
both_are (Some x) None left right h = absurd cc

-- both bounds of a range are
abbrev pub AreLiterals : List ℕ → Nested → Bounds → List ℕ → List ℕ → Type 0
AreLiterals text regions (bounds.Range low direction high) left right = IsLiteral text regions low left × IsLiteral text regions high right
AreLiterals text regions (bounds.Name n) left right = ⊥

pub bounds_are_literals : (text : List ℕ) (regions : Nested) (b : Bounds) (left right : List ℕ) → literal_names text regions b ≡ Some (left, right) → AreLiterals text regions b left right
unfolding literal_names
bounds_are_literals text regions (bounds.Range low direction high) left right h =
    let parts = both_are (literal_name text regions low) (literal_name text regions high) left right h in
    (literal_is text regions low left parts.0, literal_is text regions high right parts.1)
bounds_are_literals text regions (bounds.Name n) left right h = absurd cc

-- ---- its types

name_types : (text : List ℕ) (place : ℕ) (entries : List Entry) → list_all is_literal entries ≡ true → (value_of (name_told text place entries [])).types ≡ literal_types entries
unfolding value_of value_as name_told extended_by finished begun declared undeclared denoted told_as literal_types
name_types text place [] h = refl
name_types text place (entry.Literal t p ∷ entries) h = refl
name_types text place (entry.Subtype mark ∷ entries) h = absurd cc
name_types text place (entry.Object o ∷ entries) h = absurd cc
name_types text place (entry.Function f ∷ entries) h = absurd cc
name_types text place (entry.Unit u ∷ entries) h = absurd cc
name_types text place (entry.Label l ∷ entries) h = absurd cc

character_types : (k : Kind) (bytes : List ℕ) (entries : List Entry) → is_character k ≡ true → spelled_types k bytes entries ≡ literal_types entries
unfolding is_character spelled_types
character_types kind.Char bytes entries h = refl
character_types _ bytes entries h = absurd cc

token_types : (text : List ℕ) (look : Token → List Entry) (token : Token) → is_character token.kind ≡ true → (spelled_told text look token).types ≡ literal_types (look token)
unfolding spelled_told literal_told
token_types text look token h = character_types token.kind (span text token) (look token) h

module _ (text : List ℕ) (look : Token → List Entry) where
  token_told : (e : Expr) (token : Token) → out-Expr e ≡ Expr-F.Literal token → told text look e ≡ spelled_told text look token
  token_told e token is =
      rw is at (fold_out-Expr ChoiceTold Told PartTold ItemTold LinkTold NameTold choice_step (expr_step text look) (part_step text look) (item_step text look) (link_step text look) (name_step text look) e)

  name_told_is : (e : Expr) (n : Name) → out-Expr e ≡ Expr-F.Name n → told text look e ≡ value_of (told_name text look n)
  name_told_is e n is =
      rw is at (fold_out-Expr ChoiceTold Told PartTold ItemTold LinkTold NameTold choice_step (expr_step text look) (part_step text look) (item_step text look) (link_step text look) (name_step text look) e)

  parts_told : (n : Name) → told_name text look n ≡ name_told text (out-Name n).identifier.start (look (out-Name n).identifier) (map (told_part text look) (out-Name n).parts)
  parts_told n = fold_out-Name ChoiceTold Told PartTold ItemTold LinkTold NameTold choice_step (expr_step text look) (part_step text look) (item_step text look) (link_step text look) (name_step text look) n

  layer_types : (e : Expr) (layer : Expr-F Choice Expr Part Item Link Name) (token : Token) → out-Expr e ≡ layer → token_in layer ≡ Some token → list_all is_literal (look token) ≡ true
      → (told text look e).types ≡ literal_types (look token)
  unfolding token_in
  layer_types e (Expr-F.Name n) token is h l =
      let parts = chosen (length (out-Name n).parts == 0) (out-Name n).identifier token h in
      let literals : list_all is_literal (look (out-Name n).identifier) ≡ true = ap (λ t. list_all is_literal (look t)) parts.1 ∙ l in
      ap (λ (t : Told). t.types) (name_told_is e n is ∙ ap value_of (parts_told n)
      ∙ ap (λ xs. value_of (name_told text (out-Name n).identifier.start (look (out-Name n).identifier) xs)) (nothing_follows (told_part text look) (out-Name n).parts parts.0))
      ∙ name_types text (out-Name n).identifier.start (look (out-Name n).identifier) literals
      ∙ ap (λ t. literal_types (look t)) parts.1
  layer_types e (Expr-F.Literal u) token is h l =
      let parts = chosen (is_character u.kind) u token h in
      ap (λ (t : Told). t.types) (token_told e u is) ∙ token_types text look u parts.0 ∙ ap (λ t. literal_types (look t)) parts.1
  layer_types e _ token is h l = absurd cc

pub literal_told_types : (text : List ℕ) (regions : Nested) (e : Expr) (name : List ℕ) → IsLiteral text regions e name → (told text (look text regions) e).types ≡ literal_types (meanings regions name)
unfolding sole_token look
literal_told_types text regions e name l =
    layer_types text (look text regions) e (out-Expr e) l.token refl l.token_is (ap (λ n. list_all is_literal (meanings regions n)) (sym l.name_is) ∙ l.literals)
    ∙ ap (λ n. literal_types (meanings regions n)) (sym l.name_is)
