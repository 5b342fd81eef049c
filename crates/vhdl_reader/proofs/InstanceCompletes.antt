-- Associations and instances that stand there are read, unless a bound is used up.
use Rattle.std.proofs.Common.{◌≡◌, ℕ, zero, true, false, Option, Some, None, List, [], ◌∷◌, refl, sym, ap, ◌∙◌, subst, arith}
use Rattle.vhdl_tokens.specs.declared.token.Kind.TheVariants as kind
use Rattle.vhdl_tokens.specs.declared.token.Token.{Token}
use Rattle.vhdl_tokens.specs.declared.token.Delimiter.TheVariants as delimiter
use Rattle.vhdl_tokens.specs.declared.reserved.Reserved.{Reserved}
use Rattle.vhdl_tokens.specs.declared.reserved.Reserved.TheVariants as reserved
use Rattle.vhdl_tree.specs.declared.expressions.Operator.TheVariants as op
use Rattle.vhdl_tree.specs.declared.expressions.Expr.{Expr, roll-Expr, out-Expr, out-roll-Expr}
use Rattle.vhdl_tree.specs.declared.expressions.Expr.TheVariants as expr
use Rattle.vhdl_tree.specs.declared.expressions.Choice.TheOpen.{Expr-F}
use Rattle.vhdl_tree.specs.declared.expressions.Name.{Name}
use Rattle.vhdl_tree.specs.declared.units.Actual.{Actual}
use Rattle.vhdl_tree.specs.declared.units.Association.{Association}
use Rattle.vhdl_tree.specs.declared.units.Instantiation.{Instantiation}
use Rattle.vhdl_tree.specs.declared.units.ConcurrentBody.TheVariants as a_body
use Rattle.vhdl_tree.specs.Words.{Span, id, word, mark, kind_of}
use Rattle.vhdl_tree.specs.Lists.{Many, Operations}
use Rattle.vhdl_tree.specs.Expressions.{name_of, Expression, NameOf, IsName, IsRelation, IsExpression}
use Rattle.vhdl_tree.specs.Units.{IsFormal, IsActual, IsAssociation, IsAssociations, IsMap, IsLibrary, IsArchitectureName, IsInstantiation}
use Rattle.vhdl_reader_expressions.specs.Kinds.{same, same_word, same_delimiter}
use Rattle.vhdl_reader_expressions.specs.Steps.{Found, sees}
use Rattle.vhdl_reader_expressions.proofs.Complete.{Reaches, Complete, bind_up, pure_up, on_hit, on_miss, look_up, word_up, token_up, separated_up}
use Rattle.vhdl_reader_expressions.proofs.Reached.{expression_reached, expression_starts, name_is_simple}
use Rattle.vhdl_reader_statements.proofs.Follow.{unlike_unseen}
use Rattle.vhdl_reader.specs.Reading as spec
use Rattle.vhdl_reader.specs.Reading.{is_open, is_identifier, formal_of, actual, named_actual, association_after, association_from, open_association, association, associations, map_list, map_of, bracketed_identifier, architecture_name, instance_of, instance_in, instance_after, instance}
use Rattle.vhdl_reader.proofs.BareNames.{alone_opens}
use Rattle.vhdl_reader.proofs.Follow.{EndsAssociation, map_unseen, architecture_unseen, not_open}

-- ---- an identifier is an expression, which may be a formal

abbrev bare_name : Span → Name
bare_name x = name_of (id x) []

bare_expression : {x : Span} {us : List Token} → Expression (id x ∷ us) (expr.Name (bare_name x)) us
bare_expression {x = x} {us = us} = let n : NameOf (id x ∷ us) (bare_name x) us = (zero, IsName.named Many.none) in let s = name_is_simple n in
    (s.0, IsExpression.chain op.And (IsRelation.plain s.1) Operations.none)

opened : (n : Name) → out-Expr (expr.Name n) ≡ Expr-F.Name n
unfolding roll-Expr out-Expr denote.Hole.Carrier.roll
opened n = out-roll-Expr (Expr-F.Name n)

bare_formal : (x : Span) → formal_of true (expr.Name (bare_name x)) ≡ Some (id x)
unfolding formal_of
bare_formal x = ap spec.bare (opened (bare_name x)) ∙ alone_opens (id x) []

module _ (bound : ℕ) where
  -- ---- associations

  actual_up : {ts us : List Token} {a : Actual} → IsActual ts a us → EndsAssociation (kind_of us) → Reaches (actual bound) ts (Found a us)
  unfolding actual
  actual_up (IsActual.value r) h = look_up is_open (spec.actual_by bound) (not_open _ (expression_starts r)) (bind_up _ ((expression_reached bound).reads r (record { below = h.below })) pure_up)
  actual_up IsActual.open_ h = look_up is_open (spec.actual_by bound) refl (bind_up _ (token_up _) pure_up)

  positional_up : (formal : Option Token) (a : Expr) {us : List Token} → EndsAssociation (kind_of us) → Reaches (spec.associated bound formal a) us (Found (spec.positional a) us)
  positional_up (Some t) a {us = us} h = on_miss _ (named_actual bound t) _ (unlike_unseen _ us h.positional) pure_up
  positional_up None a h = pure_up

  named_up : {x y : Span} {ts us : List Token} {a : Actual} → IsActual ts a us → EndsAssociation (kind_of us)
      → Reaches (association_after bound true (expr.Name (bare_name x))) (mark delimiter.Arrow y ∷ ts) (Found (record { formal = Some (id x); actual = a }) us)
  unfolding association_after named_actual
  named_up {x = x} {y = y} {ts = ts} {us = us} {a = a} r h =
      subst (λ f. Reaches (spec.associated bound f (expr.Name (bare_name x))) (mark delimiter.Arrow y ∷ ts) (Found (record { formal = Some (id x); actual = a }) us)) (sym (bare_formal x))
      (on_hit _ _ _ (bind_up _ (actual_up r h) pure_up))

  association_up : {ts us : List Token} {a : Association} → IsAssociation ts a us → EndsAssociation (kind_of us) → Reaches (association bound) ts (Found a us)
  unfolding association association_from association_after open_association
  association_up (IsAssociation.associated {ts = ts} IsFormal.absent (IsActual.value {a = a} r)) h = look_up is_open (spec.association_by bound) (not_open _ (expression_starts r))
      (look_up is_identifier (association_from bound) refl (bind_up _ ((expression_reached bound).reads r (record { below = h.below })) (positional_up (formal_of (is_identifier (kind_of ts)) a) a h)))
  association_up (IsAssociation.associated IsFormal.absent IsActual.open_) h = look_up is_open (spec.association_by bound) refl (bind_up _ (token_up _) pure_up)
  association_up (IsAssociation.associated IsFormal.present r) h = look_up is_open (spec.association_by bound) refl
      (look_up is_identifier (association_from bound) refl (bind_up (association_after bound true) ((expression_reached bound).reads bare_expression (record { below = omega arith })) (named_up r h)))

  association_complete : Complete EndsAssociation (association bound) IsAssociation
  association_complete = record { reads = association_up }

  associations_up : {ts us : List Token} {y : Span} {all : List Association} → IsAssociations ts all (mark delimiter.RightParen y ∷ us)
      → Reaches (associations bound) ts (Found all (mark delimiter.RightParen y ∷ us))
  unfolding associations same same_delimiter
  associations_up list = separated_up bound association_complete (record { below = omega arith; positional = λ e. cc }) list (record { below = omega arith; positional = λ e. cc }) refl

  -- ---- instances

  map_up : (w : Reserved) {ts us : List Token} {all : List Association} → IsMap w ts all us → sees (kind.Word w) us ≡ false → Reaches (map_of bound w) ts (Found all us)
  unfolding map_of map_list
  map_up w IsMap.absent last = on_miss _ (map_list bound) _ last pure_up
  map_up w (IsMap.present list) last = on_hit _ _ _ (bind_up _ (word_up _) (bind_up _ (word_up _) (bind_up _ (associations_up list) (bind_up _ (word_up _) pure_up))))

  architecture_name_up : {ts us : List Token} {a : Option Token} → IsArchitectureName ts a us → sees (kind.Delimiter delimiter.LeftParen) us ≡ false
      → Reaches (architecture_name bound) ts (Found a us)
  unfolding architecture_name bracketed_identifier
  architecture_name_up IsArchitectureName.absent last = on_miss _ (bracketed_identifier bound) _ last pure_up
  architecture_name_up IsArchitectureName.present last = on_hit _ _ _ (bind_up _ (token_up _) (bind_up _ (word_up _) pure_up))

  -- what follows the name of an entity
  instance_of_up : (library : Option Token) (name : Token) {us vs ws xs : List Token} {z : Span} {a : Option Token} {generics ports : List Association} → IsArchitectureName us a vs
      → IsMap reserved.Generic vs generics ws → IsMap reserved.Port ws ports (mark delimiter.Semicolon z ∷ xs) → Reaches (instance_of bound library name) us
      (Found (a_body.Instance (record { library = library; entity = name; architecture = a; generics = generics; ports = ports })) xs)
  unfolding instance_of same same_word same_delimiter
  instance_of_up library name a gs ps = bind_up _ (architecture_name_up a (map_unseen _ gs (map_unseen _ ps refl refl) refl)) (bind_up _ (map_up _ gs (map_unseen _ ps refl refl))
      (bind_up _ (map_up _ ps refl) (bind_up _ (word_up _) pure_up)))

  pub instance_up : {x : Span} {ts us : List Token} {i : Instantiation} → IsInstantiation (word reserved.Entity x ∷ ts) i us → Reaches (instance bound) ts (Found (a_body.Instance i) us)
  unfolding instance instance_after instance_in same same_word same_delimiter
  instance_up (IsInstantiation.instance {y = y} IsLibrary.absent a gs ps) = bind_up _ (token_up _)
      (on_miss _ (instance_in bound (id y)) _ (architecture_unseen _ a (map_unseen _ gs (map_unseen _ ps refl refl) refl) refl) (instance_of_up None (id y) a gs ps))
  instance_up (IsInstantiation.instance {y = y} (IsLibrary.present {x = u}) a gs ps) = bind_up _ (token_up _) (on_hit _ _ _ (bind_up _ (token_up _) (instance_of_up (Some (id u)) (id y) a gs ps)))
