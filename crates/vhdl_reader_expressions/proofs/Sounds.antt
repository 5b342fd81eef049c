-- What a reader of expressions finds is so by the grammar.
use Rattle.std.proofs.Common.{◌≡◌, ℕ, zero, suc, Bool, true, false, List, [], ◌∷◌, Some, refl, subst}
use Rattle.vhdl_tokens.specs.declared.token.Kind.{Kind}
use Rattle.vhdl_tokens.specs.declared.token.Token.{Token}
use Rattle.vhdl_tokens.specs.declared.token.Delimiter.TheVariants as delimiter
use Rattle.vhdl_tree.specs.declared.expressions.Operator.{Operator}
use Rattle.vhdl_tree.specs.declared.expressions.Operator.TheVariants as op
use Rattle.vhdl_tree.specs.declared.expressions.Expr.{Expr}
use Rattle.vhdl_tree.specs.declared.expressions.Expr.TheVariants as expr
use Rattle.vhdl_tree.specs.declared.expressions.Part.{Part}
use Rattle.vhdl_tree.specs.declared.expressions.Choice.{Choice}
use Rattle.vhdl_tree.specs.declared.expressions.Choice.TheVariants as a_choice
use Rattle.vhdl_tree.specs.Words.{Span, tok, id, mark, kind_of, place_of}
use Rattle.vhdl_tree.specs.Lists.{Preceded, Separated, Operations}
use Rattle.vhdl_tree.specs.Expressions.{chaining, standing_once, again, bracketed, relational, sign, prefix, direction_of, link_of, IsRelation, IsExpression, IsChoice, IsChoices, IsItem, IsPart, IsName, IsPrimary, IsFactor, IsTerm, IsSigned, IsSimple, SimpleWithin}
use Rattle.vhdl_reader_expressions.specs.Steps.{Parser}
use Rattle.vhdl_reader_expressions.proofs.Sound.{Triple, Sound, start_t, call_t, bind_t, pure_t, stop_t, spent_sound, choose_t, on_t, here_start, word_t, token_t, before_t, placed, any_t, look_t, optional_sound, sound_as}
use Rattle.vhdl_reader_expressions.proofs.NextToken.{span_of}
use Rattle.vhdl_reader_expressions.proofs.SoundLists.{many_sound, operations_sound, operations_t, preceded_loop, separated_t, separated_snoc}
use Rattle.vhdl_reader_expressions.specs.declared.tables.Start.{Start}
use Rattle.vhdl_reader_expressions.specs.declared.tables.Start.TheVariants as a_start
use Rattle.vhdl_reader_expressions.specs.Reading as spec
use Rattle.vhdl_reader_expressions.proofs.Spelled.{again_self, others_choice, range_part, number_primary, literal_primary}
use Rattle.vhdl_reader_expressions.specs.Reading.{relation_after, relation, relations, chain, once_after, expression_after, expression_from, expression, choice_after, choice, choices_from, choices, item_from, positional, item_by, item_after, item, part_after, argument, attribute, bracketed_part, part, name_from, name, bracket, number, primary, factor_after, factor, term, signed, level, simple_at}

-- ---- over a reader of simple expressions one bracket further in

module _ (turns : ℕ) (simple : Parser Expr) (S : List Token → Expr → List Token → Type 0) (inner : Sound simple S) where
  -- a relation that begins with a simple expression
  relation_after_t : (ts : List Token) (left : Expr) → Triple (S ts left) (relation_after turns simple (place_of ts) left) (IsRelation S ts)
  unfolding relation_after
  relation_after_t ts left = choose_t relational refl (λ o. bind_t (call_t inner) (λ right. pure_t (λ us h. IsRelation.compared h.1.2 h.1.3 h.2))) (pure_t (λ us h. IsRelation.plain h))

  relation_sound : Sound (relation turns simple) (IsRelation S)
  unfolding relation
  relation_sound = record { from = λ ts. here_start (spec.relation_at turns simple) (bind_t (start_t inner) (λ left. relation_after_t ts left)) }

  relations_t : (ts : List Token) (left right : Expr) (o : Operator) → Triple (λ us. (vs : List Token) × IsRelation S ts left vs × Operations (again o) link_of (IsRelation S) vs (link_of o right ∷ []) us)
      (relations turns simple o (link_of o right ∷ [])) (λ links us. (vs : List Token) × IsRelation S ts left vs × Operations (again o) link_of (IsRelation S) vs links us)
  relations_t ts left right o = operations_t turns (link_of o right ∷ []) refl relation_sound (λ us h. h)

  chain_t : (ts : List Token) (left : Expr) (o : Operator)
      → Triple (λ us. (k : Kind) × (x : Span) × IsRelation S ts left (tok k x ∷ us) × (chaining (Some k) ≡ Some o)) (chain turns simple (place_of ts) left o) (IsExpression S ts)
  unfolding chain
  chain_t ts left o = bind_t (call_t relation_sound) (λ right. bind_t (before_t (λ us h. (tok h.1.0 h.1.1 ∷ h.0, h.1.2, Operations.more (again_self h.1.0 o h.1.3) h.2 Operations.none)) (relations_t ts left right o))
      (λ links. pure_t (λ us h. IsExpression.chain o h.1 h.2)))

  once_after_t : (ts : List Token) (left : Expr) → Triple (IsRelation S ts left) (once_after turns simple (place_of ts) left) (IsExpression S ts)
  unfolding once_after
  once_after_t ts left = choose_t standing_once refl (λ o. bind_t (call_t relation_sound) (λ right. pure_t (λ us h. IsExpression.once h.1.2 h.1.3 h.2)))
      (pure_t (λ us h. IsExpression.chain op.And h Operations.none))

  expression_after_t : (ts : List Token) (left : Expr) → Triple (IsRelation S ts left) (expression_after turns simple (place_of ts) left) (IsExpression S ts)
  unfolding expression_after
  expression_after_t ts left = choose_t chaining refl (λ o. chain_t ts left o) (once_after_t ts left)

  expression_from_t : (ts : List Token) (left : Expr) → Triple (S ts left) (expression_from turns simple (place_of ts) left) (IsExpression S ts)
  unfolding expression_from
  expression_from_t ts left = bind_t (relation_after_t ts left) (λ first. expression_after_t ts first)

  pub expression_sound : Sound (expression turns simple) (IsExpression S)
  unfolding expression
  expression_sound = record { from = λ ts. here_start (spec.expression_at turns simple) (bind_t (start_t inner) (λ left. expression_from_t ts left)) }

  -- ---- choices and aggregates

  choice_after_t : (ts : List Token) (left : Expr) → Triple (S ts left) (choice_after turns simple left) (IsChoice S ts)
  unfolding choice_after
  choice_after_t ts left = choose_t direction_of refl (λ d. bind_t (call_t inner) (λ right. pure_t (λ us h. IsChoice.range h.1.2 h.1.3 h.2))) (pure_t (λ us h. IsChoice.value h))

  choice_by_t : (ts : List Token) (b : Bool) → Triple (λ us. (us ≡ ts) × (spec.is_others (kind_of us) ≡ b)) (spec.choice_by turns simple b) (IsChoice S ts)
  choice_by_t ts true = bind_t any_t (λ t. pure_t (λ us h. others_choice S ts t.kind (span_of t) us h.0 h.1))
  choice_by_t ts false = bind_t (before_t (λ us h. h.0) (start_t inner)) (λ left. choice_after_t ts left)

  choice_sound : Sound (choice turns simple) (IsChoice S)
  unfolding choice
  choice_sound = record { from = λ ts. look_t spec.is_others (spec.choice_by turns simple) (choice_by_t ts) }

  choices_from_t : (ts : List Token) (first : Choice) → Triple (IsChoice S ts first) (choices_from turns simple first) (IsChoices S ts)
  unfolding choices_from
  choices_from_t ts first = before_t (λ us h. Separated.several h Preceded.none)
      (preceded_loop (λ all us. IsChoices S ts all us) choice_sound (λ all x a us vs h r. separated_snoc h r) turns (first ∷ []))

  pub choices_sound : Sound (choices turns simple) (IsChoices S)
  unfolding choices
  choices_sound = record { from = λ ts. bind_t (start_t choice_sound) (λ first. choices_from_t ts first) }

  item_from_t : (ts : List Token) (first : Choice) → Triple (IsChoice S ts first) (item_from turns simple first) (IsItem S ts)
  unfolding item_from
  item_from_t ts first = bind_t (choices_from_t ts first) (λ all. bind_t (word_t _) (λ _. bind_t (call_t expression_sound) (λ value. pure_t (λ us h. IsItem.named h.1.1 h.2))))

  positional_t : (ts : List Token) (left : Expr) → Triple (S ts left) (positional turns simple (place_of ts) left) (IsItem S ts)
  unfolding positional
  positional_t ts left = bind_t (expression_from_t ts left) (λ value. pure_t (λ us h. IsItem.positional h))

  item_as_t : (ts : List Token) (left : Expr) (b : Bool) → Triple (λ us. S ts left us × (spec.ends_choice (kind_of us) ≡ b)) (spec.item_as turns simple (place_of ts) left b) (IsItem S ts)
  item_as_t ts left true = before_t (λ us h. IsChoice.value h.0) (item_from_t ts (a_choice.Value left))
  item_as_t ts left false = before_t (λ us h. h.0) (positional_t ts left)

  item_by_t : (ts : List Token) (left : Expr) → Triple (S ts left) (item_by turns simple (place_of ts) left) (IsItem S ts)
  unfolding item_by
  item_by_t ts left = look_t spec.ends_choice (spec.item_as turns simple (place_of ts) left) (item_as_t ts left)

  item_after_t : (ts : List Token) (left : Expr) → Triple (S ts left) (item_after turns simple (place_of ts) left) (IsItem S ts)
  unfolding item_after
  item_after_t ts left = choose_t direction_of refl (λ d. bind_t (call_t inner) (λ right. before_t (λ us h. IsChoice.range h.1.2 h.1.3 h.2) (item_from_t ts (a_choice.Range left d right)))) (item_by_t ts left)

  item_start_t : (ts : List Token) (b : Bool) → Triple (λ us. (us ≡ ts) × (spec.is_others (kind_of us) ≡ b)) (spec.item_start turns simple b) (IsItem S ts)
  item_start_t ts true = bind_t any_t (λ t. before_t (λ us h. others_choice S ts t.kind (span_of t) us h.0 h.1) (item_from_t ts (a_choice.Others t)))
  item_start_t ts false = before_t (λ us h. h.0) (here_start (spec.item_at turns simple) (bind_t (start_t inner) (λ left. item_after_t ts left)))

  item_sound : Sound (item turns simple) (IsItem S)
  unfolding item
  item_sound = record { from = λ ts. look_t spec.is_others (spec.item_start turns simple) (item_start_t ts) }

  -- ---- names

  -- what stands in a bracket is a part, once the bracket is closed
  abbrev Argument : List Token → Part → List Token → Type 0
  Argument ts p us = (x y : Span) (vs : List Token) → us ≡ mark delimiter.RightParen y ∷ vs → IsPart S (mark delimiter.LeftParen x ∷ ts) p vs

  part_after_t : (ts : List Token) (left : Expr) → Triple (S ts left) (part_after turns simple (place_of ts) left) (Argument ts)
  unfolding part_after
  part_after_t ts left = choose_t direction_of refl (λ d. bind_t (call_t inner) (λ right. pure_t (λ us h x y vs e. IsPart.slice h.1.2 h.1.3 (subst (S h.0 right) e h.2))))
      (bind_t (expression_from_t ts left) (λ value. pure_t (λ us h x y vs e. IsPart.index (subst (IsExpression S ts value) e h))))

  argument_sound : Sound (argument turns simple) Argument
  unfolding argument
  argument_sound = record { from = λ ts. here_start (spec.argument_at turns simple) (bind_t (start_t inner) (λ left. part_after_t ts left)) }

  bracketed_part_t : (ts : List Token) → Triple (λ us. (x : Span) × (mark delimiter.LeftParen x ∷ us ≡ ts)) (bracketed_part turns simple) (IsPart S ts)
  unfolding bracketed_part
  bracketed_part_t ts = bind_t (call_t argument_sound) (λ p. bind_t (word_t _) (λ _. pure_t (λ us h. placed (IsPart S) h.1.1.1 (h.1.2 h.1.1.0 h.0 us refl))))

  attribute_by_t : (ts : List Token) (b : Bool) → Triple (λ us. ((x : Span) × (mark delimiter.Tick x ∷ us ≡ ts)) × (spec.is_range_word (kind_of us) ≡ b)) (spec.attribute_by turns simple b) (IsPart S ts)
  attribute_by_t ts true = bind_t any_t (λ t. pure_t (λ us h. range_part S ts t.kind h.0.0 (span_of t) us h.0.1 h.1))
  attribute_by_t ts false = token_t _ _ (λ y. pure_t (λ us h. placed (IsPart S) h.0.1 IsPart.attribute))

  attribute_t : (ts : List Token) → Triple (λ us. (x : Span) × (mark delimiter.Tick x ∷ us ≡ ts)) (attribute turns simple) (IsPart S ts)
  unfolding attribute
  attribute_t ts = look_t spec.is_range_word (spec.attribute_by turns simple) (attribute_by_t ts)

  part_sound : Sound (part turns simple) (IsPart S)
  unfolding part
  part_sound = record { from = λ ts. on_t _ (bracketed_part_t ts) (on_t _ (attribute_t ts) stop_t) }

  pub name_from_t : (ts : List Token) (x : Span) → Triple (λ us. id x ∷ us ≡ ts) (name_from turns simple (id x)) (IsName S ts)
  unfolding name_from
  name_from_t ts x = bind_t (call_t (many_sound turns spec.begins_part part_sound)) (λ all. pure_t (λ us h. placed (IsName S) h.1 (IsName.named h.2)))

  pub name_sound : Sound (name turns simple) (IsName S)
  unfolding name
  name_sound = record { from = λ ts. token_t _ _ (λ x. name_from_t ts x) }

  -- ---- operands

  bracket_sound : Sound (bracket turns simple) (IsPrimary S)
  unfolding bracket
  bracket_sound = record {
    from = λ ts. here_start (spec.bracket_at turns simple) (bind_t (word_t _) (λ _. bind_t (call_t item_sound) (λ first.
        bind_t (separated_t turns (first ∷ []) item_sound (λ us h. (h.0, h.1, Separated.several h.2 Preceded.none))) (λ all. bind_t (word_t _) (λ _.
        pure_t (λ us h. subst (λ zs. IsPrimary S zs (bracketed (place_of zs) all) us) h.1.1.1 (IsPrimary.bracket h.1.2)))))));
  }

  number_t : (ts : List Token) → Triple (λ us. (us ≡ ts) × (spec.start_of (kind_of us) ≡ a_start.Numbered)) (number turns simple) (IsPrimary S ts)
  unfolding number
  number_t ts = bind_t any_t (λ t. bind_t (call_t optional_sound) (λ unit. pure_t (λ us h. number_primary S ts h.0 us t.kind (span_of t) unit h.1.0 h.1.1 h.2)))

  primary_by_t : (ts : List Token) (s : Start) → Triple (λ us. (us ≡ ts) × (spec.start_of (kind_of us) ≡ s)) (spec.primary_by turns simple s) (IsPrimary S ts)
  primary_by_t ts a_start.Named = bind_t (before_t (λ us h. h.0) (start_t name_sound)) (λ n. pure_t (λ us h. IsPrimary.name h))
  primary_by_t ts a_start.Numbered = number_t ts
  primary_by_t ts a_start.Spelled = bind_t any_t (λ t. pure_t (λ us h. literal_primary S ts us t.kind (span_of t) h.0 h.1))
  primary_by_t ts a_start.Bracketed = before_t (λ us h. h.0) (start_t bracket_sound)
  primary_by_t ts a_start.Other = stop_t

  primary_sound : Sound (primary turns simple) (IsPrimary S)
  unfolding primary
  primary_sound = record { from = λ ts. look_t spec.start_of (spec.primary_by turns simple) (primary_by_t ts) }

  factor_after_t : (ts : List Token) (left : Expr) → Triple (IsPrimary S ts left) (factor_after turns simple (place_of ts) left) (IsFactor S ts)
  unfolding factor_after
  factor_after_t ts left = on_t _ (bind_t (call_t primary_sound) (λ right. pure_t (λ us h. IsFactor.power h.1.1 h.2))) (pure_t (λ us h. IsFactor.plain h))

  factor_sound : Sound (factor turns simple) (IsFactor S)
  unfolding factor
  factor_sound = record {
    from = λ ts. here_start (spec.factor_at turns simple) (choose_t prefix refl
        (λ o. bind_t (call_t primary_sound) (λ a. pure_t (λ us h. subst (λ zs. IsFactor S zs (expr.Unary (place_of zs) o a) us) h.1.2 (IsFactor.prefixed h.1.3 h.2))))
        (bind_t (start_t primary_sound) (λ left. factor_after_t ts left)));
  }

  term_sound : Sound (term turns simple) (IsTerm S)
  unfolding term
  term_sound = record {
    from = λ ts. here_start (spec.term_at turns simple) (bind_t (start_t factor_sound) (λ first. bind_t (call_t (operations_sound turns refl factor_sound)) (λ links.
        pure_t (λ us h. IsTerm.factors h.1 h.2))));
  }

  signed_sound : Sound (signed turns simple) (IsSigned S)
  unfolding signed
  signed_sound = record {
    from = λ ts. here_start (spec.signed_at turns simple) (choose_t sign refl
        (λ o. bind_t (call_t term_sound) (λ a. pure_t (λ us h. subst (λ zs. IsSigned S zs (expr.Unary (place_of zs) o a) us) h.1.2 (IsSigned.signed h.1.3 h.2))))
        ((sound_as (λ vs us a h. IsSigned.plain h) term_sound).from ts));
  }

  pub level_sound : Sound (level turns simple) (IsSimple S)
  unfolding level
  level_sound = record {
    from = λ ts. here_start (spec.level_at turns simple) (bind_t (start_t signed_sound) (λ first. bind_t (call_t (operations_sound turns refl term_sound)) (λ links.
        pure_t (λ us h. IsSimple.terms h.1 h.2))));
  }

-- ---- without the parameter

pub simple_sound : (turns depth : ℕ) → Sound (simple_at turns depth) (SimpleWithin depth)
unfolding simple_at
simple_sound turns zero = spent_sound
simple_sound turns (suc depth) = level_sound turns (simple_at turns depth) (SimpleWithin depth) (simple_sound turns depth)
