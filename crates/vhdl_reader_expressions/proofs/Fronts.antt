-- Where a reader of expressions stops, some tokens more would have made what it reads.
use Rattle.std.proofs.Common.{◌≡◌, ℕ, zero, suc, Bool, true, false, List, [], ◌∷◌, Option, Some, refl, subst}
use Rattle.vhdl_tokens.specs.declared.token.Kind.{Kind}
use Rattle.vhdl_tokens.specs.declared.token.Kind.TheVariants as kind
use Rattle.vhdl_tokens.specs.declared.token.Token.{Token}
use Rattle.vhdl_tokens.specs.declared.token.Delimiter.TheVariants as delimiter
use Rattle.vhdl_tokens.specs.declared.reserved.Reserved.TheVariants as reserved
use Rattle.vhdl_tree.specs.declared.expressions.Operator.{Operator}
use Rattle.vhdl_tree.specs.declared.expressions.Operator.TheVariants as op
use Rattle.vhdl_tree.specs.declared.expressions.Expr.{Expr}
use Rattle.vhdl_tree.specs.declared.expressions.Expr.TheVariants as expr
use Rattle.vhdl_tree.specs.declared.expressions.Part.{Part}
use Rattle.vhdl_tree.specs.declared.expressions.Part.TheVariants as a_part
use Rattle.vhdl_tree.specs.declared.expressions.Choice.{Choice}
use Rattle.vhdl_tree.specs.declared.expressions.Choice.TheVariants as a_choice
use Rattle.vhdl_tree.specs.Words.{Span, tok, id, mark, kind_of, place_of}
use Rattle.vhdl_tree.specs.Lists.{Many, Preceded, Separated, Operations}
use Rattle.vhdl_tree.specs.Expressions.{chaining, standing_once, again, bracketed, relational, sign, prefix, direction_of, link_of, name_of, IsRelation, IsExpression, IsChoice, IsChoices, IsItem, IsPart, IsName, IsPrimary, IsFactor, IsTerm, IsSigned, IsSimple, SimpleWithin}
use Rattle.vhdl_reader_expressions.specs.Steps.{Parser}
use Rattle.vhdl_reader_expressions.proofs.Sound.{placed}
use Rattle.vhdl_reader_expressions.proofs.FrontSteps.{State, LeadsTo, LeadsFrom, Some_of, Viable, one_before, ◌then◌, somewhere, start_f, call_f, bind_f, pure_f, stop_f, spent_f, known_f, before_f, choose_f, on_f, look_f, here_f, word_f, token_f, any_f, optional_viable, viable_as}
use Rattle.vhdl_reader_expressions.proofs.FrontLists.{many_viable, operations_viable, operations_f, preceded_loop_f, separated_f}
use Rattle.vhdl_reader_expressions.proofs.SoundLists.{separated_snoc}
use Rattle.vhdl_reader_expressions.specs.declared.tables.Start.{Start}
use Rattle.vhdl_reader_expressions.specs.declared.tables.Start.TheVariants as a_start
use Rattle.vhdl_reader_expressions.specs.Reading as spec
use Rattle.vhdl_reader_expressions.proofs.Spelled.{again_self, others_choice, range_part, number_primary, literal_primary}
use Rattle.vhdl_reader_expressions.specs.Reading.{relation_after, relation, relations, chain, once_after, expression_after, expression_from, expression, choice_after, choice, choices_from, choices, item_from, positional, item_by, item_after, item, part_after, argument, attribute, bracketed_part, part, name_from, name, bracket, number, primary, factor_after, factor, term, signed, level, simple_at}

-- ---- over a reader of simple expressions one bracket further in

module _ (turns : ℕ) (simple : Parser Expr) (S : List Token → Expr → List Token → Type 0) (inner : Viable simple S) where
  relation_after_f : (place : ℕ) (left : Expr) → LeadsTo (Some_of S) (relation_after turns simple place left) (λ a. Some_of (IsRelation S))
  unfolding relation_after
  relation_after_f place left = choose_f relational refl (λ o. bind_f (call_f inner) (λ right. pure_f (λ ts us h. (_, IsRelation.compared h.1.2.1 h.1.3 h.2.1)))) (pure_f (λ ts us h. (_, IsRelation.plain h.1)))

  relation_viable : Viable (relation turns simple) (IsRelation S)
  unfolding relation
  relation_viable = record { leads = here_f (spec.relation_at turns simple) (λ place. bind_f (start_f inner) (λ left. relation_after_f place left)) }

  chain_f : (place : ℕ) (left : Expr) (o : Operator)
      → LeadsTo (λ ts us. (k : Kind) × (x : Span) × Some_of (IsRelation S) ts (tok k x ∷ us) × (chaining (Some k) ≡ Some o)) (chain turns simple place left o) (λ a. Some_of (IsExpression S))
  unfolding chain
  chain_f place left o = bind_f (call_f relation_viable) (λ right.
      bind_f (operations_f turns {other = Some_of (IsRelation S)} (link_of o right ∷ []) refl relation_viable (λ ts us h. (tok h.1.0 h.1.1 ∷ h.0, h.1.2, (_, Operations.more (again_self h.1.0 o h.1.3) h.2.1 Operations.none))))
      (λ links. pure_f (λ ts us h. (_, IsExpression.chain o h.1.1 h.2.1))))

  once_after_f : (place : ℕ) (left : Expr) → LeadsTo (Some_of (IsRelation S)) (once_after turns simple place left) (λ a. Some_of (IsExpression S))
  unfolding once_after
  once_after_f place left = choose_f standing_once refl (λ o. bind_f (call_f relation_viable) (λ right. pure_f (λ ts us h. (_, IsExpression.once h.1.2.1 h.1.3 h.2.1))))
      (pure_f (λ ts us h. (_, IsExpression.chain op.And h.1 Operations.none)))

  expression_after_f : (place : ℕ) (left : Expr) → LeadsTo (Some_of (IsRelation S)) (expression_after turns simple place left) (λ a. Some_of (IsExpression S))
  unfolding expression_after
  expression_after_f place left = choose_f chaining refl (λ o. chain_f place left o) (once_after_f place left)

  pub expression_from_f : (place : ℕ) (left : Expr) → LeadsTo (Some_of S) (expression_from turns simple place left) (λ a. Some_of (IsExpression S))
  unfolding expression_from
  expression_from_f place left = bind_f (relation_after_f place left) (λ first. expression_after_f place first)

  pub expression_viable : Viable (expression turns simple) (IsExpression S)
  unfolding expression
  expression_viable = record { leads = here_f (spec.expression_at turns simple) (λ place. bind_f (start_f inner) (λ left. expression_from_f place left)) }

  -- ---- choices and aggregates

  choice_after_f : (left : Expr) → LeadsTo (Some_of S) (choice_after turns simple left) (λ a. Some_of (IsChoice S))
  unfolding choice_after
  choice_after_f left = choose_f direction_of refl (λ d. bind_f (call_f inner) (λ right. pure_f (λ ts us h. (_, IsChoice.range h.1.2.1 h.1.3 h.2.1)))) (pure_f (λ ts us h. (_, IsChoice.value h.1)))

  choice_by_f : (b : Bool) → LeadsFrom (λ us. Unit {0} × (spec.is_others (kind_of us) ≡ b)) (λ ts us. us ≡ ts) (spec.choice_by turns simple b) (λ a. Some_of (IsChoice S))
  choice_by_f true = bind_f (any_f spec.is_others true (kind.Word reserved.Others) refl) (λ t. pure_f (λ ts us h. (_, others_choice S ts h.0 h.1 us h.2 h.3)))
  choice_by_f false = known_f _ (bind_f (start_f inner) (λ left. choice_after_f left))

  choice_viable : Viable (choice turns simple) (IsChoice S)
  unfolding choice
  choice_viable = record { leads = look_f spec.is_others (spec.choice_by turns simple) false choice_by_f }

  choices_from_f : (first : Choice) → LeadsTo (Some_of (IsChoice S)) (choices_from turns simple first) (λ a. Some_of (IsChoices S))
  unfolding choices_from
  choices_from_f first = before_f (λ ts us h. (_, Separated.several h.1 Preceded.none))
      (preceded_loop_f (λ all. Some_of (IsChoices S)) choice_viable (λ all x a b ts us vs h r. (_, separated_snoc h.1 r)) turns (first ∷ []))

  pub choices_viable : Viable (choices turns simple) (IsChoices S)
  unfolding choices
  choices_viable = record { leads = bind_f (start_f choice_viable) (λ first. choices_from_f first) }

  item_from_f : (first : Choice) → LeadsTo (Some_of (IsChoice S)) (item_from turns simple first) (λ a. Some_of (IsItem S))
  unfolding item_from
  item_from_f first = bind_f (choices_from_f first) (λ all. bind_f (word_f _) (λ _. bind_f (call_f expression_viable) (λ value. pure_f (λ ts us h. (_, IsItem.named h.1.1.1 h.2.1)))))

  positional_f : (place : ℕ) (left : Expr) → LeadsTo (Some_of S) (positional turns simple place left) (λ a. Some_of (IsItem S))
  unfolding positional
  positional_f place left = bind_f (expression_from_f place left) (λ value. pure_f (λ ts us h. (_, IsItem.positional h.1)))

  item_as_f : (place : ℕ) (left : Expr) (b : Bool) → LeadsFrom (λ us. Unit {0} × (spec.ends_choice (kind_of us) ≡ b)) (Some_of S) (spec.item_as turns simple place left b) (λ a. Some_of (IsItem S))
  item_as_f place left true = known_f _ (before_f (λ ts us h. (_, IsChoice.value h.1)) (item_from_f (a_choice.Value left)))
  item_as_f place left false = known_f _ (positional_f place left)

  item_by_f : (place : ℕ) (left : Expr) → LeadsTo (Some_of S) (item_by turns simple place left) (λ a. Some_of (IsItem S))
  unfolding item_by
  item_by_f place left = look_f spec.ends_choice (spec.item_as turns simple place left) false (item_as_f place left)

  item_after_f : (place : ℕ) (left : Expr) → LeadsTo (Some_of S) (item_after turns simple place left) (λ a. Some_of (IsItem S))
  unfolding item_after
  item_after_f place left = choose_f direction_of refl (λ d. bind_f (call_f inner) (λ right. before_f (λ ts us h. (_, IsChoice.range h.1.2.1 h.1.3 h.2.1)) (item_from_f (a_choice.Range left d right)))) (item_by_f place left)

  item_start_f : (b : Bool) → LeadsFrom (λ us. Unit {0} × (spec.is_others (kind_of us) ≡ b)) (λ ts us. us ≡ ts) (spec.item_start turns simple b) (λ a. Some_of (IsItem S))
  item_start_f true = bind_f (any_f spec.is_others true (kind.Word reserved.Others) refl) (λ t. before_f (λ ts us h. (_, others_choice S ts h.0 h.1 us h.2 h.3)) (item_from_f (a_choice.Others t)))
  item_start_f false = known_f _ (here_f (spec.item_at turns simple) (λ place. bind_f (start_f inner) (λ left. item_after_f place left)))

  item_viable : Viable (item turns simple) (IsItem S)
  unfolding item
  item_viable = record { leads = look_f spec.is_others (spec.item_start turns simple) false item_start_f }

  -- ---- names

  -- what stands in a bracket is a part, once the bracket is closed
  abbrev Argument : List Token → Part → List Token → Type 0
  Argument ts p us = (x y : Span) (vs : List Token) → us ≡ mark delimiter.RightParen y ∷ vs → IsPart S (mark delimiter.LeftParen x ∷ ts) p vs

  part_after_f : (place : ℕ) (left : Expr) → LeadsTo (Some_of S) (part_after turns simple place left) (λ a. Some_of Argument)
  unfolding part_after
  part_after_f place left = choose_f direction_of refl
      (λ d. bind_f (call_f inner) (λ right. pure_f (λ ts us h. (a_part.Slice h.1.2.0 d h.2.0, λ x y vs e. IsPart.slice h.1.2.1 h.1.3 (subst (S h.0 h.2.0) e h.2.1)))))
      (bind_f (expression_from_f place left) (λ value. pure_f (λ ts us h. (a_part.Index h.0, λ x y vs e. IsPart.index (subst (IsExpression S ts h.0) e h.1)))))

  argument_viable : Viable (argument turns simple) Argument
  unfolding argument
  argument_viable = record { leads = here_f (spec.argument_at turns simple) (λ place. bind_f (start_f inner) (λ left. part_after_f place left)) }

  bracketed_part_f : LeadsTo (λ ts us. (x : Span) × (mark delimiter.LeftParen x ∷ us ≡ ts)) (bracketed_part turns simple) (λ a. Some_of (IsPart S))
  unfolding bracketed_part
  bracketed_part_f = bind_f (call_f argument_viable) (λ p. bind_f (word_f _) (λ _. pure_f (λ ts us h. (_, placed (IsPart S) h.1.1.1 (h.1.2.1 h.1.1.0 h.0 us refl)))))

  attribute_by_f : (b : Bool) → LeadsFrom (λ us. Unit {0} × (spec.is_range_word (kind_of us) ≡ b)) (λ ts us. (x : Span) × (mark delimiter.Tick x ∷ us ≡ ts)) (spec.attribute_by turns simple b) (λ a. Some_of (IsPart S))
  attribute_by_f true = bind_f (any_f spec.is_range_word true (kind.Word reserved.Range) refl) (λ t. pure_f (λ ts us h. (_, range_part S ts h.0 h.2.0 h.1 us h.2.1 h.3)))
  attribute_by_f false = token_f _ _ (λ y. pure_f (λ ts us h. (_, placed (IsPart S) h.1 IsPart.attribute)))

  attribute_f : LeadsTo (λ ts us. (x : Span) × (mark delimiter.Tick x ∷ us ≡ ts)) (attribute turns simple) (λ a. Some_of (IsPart S))
  unfolding attribute
  attribute_f = look_f spec.is_range_word (spec.attribute_by turns simple) false attribute_by_f

  -- where neither a bracket nor an apostrophe stands, an attribute would do
  part_viable : Viable (part turns simple) (IsPart S)
  unfolding part
  part_viable = record {
    leads = on_f _ bracketed_part_f (on_f _ attribute_f (stop_f (one_before (mark delimiter.Tick somewhere) then one_before (id somewhere)) (a_part.Attribute (id somewhere))
        (λ ts us h. (_, placed (IsPart S) h IsPart.attribute))));
  }

  pub name_from_f : (t : Token) → LeadsTo (λ ts us. (x : Span) × (id x ∷ us ≡ ts)) (name_from turns simple t) (λ a. Some_of (IsName S))
  unfolding name_from
  name_from_f t = bind_f (call_f (many_viable turns spec.begins_part part_viable)) (λ all. pure_f (λ ts us h. (_, placed (IsName S) h.1.1 (IsName.named h.2.1))))

  pub name_viable : Viable (name turns simple) (IsName S)
  unfolding name
  name_viable = record { leads = token_f _ _ (λ x. before_f (λ ts us h. (x, h)) (name_from_f (id x))) }

  -- ---- operands

  bracket_viable : Viable (bracket turns simple) (IsPrimary S)
  unfolding bracket
  bracket_viable = record {
    leads = here_f (spec.bracket_at turns simple) (λ place. bind_f (word_f _) (λ _. bind_f (call_f item_viable) (λ first.
        bind_f (separated_f turns {other = λ ts us. (x : Span) × (mark delimiter.LeftParen x ∷ us ≡ ts)} (first ∷ []) item_viable (λ ts us h. (h.0, h.1, (_, Separated.several h.2.1 Preceded.none))))
        (λ all. bind_f (word_f _) (λ _. pure_f (λ ts us h. (_, subst (λ zs. IsPrimary S zs (bracketed (place_of zs) h.1.2.0) us) h.1.1.1 (IsPrimary.bracket h.1.2.1))))))));
  }

  number_f : LeadsFrom (λ us. Unit {0} × (spec.start_of (kind_of us) ≡ a_start.Numbered)) (λ ts us. us ≡ ts) (number turns simple) (λ a. Some_of (IsPrimary S))
  unfolding number
  number_f = bind_f (any_f spec.start_of a_start.Numbered kind.Int refl) (λ t. bind_f (call_f optional_viable) (λ unit.
      pure_f (λ ts us h. (_, number_primary S ts h.0 us h.1.0 h.1.1 h.2.0 h.1.2 h.1.3 h.2.1))))

  primary_by_f : (s : Start) → LeadsFrom (λ us. Unit {0} × (spec.start_of (kind_of us) ≡ s)) (λ ts us. us ≡ ts) (spec.primary_by turns simple s) (λ a. Some_of (IsPrimary S))
  primary_by_f a_start.Named = known_f _ (bind_f (start_f name_viable) (λ n. pure_f (λ ts us h. (_, IsPrimary.name h.1))))
  primary_by_f a_start.Numbered = number_f
  primary_by_f a_start.Spelled = bind_f (any_f spec.start_of a_start.Spelled kind.Char refl) (λ t. pure_f (λ ts us h. (_, literal_primary S ts us h.0 h.1 h.2 h.3)))
  primary_by_f a_start.Bracketed = known_f _ (start_f bracket_viable)
  primary_by_f a_start.Other = stop_f (one_before (id somewhere)) (expr.Name (name_of (id somewhere) [])) (λ ts us h. (_, placed (IsPrimary S) h (IsPrimary.name (IsName.named Many.none))))

  primary_viable : Viable (primary turns simple) (IsPrimary S)
  unfolding primary
  primary_viable = record { leads = look_f spec.start_of (spec.primary_by turns simple) a_start.Other primary_by_f }

  factor_after_f : (place : ℕ) (left : Expr) → LeadsTo (Some_of (IsPrimary S)) (factor_after turns simple place left) (λ a. Some_of (IsFactor S))
  unfolding factor_after
  factor_after_f place left = on_f _ (bind_f (call_f primary_viable) (λ right. pure_f (λ ts us h. (_, IsFactor.power h.1.1.1 h.2.1)))) (pure_f (λ ts us h. (_, IsFactor.plain h.1)))

  factor_viable : Viable (factor turns simple) (IsFactor S)
  unfolding factor
  factor_viable = record {
    leads = here_f (spec.factor_at turns simple) (λ place. choose_f prefix refl
        (λ o. bind_f (call_f primary_viable) (λ a. pure_f (λ ts us h. (_, subst (λ zs. IsFactor S zs (expr.Unary (place_of zs) o h.2.0) us) h.1.2 (IsFactor.prefixed h.1.3 h.2.1)))))
        (bind_f (start_f primary_viable) (λ left. factor_after_f place left)));
  }

  term_viable : Viable (term turns simple) (IsTerm S)
  unfolding term
  term_viable = record {
    leads = here_f (spec.term_at turns simple) (λ place. bind_f (start_f factor_viable) (λ first. bind_f (call_f (operations_viable turns refl factor_viable)) (λ links.
        pure_f (λ ts us h. (_, IsTerm.factors h.1.1 h.2.1)))));
  }

  signed_viable : Viable (signed turns simple) (IsSigned S)
  unfolding signed
  signed_viable = record {
    leads = here_f (spec.signed_at turns simple) (λ place. choose_f sign refl
        (λ o. bind_f (call_f term_viable) (λ a. pure_f (λ ts us h. (_, subst (λ zs. IsSigned S zs (expr.Unary (place_of zs) o h.2.0) us) h.1.2 (IsSigned.signed h.1.3 h.2.1)))))
        ((viable_as (λ vs us a h. IsSigned.plain h) term_viable).leads));
  }

  pub level_viable : Viable (level turns simple) (IsSimple S)
  unfolding level
  level_viable = record {
    leads = here_f (spec.level_at turns simple) (λ place. bind_f (start_f signed_viable) (λ first. bind_f (call_f (operations_viable turns refl term_viable)) (λ links.
        pure_f (λ ts us h. (_, IsSimple.terms h.1.1 h.2.1)))));
  }

-- ---- without the parameter: a name stands one bracket further in than the bound allows

pub identifier_simple : (S : List Token → Expr → List Token → Type 0) (x : Span) (us : List Token) → IsSimple S (id x ∷ us) (expr.Name (name_of (id x) [])) us
identifier_simple S x us = IsSimple.terms (IsSigned.plain (IsTerm.factors (IsFactor.plain (IsPrimary.name (IsName.named Many.none))) Operations.none)) Operations.none

pub simple_viable : (turns depth : ℕ) → Viable (simple_at turns depth) (SimpleWithin (suc depth))
unfolding simple_at
simple_viable turns zero = record {
  leads = spent_f (one_before (id somewhere)) (expr.Name (name_of (id somewhere) [])) (λ ts us h. (_, placed (IsSimple (SimpleWithin zero)) h (identifier_simple (SimpleWithin zero) somewhere us)));
}
simple_viable turns (suc depth) = level_viable turns (simple_at turns depth) (SimpleWithin (suc depth)) (simple_viable turns depth)
