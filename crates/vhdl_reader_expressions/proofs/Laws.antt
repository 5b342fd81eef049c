-- What a reader of expressions answers hangs on no token behind its place, and its bounds suffice.
use Rattle.std.proofs.Common.{ℕ, zero, suc, ◌≤◌, Bool, true, false, List, [], ◌∷◌, Option, refl, arith}
use Rattle.vhdl_tokens.specs.declared.token.Kind.{Kind}
use Rattle.vhdl_tokens.specs.declared.token.Kind.TheVariants as kind
use Rattle.vhdl_tokens.specs.declared.token.Token.{Token}
use Rattle.vhdl_tokens.specs.declared.token.Delimiter.TheVariants as delimiter
use Rattle.vhdl_tree.specs.declared.expressions.Operator.{Operator}
use Rattle.vhdl_tree.specs.declared.expressions.Expr.{Expr}
use Rattle.vhdl_tree.specs.declared.expressions.Link.{Link}
use Rattle.vhdl_tree.specs.declared.expressions.Item.{Item}
use Rattle.vhdl_tree.specs.declared.expressions.Choice.{Choice}
use Rattle.vhdl_tree.specs.declared.expressions.Choice.TheVariants as a_choice
use Rattle.vhdl_tree.specs.Expressions.{chaining, standing_once, again, relational, sign, adding, multiplying, prefix, direction_of, link_of}
use Rattle.vhdl_reader_expressions.specs.Steps.{Parser}
use Rattle.vhdl_reader_expressions.proofs.Local.{Law, bind_law, choose_law, pure_law, stop_law, spent_law, here_law, look_law, on_law, on_enter, word_law, any_law, token_law, optional_law}
use Rattle.vhdl_reader_expressions.proofs.Loops.{Moves, on_moves, enter_moves, stop_moves, many_law, preceded_law, operations_law, word_enter}
use Rattle.vhdl_reader_expressions.specs.declared.tables.Start.{Start}
use Rattle.vhdl_reader_expressions.specs.declared.tables.Start.TheVariants as a_start
use Rattle.vhdl_reader_expressions.specs.Reading as spec
use Rattle.vhdl_reader_expressions.specs.Reading.{relation_after, relation, relations, chain, once_after, expression_after, expression_from, expression, choice_after, choice, choices_from, choices, item_from, positional, item_by, item_after, item, part_after, argument, attribute, bracketed_part, part, name_from, name, bracket, number, primary, factor_after, factor, term, signed, level, simple_at}

-- ---- over a reader of simple expressions one bracket further in, whose bounds suffice for n tokens

module _ (turns n : ℕ) (fits : n ≤ turns) (simple : Parser Expr) (inner : Law n simple) where
  relation_after_law : (place : ℕ) (left : Expr) → Law n (relation_after turns simple place left)
  unfolding relation_after
  relation_after_law place left = choose_law relational (λ o. bind_law inner (λ right. pure_law)) pure_law

  relation_law : Law n (relation turns simple)
  unfolding relation
  relation_law = here_law (spec.relation_at turns simple) (λ place. bind_law inner (λ left. relation_after_law place left))

  relations_law : (o : Operator) (links : List Link) → Law n (relations turns simple o links)
  relations_law o links = operations_law turns (again o) link_of links refl fits relation_law

  chain_law : (place : ℕ) (left : Expr) (o : Operator) → Law n (chain turns simple place left o)
  unfolding chain
  chain_law place left o = bind_law relation_law (λ right. bind_law (relations_law o (link_of o right ∷ [])) (λ links. pure_law))

  once_after_law : (place : ℕ) (left : Expr) → Law n (once_after turns simple place left)
  unfolding once_after
  once_after_law place left = choose_law standing_once (λ o. bind_law relation_law (λ right. pure_law)) pure_law

  expression_after_law : (place : ℕ) (left : Expr) → Law n (expression_after turns simple place left)
  unfolding expression_after
  expression_after_law place left = choose_law chaining (λ o. chain_law place left o) (once_after_law place left)

  expression_from_law : (place : ℕ) (left : Expr) → Law n (expression_from turns simple place left)
  unfolding expression_from
  expression_from_law place left = bind_law (relation_after_law place left) (λ first. expression_after_law place first)

  pub expression_law : Law n (expression turns simple)
  unfolding expression
  expression_law = here_law (spec.expression_at turns simple) (λ place. bind_law inner (λ left. expression_from_law place left))

  choice_after_law : (left : Expr) → Law n (choice_after turns simple left)
  unfolding choice_after
  choice_after_law left = choose_law direction_of (λ d. bind_law inner (λ right. pure_law)) pure_law

  choice_by_law : (b : Bool) → Law n (spec.choice_by turns simple b)
  choice_by_law true = bind_law any_law (λ t. pure_law)
  choice_by_law false = bind_law inner (λ left. choice_after_law left)

  choice_law : Law n (choice turns simple)
  unfolding choice
  choice_law = look_law spec.is_others (spec.choice_by turns simple) choice_by_law

  choices_from_law : (first : Choice) → Law n (choices_from turns simple first)
  unfolding choices_from
  choices_from_law first = preceded_law turns (kind.Delimiter delimiter.Bar) (first ∷ []) fits choice_law

  pub choices_law : Law n (choices turns simple)
  unfolding choices
  choices_law = bind_law choice_law (λ first. choices_from_law first)

  item_from_law : (first : Choice) → Law n (item_from turns simple first)
  unfolding item_from
  item_from_law first = bind_law (choices_from_law first) (λ all. bind_law (word_law _) (λ _. bind_law expression_law (λ value. pure_law)))

  positional_law : (place : ℕ) (left : Expr) → Law n (positional turns simple place left)
  unfolding positional
  positional_law place left = bind_law (expression_from_law place left) (λ value. pure_law)

  item_as_law : (place : ℕ) (left : Expr) (b : Bool) → Law n (spec.item_as turns simple place left b)
  item_as_law place left true = item_from_law (a_choice.Value left)
  item_as_law place left false = positional_law place left

  item_by_law : (place : ℕ) (left : Expr) → Law n (item_by turns simple place left)
  unfolding item_by
  item_by_law place left = look_law spec.ends_choice (spec.item_as turns simple place left) (item_as_law place left)

  item_after_law : (place : ℕ) (left : Expr) → Law n (item_after turns simple place left)
  unfolding item_after
  item_after_law place left = choose_law direction_of (λ d. bind_law inner (λ right. item_from_law (a_choice.Range left d right))) (item_by_law place left)

  item_start_law : (b : Bool) → Law n (spec.item_start turns simple b)
  item_start_law true = bind_law any_law (λ t. item_from_law (a_choice.Others t))
  item_start_law false = here_law (spec.item_at turns simple) (λ place. bind_law inner (λ left. item_after_law place left))

  item_law : Law n (item turns simple)
  unfolding item
  item_law = look_law spec.is_others (spec.item_start turns simple) item_start_law

  items_law : (found : List Item) → Law n (spec.items turns simple found)
  items_law found = preceded_law turns (kind.Delimiter delimiter.Comma) found fits item_law

  part_after_law : (place : ℕ) (left : Expr) → Law n (part_after turns simple place left)
  unfolding part_after
  part_after_law place left = choose_law direction_of (λ d. bind_law inner (λ right. pure_law)) (bind_law (expression_from_law place left) (λ value. pure_law))

  argument_law : Law n (argument turns simple)
  unfolding argument
  argument_law = here_law (spec.argument_at turns simple) (λ place. bind_law inner (λ left. part_after_law place left))

  bracketed_part_law : Law n (bracketed_part turns simple)
  unfolding bracketed_part
  bracketed_part_law = bind_law argument_law (λ p. bind_law (word_law _) (λ _. pure_law))

  attribute_by_law : {m : ℕ} (b : Bool) → Law m (spec.attribute_by turns simple b)
  attribute_by_law true = bind_law any_law (λ t. pure_law)
  attribute_by_law false = bind_law (token_law _) (λ t. pure_law)

  attribute_law : {m : ℕ} → Law m (attribute turns simple)
  unfolding attribute
  attribute_law = look_law spec.is_range_word (spec.attribute_by turns simple) attribute_by_law

  -- ---- names, for n tokens or for one more

  part_law : Law n (part turns simple)
  unfolding part
  part_law = on_law _ bracketed_part_law (on_law _ attribute_law stop_law)

  part_enter : Law (suc n) (part turns simple)
  unfolding part
  part_enter = on_enter _ bracketed_part_law (on_law _ attribute_law stop_law)

  part_moves : {begins : Option Kind → Bool} → Moves n begins (part turns simple)
  unfolding part
  part_moves = on_moves _ bracketed_part_law (on_moves _ attribute_law stop_moves)

  part_moves_on : {begins : Option Kind → Bool} → Moves (suc n) begins (part turns simple)
  unfolding part
  part_moves_on = enter_moves _ bracketed_part_law (enter_moves _ attribute_law stop_moves)

  pub name_from_law : (identifier : Token) → Law n (name_from turns simple identifier)
  unfolding name_from
  name_from_law identifier = bind_law (many_law turns [] fits part_law part_moves) (λ all. pure_law)

  pub name_law : Law n (name turns simple)
  unfolding name
  name_law = bind_law (token_law _) (λ identifier. name_from_law identifier)

  -- ---- operands: brackets take a token, so the bounds suffice for one token more

  module _ (more : suc n ≤ turns) where
    name_from_on : (identifier : Token) → Law (suc n) (name_from turns simple identifier)
    unfolding name_from
    name_from_on identifier = bind_law (many_law turns [] more part_enter part_moves_on) (λ all. pure_law)

    name_on : Law (suc n) (name turns simple)
    unfolding name
    name_on = bind_law (token_law _) (λ identifier. name_from_on identifier)

    bracket_on : Law (suc n) (bracket turns simple)
    unfolding bracket
    bracket_on = here_law (spec.bracket_at turns simple) (λ place. word_enter _ (λ _. bind_law item_law (λ first. bind_law (items_law (first ∷ [])) (λ all. bind_law (word_law _) (λ _. pure_law)))))

    number_on : Law (suc n) (number turns simple)
    unfolding number
    number_on = bind_law any_law (λ t. bind_law (optional_law _) (λ unit. pure_law))

    primary_by_on : (s : Start) → Law (suc n) (spec.primary_by turns simple s)
    primary_by_on a_start.Named = bind_law name_on (λ m. pure_law)
    primary_by_on a_start.Numbered = number_on
    primary_by_on a_start.Spelled = bind_law any_law (λ t. pure_law)
    primary_by_on a_start.Bracketed = bracket_on
    primary_by_on a_start.Other = stop_law

    primary_on : Law (suc n) (primary turns simple)
    unfolding primary
    primary_on = look_law spec.start_of (spec.primary_by turns simple) primary_by_on

    factor_after_on : (place : ℕ) (left : Expr) → Law (suc n) (factor_after turns simple place left)
    unfolding factor_after
    factor_after_on place left = on_law _ (bind_law primary_on (λ right. pure_law)) pure_law

    factor_on : Law (suc n) (factor turns simple)
    unfolding factor
    factor_on = here_law (spec.factor_at turns simple) (λ place. choose_law prefix (λ o. bind_law primary_on (λ a. pure_law)) (bind_law primary_on (λ left. factor_after_on place left)))

    factors_on : (links : List Link) → Law (suc n) (spec.factors turns simple links)
    factors_on links = operations_law turns multiplying link_of links refl more factor_on

    term_on : Law (suc n) (term turns simple)
    unfolding term
    term_on = here_law (spec.term_at turns simple) (λ place. bind_law factor_on (λ first. bind_law (factors_on []) (λ links. pure_law)))

    signed_on : Law (suc n) (signed turns simple)
    unfolding signed
    signed_on = here_law (spec.signed_at turns simple) (λ place. choose_law sign (λ o. bind_law term_on (λ a. pure_law)) term_on)

    terms_on : (links : List Link) → Law (suc n) (spec.terms turns simple links)
    terms_on links = operations_law turns adding link_of links refl more term_on

    pub level_law : Law (suc n) (level turns simple)
    unfolding level
    level_law = here_law (spec.level_at turns simple) (λ place. bind_law signed_on (λ first. bind_law (terms_on []) (λ links. pure_law)))

-- ---- without the parameter

pub simple_law : (turns depth : ℕ) → depth ≤ turns → Law depth (simple_at turns depth)
unfolding simple_at
simple_law turns zero fits = spent_law
simple_law turns (suc depth) fits = level_law turns depth (omega arith) (simple_at turns depth) (simple_law turns depth (omega arith)) fits
