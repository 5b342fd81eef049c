-- Choices, elements of aggregates and names that stand there are read, unless a bound is used up.
use Rattle.std.proofs.Common.{◌≡◌, ℕ, true, false, Some, None, List, [], ◌∷◌, refl, subst, arith}
use Rattle.vhdl_tokens.specs.declared.token.Kind.{Kind}
use Rattle.vhdl_tokens.specs.declared.token.Kind.TheVariants as kind
use Rattle.vhdl_tokens.specs.declared.token.Token.{Token}
use Rattle.vhdl_tokens.specs.declared.token.Delimiter.TheVariants as delimiter
use Rattle.vhdl_tree.specs.declared.expressions.Expr.{Expr}
use Rattle.vhdl_tree.specs.declared.expressions.Choice.{Choice}
use Rattle.vhdl_tree.specs.declared.expressions.Choice.TheVariants as a_choice
use Rattle.vhdl_tree.specs.declared.expressions.Direction.{Direction}
use Rattle.vhdl_tree.specs.declared.expressions.Item.{Item}
use Rattle.vhdl_tree.specs.Words.{Span, mark, kind_of, place_of}
use Rattle.vhdl_tree.specs.Lists.{Preceded, Separated}
use Rattle.vhdl_tree.specs.Expressions.{direction_of, item_of, bracketed, IsExpression, IsChoice, IsChoices, IsItem}
use Rattle.vhdl_reader_expressions.specs.Kinds.{same, same_word, same_delimiter}
use Rattle.vhdl_reader_expressions.specs.Steps.{Found, Parser}
use Rattle.vhdl_reader_expressions.proofs.Complete.{Reaches, Complete, bind_up, pure_up, choose_hit, choose_miss, look_up, here_up, word_up, any_up, preceded_ends, preceded_up}
use Rattle.vhdl_reader_expressions.specs.Reading as spec
use Rattle.vhdl_reader_expressions.specs.Reading.{is_others, ends_choice, begins_part, is_range_word, choice_after, choice, choices_from, choices, item_from, positional, item_by, item_after, item, part_after, argument, attribute, bracketed_part, part, name_from, name, bracket}
use Rattle.vhdl_reader_expressions.proofs.Begins.{begins_expression, not_others}
use Rattle.vhdl_reader_expressions.proofs.Follow.{Ends, EndsChoice, EndsChoices, EndsItem, rank_of_direction, no_direction, no_choice, no_bar, ends_at}
use Rattle.vhdl_reader_expressions.proofs.Completes.{by_going, expression_splits, expression_complete}

module _ (turns : ℕ) (simple : Parser Expr) (S : List Token → Expr → List Token → Type 0) (inner : Complete (Ends 3) simple S)
    (starts : (ts us : List Token) (a : Expr) → S ts a us → begins_expression (kind_of ts) ≡ true) where
  directed : {k : Kind} {d : Direction} → direction_of (Some k) ≡ Some d → Ends 3 (Some k)
  directed {k = k} {d = d} is = ends_at 0 3 (omega arith) (rank_of_direction (Some k) d is)

  -- ---- choices

  choice_complete : Complete EndsChoice (choice turns simple) (IsChoice S)
  unfolding choice choice_after
  choice_complete = record { reads = choice_up }
    where
      choice_up : {ts us : List Token} {a : Choice} → IsChoice S ts a us → EndsChoice (kind_of us) → Reaches (choice turns simple) ts (Found a us)
      choice_up (IsChoice.value r) h = look_up is_others (spec.choice_by turns simple) (not_others _ (starts _ _ _ r))
          (bind_up _ (inner.reads r (record { below = h.below })) (choose_miss direction_of _ _ h.undirected pure_up))
      choice_up (IsChoice.range r is s) h = look_up is_others (spec.choice_by turns simple) (not_others _ (starts _ _ _ r))
          (bind_up _ (inner.reads r (directed is)) (choose_hit direction_of _ _ is (bind_up _ (inner.reads s (record { below = h.below })) pure_up)))
      choice_up IsChoice.others h = look_up is_others (spec.choice_by turns simple) refl (bind_up _ any_up pure_up)

  bar_ends : EndsChoice (Some (kind.Delimiter delimiter.Bar))
  bar_ends = record { below = omega arith; undirected = refl }

  choices_from_up : (first : Choice) {us vs : List Token} {rest : List Choice} → Preceded (kind.Delimiter delimiter.Bar) (IsChoice S) us rest vs → EndsChoices (kind_of vs)
      → Reaches (choices_from turns simple first) us (Found (first ∷ rest) vs)
  unfolding choices_from
  choices_from_up first {vs = vs} list h = preceded_up turns (first ∷ []) choice_complete bar_ends list (record { below = h.below; undirected = h.undirected }) (no_bar vs h.last)

  pub choices_complete : Complete EndsChoices (choices turns simple) (IsChoices S)
  unfolding choices
  choices_complete = record { reads = choices_up }
    where
      choices_up : {ts us : List Token} {all : List Choice} → IsChoices S ts all us → EndsChoices (kind_of us) → Reaches (choices turns simple) ts (Found all us)
      choices_up (Separated.several r rest) h = bind_up (choices_from turns simple)
          (choice_complete.reads r (preceded_ends EndsChoice bar_ends rest (record { below = h.below; undirected = h.undirected }))) (choices_from_up _ rest h)

  -- ---- elements

  item_from_up : (first : Choice) {us vs ws : List Token} {rest : List Choice} {x : Span} {a : Expr} → Preceded (kind.Delimiter delimiter.Bar) (IsChoice S) us rest (mark delimiter.Arrow x ∷ vs)
      → IsExpression S vs a ws → Ends 1 (kind_of ws) → Reaches (item_from turns simple first) us (Found (item_of (first ∷ rest) a) ws)
  unfolding item_from
  item_from_up first list r h = bind_up _ (choices_from_up first list (record { below = omega arith; undirected = refl; last = refl }))
      (bind_up _ (word_up (kind.Delimiter delimiter.Arrow)) (bind_up _ ((expression_complete turns simple S inner).reads r h) pure_up))

  named_up : {ts ms us vs : List Token} {choices : List Choice} {x : Span} {a : Expr} → IsChoices S ts choices ms → ms ≡ mark delimiter.Arrow x ∷ us
      → IsExpression S us a vs → Ends 1 (kind_of vs) → Reaches (item turns simple) ts (Found (item_of choices a) vs)
  unfolding item item_after item_by
  named_up {us = us} {x = x} (Separated.several {us = behind} {all = all} (IsChoice.value {ts = ts} {a = left} r) rest) e q h =
      let list = subst (λ xs. Preceded (kind.Delimiter delimiter.Bar) (IsChoice S) behind all xs) e rest in
      let ends : EndsChoice (kind_of behind) = preceded_ends EndsChoice bar_ends list (record { below = omega arith; undirected = refl }) in
      look_up is_others (spec.item_start turns simple) (not_others _ (starts _ _ _ r)) (here_up (spec.item_at turns simple)
      (bind_up _ (inner.reads r (record { below = ends.below })) (choose_miss direction_of _ _ ends.undirected
      (look_up ends_choice (spec.item_as turns simple (place_of ts) left) (preceded_ends (λ k. ends_choice k ≡ true) refl list refl) (item_from_up (a_choice.Value left) list q h)))))
  named_up (Separated.several {us = behind} {all = all} (IsChoice.range {a = left} {b = right} {d = d} r is s) rest) e q h =
      let list = subst (λ xs. Preceded (kind.Delimiter delimiter.Bar) (IsChoice S) behind all xs) e rest in
      look_up is_others (spec.item_start turns simple) (not_others _ (starts _ _ _ r)) (here_up (spec.item_at turns simple)
      (bind_up _ (inner.reads r (directed is)) (choose_hit direction_of _ _ is
      (bind_up _ (inner.reads s (preceded_ends (Ends 3) (record { below = omega arith }) list (record { below = omega arith }))) (item_from_up (a_choice.Range left d right) list q h)))))
  named_up (Separated.several {us = behind} {all = all} IsChoice.others rest) e q h =
      look_up is_others (spec.item_start turns simple) refl
      (bind_up _ any_up (item_from_up _ (subst (λ xs. Preceded (kind.Delimiter delimiter.Bar) (IsChoice S) behind all xs) e rest) q h))

  positional_up : {ts us : List Token} {a : Expr} → IsExpression S ts a us → EndsItem (kind_of us) → Reaches (item turns simple) ts (Found (item_of [] a) us)
  unfolding item item_after item_by positional
  positional_up {ts = ts} {us = us} r h = let s = expression_splits turns simple S inner r (record { below = h.below }) in
      look_up is_others (spec.item_start turns simple) (not_others _ (starts _ _ _ s.is)) (here_up (spec.item_at turns simple)
      (bind_up _ (inner.reads s.is s.ends) (choose_miss direction_of _ _ (by_going (λ k. direction_of k ≡ None) no_direction s.middle us s.goes h.undirected)
      (look_up ends_choice (spec.item_as turns simple (place_of ts) s.left) (by_going (λ k. ends_choice k ≡ false) no_choice s.middle us s.goes h.value)
      (bind_up _ s.rest pure_up)))))

  item_complete : Complete EndsItem (item turns simple) (IsItem S)
  item_complete = record { reads = item_up }
    where
      item_up : {ts us : List Token} {a : Item} → IsItem S ts a us → EndsItem (kind_of us) → Reaches (item turns simple) ts (Found a us)
      item_up (IsItem.positional r) h = positional_up r h
      item_up (IsItem.named choices r) h = named_up choices refl r (record { below = h.below })

  pub bracket_up : {ts ms us : List Token} {x y : Span} {items : List Item} → Separated (kind.Delimiter delimiter.Comma) (IsItem S) ts items ms → ms ≡ mark delimiter.RightParen y ∷ us
      → Reaches (bracket turns simple) (mark delimiter.LeftParen x ∷ ts) (Found (bracketed x.start items) us)
  unfolding bracket same same_word same_delimiter
  bracket_up (Separated.several {us = behind} {a = first} {all = all} r rest) e =
      let list = subst (λ xs. Preceded (kind.Delimiter delimiter.Comma) (IsItem S) behind all xs) e rest in
      let comma : EndsItem (Some (kind.Delimiter delimiter.Comma)) = record { below = omega arith; undirected = refl; value = refl } in
      here_up (spec.bracket_at turns simple) (bind_up _ (word_up (kind.Delimiter delimiter.LeftParen))
      (bind_up _ (item_complete.reads r (preceded_ends EndsItem comma list (record { below = omega arith; undirected = refl; value = refl })))
      (bind_up _ (preceded_up turns (first ∷ []) item_complete comma list (record { below = omega arith; undirected = refl; value = refl }) refl)
      (bind_up _ (word_up (kind.Delimiter delimiter.RightParen)) pure_up))))
