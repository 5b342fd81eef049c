-- Names that stand there are read, unless a bound is used up.
use Rattle.std.proofs.Common.{◌≡◌, ℕ, true, Some, None, List, [], ◌∷◌, refl, arith}
use Rattle.vhdl_tokens.specs.declared.token.Kind.TheVariants as kind
use Rattle.vhdl_tokens.specs.declared.token.Token.{Token}
use Rattle.vhdl_tokens.specs.declared.token.Delimiter.TheVariants as delimiter
use Rattle.vhdl_tree.specs.declared.expressions.Expr.{Expr}
use Rattle.vhdl_tree.specs.declared.expressions.Part.{Part}
use Rattle.vhdl_tree.specs.declared.expressions.Part.TheVariants as a_part
use Rattle.vhdl_tree.specs.declared.expressions.Name.{Name}
use Rattle.vhdl_tree.specs.Words.{Span, id, mark, kind_of}
use Rattle.vhdl_tree.specs.Lists.{Many}
use Rattle.vhdl_tree.specs.Expressions.{direction_of, name_of, IsExpression, IsPart, IsName}
use Rattle.vhdl_reader_expressions.specs.Kinds.{same, same_word, same_delimiter}
use Rattle.vhdl_reader_expressions.specs.Steps.{Found, Parser}
use Rattle.vhdl_reader_expressions.proofs.Complete.{Reaches, Complete, Anything, bind_up, pure_up, on_hit, on_miss, choose_hit, choose_miss, look_up, here_up, word_up, any_up, token_up, many_up}
use Rattle.vhdl_reader_expressions.specs.Reading as spec
use Rattle.vhdl_reader_expressions.specs.Reading.{begins_part, is_range_word, part_after, argument, attribute, bracketed_part, part, name_from, name}
use Rattle.vhdl_reader_expressions.proofs.Follow.{Ends, rank_of_direction, no_direction, no_part, ends_at}
use Rattle.vhdl_reader_expressions.proofs.Completes.{by_going, expression_splits}

module _ (turns : ℕ) (simple : Parser Expr) (S : List Token → Expr → List Token → Type 0) (inner : Complete (Ends 3) simple S) where
  index_up : {ts us : List Token} {y : Span} {a : Expr} → IsExpression S ts a (mark delimiter.RightParen y ∷ us)
      → Reaches (argument turns simple) ts (Found (a_part.Index a) (mark delimiter.RightParen y ∷ us))
  unfolding argument part_after
  index_up {us = us} {y = y} r = let s = expression_splits turns simple S inner r (record { below = omega arith }) in
      here_up (spec.argument_at turns simple) (bind_up _ (inner.reads s.is s.ends)
      (choose_miss direction_of _ _ (by_going (λ k. direction_of k ≡ None) no_direction s.middle (mark delimiter.RightParen y ∷ us) s.goes refl) (bind_up _ s.rest pure_up)))

  part_up : {ts us : List Token} {a : Part} → IsPart S ts a us → Reaches (part turns simple) ts (Found a us)
  unfolding part bracketed_part argument part_after attribute same same_word same_delimiter
  part_up (IsPart.index r) = on_hit (kind.Delimiter delimiter.LeftParen) _ _ (bind_up _ (index_up r) (bind_up _ (word_up (kind.Delimiter delimiter.RightParen)) pure_up))
  part_up (IsPart.slice {k = k} {d = d} r is s) = on_hit (kind.Delimiter delimiter.LeftParen) _ _
      (bind_up _ (here_up (spec.argument_at turns simple) (bind_up _ (inner.reads r (ends_at 0 3 (omega arith) (rank_of_direction (Some k) d is)))
      (choose_hit direction_of _ _ is (bind_up _ (inner.reads s (record { below = omega arith })) pure_up))))
      (bind_up _ (word_up (kind.Delimiter delimiter.RightParen)) pure_up))
  part_up IsPart.attribute = on_miss (kind.Delimiter delimiter.LeftParen) (bracketed_part turns simple) _ refl (on_hit (kind.Delimiter delimiter.Tick) _ _
      (look_up is_range_word (spec.attribute_by turns simple) refl (bind_up _ (token_up kind.Identifier) pure_up)))
  part_up IsPart.range = on_miss (kind.Delimiter delimiter.LeftParen) (bracketed_part turns simple) _ refl (on_hit (kind.Delimiter delimiter.Tick) _ _
      (look_up is_range_word (spec.attribute_by turns simple) refl (bind_up _ any_up pure_up)))

  part_begins : (ts us : List Token) (a : Part) → IsPart S ts a us → begins_part (kind_of ts) ≡ true
  part_begins ts us a (IsPart.index r) = refl
  part_begins ts us a (IsPart.slice r is s) = refl
  part_begins ts us a IsPart.attribute = refl
  part_begins ts us a IsPart.range = refl

  part_complete : Complete Anything (part turns simple) (IsPart S)
  part_complete = record { reads = λ r h. part_up r }

  -- what follows the identifier of a name
  pub name_from_up : (identifier : Token) {ts us : List Token} {parts : List Part} → Many (IsPart S) ts parts us → Ends 6 (kind_of us)
      → Reaches (name_from turns simple identifier) ts (Found (name_of identifier parts) us)
  unfolding name_from
  name_from_up identifier list h = bind_up _ (many_up turns begins_part [] part_complete part_begins (λ k e. tt) list tt (no_part h)) pure_up

  pub name_up : {ts us : List Token} {n : Name} → IsName S ts n us → Ends 6 (kind_of us) → Reaches (name turns simple) ts (Found n us)
  unfolding name
  name_up (IsName.named {x = x} list) h = bind_up (name_from turns simple) (token_up kind.Identifier) (name_from_up (id x) list h)
