-- Expressions that stand there are read, unless a bound is used up.
use Rattle.std.proofs.Common.{◌≡◌, ℕ, ◌<◌, ◌⊎◌, inl, inr, Option, Some, List, [], ◌∷◌, refl, sym, subst, arith}
use Rattle.vhdl_tokens.specs.declared.token.Kind.{Kind}
use Rattle.vhdl_tokens.specs.declared.token.Token.{Token}
use Rattle.vhdl_tree.specs.declared.expressions.Operator.{Operator}
use Rattle.vhdl_tree.specs.declared.expressions.Expr.{Expr}
use Rattle.vhdl_tree.specs.declared.expressions.Link.{Link}
use Rattle.vhdl_tree.specs.Words.{Span, tok, kind_of, place_of}
use Rattle.vhdl_tree.specs.Lists.{Operations}
use Rattle.vhdl_tree.specs.Expressions.{chaining, standing_once, again, relational, link_of, chained, IsRelation, IsExpression}
use Rattle.vhdl_reader_expressions.specs.Steps.{Found, Parser}
use Rattle.vhdl_reader_expressions.proofs.Complete.{Reaches, Complete, bind_up, pure_up, choose_hit, choose_miss, here_up, operations_ends, operations_up}
use Rattle.vhdl_reader_expressions.specs.Reading as spec
use Rattle.vhdl_reader_expressions.specs.Reading.{relation_after, relation, chain, once_after, expression_after, expression_from, expression}
use Rattle.vhdl_reader_expressions.proofs.Follow.{rank, Ends, rank_of_again, rank_of_once, rank_of_relational, no_relational, no_chaining, no_once, no_again, ends_down, ends_at, again_is, again_chains, once_unchained}

-- something goes on here, or it is what is behind all
abbrev pub GoesOn : List Token → List Token → Type 0
GoesOn ms us = (0 < rank (kind_of ms)) ⊎ (ms ≡ us)

goes_on : (ms us vs : List Token) → GoesOn ms us → GoesOn us vs → GoesOn ms vs
goes_on ms us vs (inl h) next = inl h
goes_on ms us vs (inr e) next = subst (λ xs. GoesOn xs vs) (sym e) next

-- what holds of each token that goes on, and of the one behind all, holds here
pub by_going : (E : Option Kind → Type 0) → ((k : Option Kind) → 0 < rank k → E k) → (ms us : List Token) → GoesOn ms us → E (kind_of us) → E (kind_of ms)
by_going E going ms us (inl h) last = going (kind_of ms) h
by_going E going ms us (inr e) last = subst (λ xs. E (kind_of xs)) (sym e) last

-- what stands there begins with a simple expression, behind which it is read to its end
pub record Split (S : List Token → Expr → List Token → Type 0) (after : ℕ → Expr → Parser Expr) (ts : List Token) (a : Expr) (us : List Token) : Type 0 where
  pub left : Expr
  pub middle : List Token
  pub is : S ts left middle
  pub ends : Ends 3 (kind_of middle)
  pub goes : GoesOn middle us
  pub rest : Reaches (after (place_of ts) left) middle (Found a us)

module _ (turns : ℕ) (simple : Parser Expr) (S : List Token → Expr → List Token → Type 0) (inner : Complete (Ends 3) simple S) where
  relation_splits : {ts us : List Token} {a : Expr} → IsRelation S ts a us → Ends 2 (kind_of us) → Split S (relation_after turns simple) ts a us
  unfolding relation_after
  relation_splits {us = us} {a = a} (IsRelation.plain r) h = record {
    left = a;
    middle = us;
    is = r;
    ends = ends_down 2 3 (omega arith) h;
    goes = inr refl;
    rest = choose_miss relational _ _ (no_relational h) pure_up;
  }
  relation_splits (IsRelation.compared {us = us} {a = a} {k = k} {x = x} {o = o} r is s) h = let q = rank_of_relational (Some k) o is in
      record {
        left = a;
        middle = tok k x ∷ us;
        is = r;
        ends = ends_at 2 3 (omega arith) q;
        goes = inl (omega (arith, q));
        rest = choose_hit relational _ _ is (bind_up _ (inner.reads s (ends_down 2 3 (omega arith) h)) pure_up);
      }

  pub relation_complete : Complete (Ends 2) (relation turns simple) (IsRelation S)
  unfolding relation
  relation_complete = record { reads = λ r h. let s = relation_splits r h in here_up (spec.relation_at turns simple) (bind_up _ (inner.reads s.is s.ends) s.rest) }

  chain_up : (place : ℕ) (first : Expr) (op o : Operator) {us vs ws : List Token} {a : Expr} {links : List Link} → op ≡ o → IsRelation S us a vs
      → Operations (again o) link_of (IsRelation S) vs links ws → Ends 1 (kind_of ws) → Reaches (chain turns simple place first op) us (Found (chained place first (link_of op a ∷ links)) ws)
  unfolding chain
  chain_up place first op o {vs = vs} {ws = ws} {a = a} {links = links} e r list h =
      let follows : (k : Kind) (q : Operator) → again op (Some k) ≡ Some q → Ends 2 (Some k) = λ k q is. ends_at 1 2 (omega arith) (rank_of_again op (Some k) q is) in
      let same : Operations (again op) link_of (IsRelation S) vs links ws = subst (λ q. Operations (again q) link_of (IsRelation S) vs links ws) (sym e) list in
      let last : Ends 2 (kind_of ws) = ends_down 1 2 (omega arith) h in
      bind_up _ (relation_complete.reads r (operations_ends (Ends 2) (again op) link_of follows same last))
      (bind_up _ (operations_up turns (link_of op a ∷ []) relation_complete follows same last (no_again op h)) pure_up)

  -- what follows the first relation
  expression_goes : (place : ℕ) (first : Expr) (o : Operator) {us vs : List Token} {links : List Link} → Operations (again o) link_of (IsRelation S) us links vs → Ends 1 (kind_of vs)
      → Reaches (expression_after turns simple place first) us (Found (chained place first links) vs)
  unfolding expression_after once_after
  expression_goes place first o Operations.none h = choose_miss chaining _ _ (no_chaining h) (choose_miss standing_once _ _ (no_once h) pure_up)
  expression_goes place first o (Operations.more {k = k} {op = op} is r rest) h =
      choose_hit chaining _ _ (again_chains o (Some k) op is) (chain_up place first op o (again_is o (Some k) op is) r rest h)

  once_up : (place : ℕ) (first : Expr) {us vs : List Token} {k : Kind} {x : Span} {o : Operator} {b : Expr} → standing_once (Some k) ≡ Some o → IsRelation S us b vs → Ends 1 (kind_of vs)
      → Reaches (expression_after turns simple place first) (tok k x ∷ us) (Found (spec.pair place first o b) vs)
  unfolding expression_after once_after
  once_up place first {k = k} {o = o} is r h = choose_miss chaining _ _ (once_unchained (Some k) o is)
      (choose_hit standing_once _ _ is (bind_up _ (relation_complete.reads r (ends_down 1 2 (omega arith) h)) pure_up))

  operations_go : (o : Operator) {us vs : List Token} {links : List Link} → Operations (again o) link_of (IsRelation S) us links vs → GoesOn us vs
  operations_go o Operations.none = inr refl
  operations_go o (Operations.more {k = k} {op = op} is r rest) = let q = rank_of_again o (Some k) op is in inl (omega (arith, q))

  pub expression_splits : {ts us : List Token} {a : Expr} → IsExpression S ts a us → Ends 1 (kind_of us) → Split S (expression_from turns simple) ts a us
  unfolding expression_from
  expression_splits {ts = ts} {us = vs} (IsExpression.chain {us = us} o r list) h =
      let s = relation_splits r (operations_ends (Ends 2) (again o) link_of (λ k q is. ends_at 1 2 (omega arith) (rank_of_again o (Some k) q is)) list (ends_down 1 2 (omega arith) h)) in
      record {
        left = s.left;
        middle = s.middle;
        is = s.is;
        ends = s.ends;
        goes = goes_on s.middle us vs s.goes (operations_go o list);
        rest = bind_up (expression_after turns simple (place_of ts)) s.rest (expression_goes (place_of ts) _ o list h);
      }
  expression_splits {ts = ts} {us = vs} (IsExpression.once {us = us} {k = k} {x = x} {o = o} r is t) h =
      let q = rank_of_once (Some k) o is in let s = relation_splits r (ends_at 1 2 (omega arith) q) in
      record {
        left = s.left;
        middle = s.middle;
        is = s.is;
        ends = s.ends;
        goes = goes_on s.middle (tok k x ∷ us) vs s.goes (inl (omega (arith, q)));
        rest = bind_up (expression_after turns simple (place_of ts)) s.rest (once_up (place_of ts) _ is t h);
      }

  pub expression_complete : Complete (Ends 1) (expression turns simple) (IsExpression S)
  unfolding expression
  expression_complete = record { reads = λ r h. let s = expression_splits r h in here_up (spec.expression_at turns simple) (bind_up _ (inner.reads s.is s.ends) s.rest) }
