-- Operands, and the levels of operators up to simple expressions, that stand there are read, unless a bound is used up.
use Rattle.std.proofs.Common.{◌≡◌, ℕ, zero, suc, true, Some, List, [], refl, arith}
use Rattle.vhdl_tokens.specs.declared.token.Kind.{Kind}
use Rattle.vhdl_tokens.specs.declared.token.Kind.TheVariants as kind
use Rattle.vhdl_tokens.specs.declared.token.Token.{Token}
use Rattle.vhdl_tokens.specs.declared.token.Delimiter.TheVariants as delimiter
use Rattle.vhdl_tree.specs.declared.expressions.Operator.{Operator}
use Rattle.vhdl_tree.specs.declared.expressions.Operator.TheVariants as op
use Rattle.vhdl_tree.specs.declared.expressions.Expr.{Expr}
use Rattle.vhdl_tree.specs.Words.{kind_of, place_of}
use Rattle.vhdl_tree.specs.Expressions.{prefix, sign, adding, multiplying, link_of, SimpleWithin, IsName, IsPrimary, IsFactor, IsTerm, IsSigned, IsSimple}
use Rattle.vhdl_reader_expressions.specs.Steps.{Found, Parser, ◌>>=◌, pure}
use Rattle.vhdl_reader_expressions.proofs.Complete.{Reaches, Complete, bind_up, pure_up, spent_up, on_hit, on_miss, choose_hit, choose_miss, look_up, here_up, any_up, optional_up, operations_ends, operations_up}
use Rattle.vhdl_reader_expressions.specs.Reading as spec
use Rattle.vhdl_reader_expressions.specs.Reading.{start_of, number, primary, factor_after, factor, term, signed, level, simple_at}
use Rattle.vhdl_reader_expressions.proofs.Begins.{begins_expression, spelled, no_prefix, no_sign, primary_begins, term_begins, simple_begins}
use Rattle.vhdl_reader_expressions.proofs.Follow.{Ends, rank_of_adding, rank_of_multiplying, no_adding, no_multiplying, no_power, no_identifier, ends_down, ends_at}
use Rattle.vhdl_reader_expressions.proofs.Elements.{bracket_up}
use Rattle.vhdl_reader_expressions.proofs.Names.{name_up}

module _ (turns : ℕ) (simple : Parser Expr) (S : List Token → Expr → List Token → Type 0) (inner : Complete (Ends 3) simple S)
    (starts : (ts us : List Token) (a : Expr) → S ts a us → begins_expression (kind_of ts) ≡ true) where
  primary_up : {ts us : List Token} {a : Expr} → IsPrimary S ts a us → Ends 6 (kind_of us) → Reaches (primary turns simple) ts (Found a us)
  unfolding primary number
  primary_up (IsPrimary.name (IsName.named parts)) h = look_up start_of (spec.primary_by turns simple) refl (bind_up _ (name_up turns simple S inner (IsName.named parts) h) pure_up)
  primary_up {us = us} (IsPrimary.number unit) h = look_up start_of (spec.primary_by turns simple) refl (bind_up _ any_up (bind_up _ (optional_up unit (no_identifier us h)) pure_up))
  primary_up (IsPrimary.literal {k = k} is) h = look_up start_of (spec.primary_by turns simple) (spelled k is) (bind_up _ any_up pure_up)
  primary_up (IsPrimary.bracket items) h = look_up start_of (spec.primary_by turns simple) refl (bracket_up turns simple S inner starts items refl)

  factor_up : {ts us : List Token} {a : Expr} → IsFactor S ts a us → Ends 5 (kind_of us) → Reaches (factor turns simple) ts (Found a us)
  unfolding factor factor_after
  factor_up {ts = ts} {us = us} {a = a} (IsFactor.plain r) h = here_up (spec.factor_at turns simple) (choose_miss prefix _ _ (no_prefix _ (primary_begins S r))
      (bind_up _ (primary_up r (ends_down 5 6 (omega arith) h)) (on_miss (kind.Delimiter delimiter.DoubleStar) (primary turns simple >>= (λ right. pure (spec.pair (place_of ts) a op.Power right))) _ (no_power us h) pure_up)))
  factor_up (IsFactor.power r s) h = here_up (spec.factor_at turns simple) (choose_miss prefix _ _ (no_prefix _ (primary_begins S r))
      (bind_up _ (primary_up r (record { below = omega arith })) (on_hit (kind.Delimiter delimiter.DoubleStar) _ _ (bind_up _ (primary_up s (ends_down 5 6 (omega arith) h)) pure_up))))
  factor_up (IsFactor.prefixed is r) h = here_up (spec.factor_at turns simple) (choose_hit prefix _ _ is (bind_up _ (primary_up r (ends_down 5 6 (omega arith) h)) pure_up))

  factor_complete : Complete (Ends 5) (factor turns simple) (IsFactor S)
  factor_complete = record { reads = factor_up }

  multiplied : (k : Kind) (o : Operator) → multiplying (Some k) ≡ Some o → Ends 5 (Some k)
  multiplied k o is = ends_at 4 5 (omega arith) (rank_of_multiplying (Some k) o is)

  term_up : {ts us : List Token} {a : Expr} → IsTerm S ts a us → Ends 4 (kind_of us) → Reaches (term turns simple) ts (Found a us)
  unfolding term
  term_up (IsTerm.factors r list) h = let last = ends_down 4 5 (omega arith) h in here_up (spec.term_at turns simple)
      (bind_up _ (factor_up r (operations_ends (Ends 5) multiplying link_of multiplied list last))
      (bind_up _ (operations_up turns [] factor_complete multiplied list last (no_multiplying h)) pure_up))

  term_complete : Complete (Ends 4) (term turns simple) (IsTerm S)
  term_complete = record { reads = term_up }

  signed_up : {ts us : List Token} {a : Expr} → IsSigned S ts a us → Ends 4 (kind_of us) → Reaches (signed turns simple) ts (Found a us)
  unfolding signed
  signed_up (IsSigned.plain r) h = here_up (spec.signed_at turns simple) (choose_miss sign _ _ (no_sign _ (term_begins S r)) (term_up r h))
  signed_up (IsSigned.signed is r) h = here_up (spec.signed_at turns simple) (choose_hit sign _ _ is (bind_up _ (term_up r h) pure_up))

  added : (k : Kind) (o : Operator) → adding (Some k) ≡ Some o → Ends 4 (Some k)
  added k o is = ends_at 3 4 (omega arith) (rank_of_adding (Some k) o is)

  level_up : {ts us : List Token} {a : Expr} → IsSimple S ts a us → Ends 3 (kind_of us) → Reaches (level turns simple) ts (Found a us)
  unfolding level
  level_up (IsSimple.terms r list) h = let last = ends_down 3 4 (omega arith) h in here_up (spec.level_at turns simple)
      (bind_up _ (signed_up r (operations_ends (Ends 4) adding link_of added list last))
      (bind_up _ (operations_up turns [] term_complete added list last (no_adding h)) pure_up))

  pub level_complete : Complete (Ends 3) (level turns simple) (IsSimple S)
  level_complete = record { reads = level_up }

-- ---- brackets inside brackets

pub within_begins : (h : ℕ) (ts us : List Token) (a : Expr) → SimpleWithin h ts a us → begins_expression (kind_of ts) ≡ true
within_begins zero ts us a r = absurd r
within_begins (suc h) ts us a r = simple_begins (SimpleWithin h) r

-- however deep the brackets of what stands there nest, and whatever the bound
pub simple_complete : (turns n h : ℕ) → Complete (Ends 3) (simple_at turns n) (SimpleWithin h)
unfolding simple_at
simple_complete turns zero h = record { reads = λ r e. spent_up }
simple_complete turns (suc n) zero = record { reads = λ r e. absurd r }
simple_complete turns (suc n) (suc h) = level_complete turns (simple_at turns n) (SimpleWithin h) (simple_complete turns n h) (within_begins h)
