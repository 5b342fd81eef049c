-- Processes and assignments that stand there are read, unless a bound is used up.
use Rattle.std.proofs.Common.{◌≡◌, ℕ, zero, suc, Bool, true, false, Option, Some, None, List, [], ◌∷◌, ◌++◌, refl, sym, subst, append_assoc, append-nil, arith}
use Rattle.vhdl_tokens.specs.declared.token.Kind.{Kind}
use Rattle.vhdl_tokens.specs.declared.token.Kind.TheVariants as kind
use Rattle.vhdl_tokens.specs.declared.token.Token.{Token}
use Rattle.vhdl_tokens.specs.declared.token.Delimiter.TheVariants as delimiter
use Rattle.vhdl_tokens.specs.declared.reserved.Reserved.TheVariants as reserved
use Rattle.vhdl_tree.specs.declared.expressions.Expr.{Expr}
use Rattle.vhdl_tree.specs.declared.units.Sensitivity.{Sensitivity}
use Rattle.vhdl_tree.specs.declared.units.Alternative.{Alternative}
use Rattle.vhdl_tree.specs.declared.units.ConcurrentAssignment.{ConcurrentAssignment}
use Rattle.vhdl_tree.specs.declared.units.ConcurrentBody.{ConcurrentBody}
use Rattle.vhdl_tree.specs.declared.units.ConcurrentBody.TheVariants as a_body
use Rattle.vhdl_tree.specs.Words.{Span, id, word, mark, kind_of}
use Rattle.vhdl_tree.specs.Lists.{Many, Perhaps, IsOptional}
use Rattle.vhdl_tree.specs.Expressions.{Expression}
use Rattle.vhdl_tree.specs.Units.{IsPostponed, IsSensitivity, IsProcess, IsAlternative, IsConcurrentAssignment}
use Rattle.vhdl_reader_expressions.specs.Kinds.{same, same_word}
use Rattle.vhdl_reader_expressions.specs.Steps.{Found, sees, ◌>>=◌, pure, on}
use Rattle.vhdl_reader_expressions.proofs.Complete.{Reaches, bind_up, pure_up, spent_up, on_hit, on_miss, word_up, token_up, optional_up}
use Rattle.vhdl_reader_expressions.specs.Reading.{begins_name, expression_within}
use Rattle.vhdl_reader_expressions.proofs.Begins.{unseen}
use Rattle.vhdl_reader_expressions.proofs.Reached.{expression_reached, name_from_reached}
use Rattle.vhdl_reader_statements.specs.Reading.{waveform_within}
use Rattle.vhdl_reader_statements.proofs.Follow.{unlike_unseen, waveform_starts}
use Rattle.vhdl_reader_statements.proofs.Reached.{delay_reached, waveform_reached, names_reached, statements_reached}
use Rattle.vhdl_reader_declarations.proofs.Completes.{process_declarations_complete}
use Rattle.vhdl_reader.specs.Reading.{sensitivity_names, sensitivity_all, sensitivity_list, sensitivity, process_head, process_end, process, conditions_from, assignment_to, assignment_from, assignment, process_or_assignment, body}
use Rattle.vhdl_reader.proofs.Bodies.{IsBodyOf, IsBody}
use Rattle.vhdl_reader.proofs.Follow.{EndsConditions, optional_unseen, conditions_ends, opens_process, declarations_open, names_start, Named, name_names}

-- a process or an assignment begins here
abbrev pub begins_body : Option Kind → Bool
begins_body (Some kind.Identifier) = true
begins_body (Some (kind.Word reserved.Process)) = true
begins_body _ = false

named_begins : {ts : List Token} → Named ts → begins_body (kind_of ts) ≡ true
named_begins n = subst (λ xs. begins_body (kind_of xs) ≡ true) (sym n.is) refl

pub target_of : {postponed : Bool} {ts us : List Token} {a : ConcurrentAssignment} → IsConcurrentAssignment postponed ts a us → Named ts
target_of (IsConcurrentAssignment.assigned r d first all last) = name_names r (λ e. cc)

pub body_begins : {postponed : Bool} {ts us : List Token} {b : ConcurrentBody} → IsBodyOf postponed ts b us → begins_body (kind_of ts) ≡ true
body_begins (IsBodyOf.process (IsProcess.process s is ds all again name)) = refl
body_begins (IsBodyOf.assignment r) = named_begins (target_of r)

module _ (bound : ℕ) where
  -- ---- processes

  sensitivity_up : {ts us : List Token} {s : Sensitivity} → IsSensitivity ts s us → sees (kind.Delimiter delimiter.LeftParen) us ≡ false → Reaches (sensitivity bound) ts (Found s us)
  unfolding sensitivity sensitivity_list sensitivity_all sensitivity_names
  sensitivity_up IsSensitivity.unlisted last = on_miss _ (sensitivity_list bound) _ last pure_up
  sensitivity_up IsSensitivity.all last = on_hit _ _ _ (on_hit (kind.Word reserved.All) (sensitivity_all bound) (sensitivity_names bound) (bind_up _ (word_up _) pure_up))
  sensitivity_up (IsSensitivity.names {ts = ts} all) last = on_hit _ _ _ (on_miss _ (sensitivity_all bound) _ (unseen begins_name _ ts refl (names_start all))
      (bind_up _ ((names_reached bound).reads all (record { below = omega arith; last = λ e. cc })) (bind_up _ (word_up _) pure_up)))

  process_head_up : {ts us vs : List Token} {s : Sensitivity} {t : Option Token} → IsSensitivity ts s us → IsOptional (kind.Word reserved.Is) us t vs → opens_process (kind_of vs) ≡ true
      → Reaches (process_head bound) ts (Found s vs)
  unfolding process_head same
  process_head_up {vs = vs} s is h = bind_up _ (sensitivity_up s (optional_unseen _ is (unseen opens_process _ vs refl h) refl))
      (bind_up _ (optional_up is (unseen opens_process _ vs refl h)) pure_up)

  process_end_up : {ts us vs : List Token} {z u v : Span} {again name : Option Token} → IsOptional (kind.Word reserved.Postponed) ts again (word reserved.Process u ∷ us)
      → IsOptional kind.Identifier us name (mark delimiter.Semicolon v ∷ vs) → Reaches (process_end bound) (word reserved.End z ∷ ts) (Found name vs)
  unfolding process_end same same_word
  process_end_up again name = bind_up _ (word_up _) (bind_up _ (optional_up again refl) (bind_up _ (word_up _) (bind_up _ (optional_up name refl) (bind_up _ (word_up _) pure_up))))

  -- ---- concurrent assignments

  conditions_up : (n : ℕ) (found : List Alternative) {ts us vs : List Token} {all : List Alternative} {condition : Option Expr} → Many IsAlternative ts all us
      → Perhaps (kind.Word reserved.When) Expression us condition vs → EndsConditions (kind_of vs)
      → Reaches (conditions_from bound n found) ts (Found (record { alternatives = found ++ all; condition = condition }) vs)
  unfolding conditions_from
  conditions_up zero found list last h = spent_up
  conditions_up (suc n) found {vs = vs} Many.none Perhaps.absent h =
      subst (λ xs. Reaches (conditions_from bound (suc n) found) vs (Found (record { alternatives = xs; condition = None }) vs)) (sym (append-nil found))
      (on_miss (kind.Word reserved.When) (expression_within bound >>= (λ a. on (kind.Word reserved.Else)
      (waveform_within bound >>= (λ w. conditions_from bound n (found ++ record { condition = a; otherwise = w } ∷ []))) (pure (record { alternatives = found; condition = Some a })))) _
      (unlike_unseen _ vs h.unconditional) pure_up)
  conditions_up (suc n) found {ts = ts} {vs = vs} Many.none (Perhaps.present {a = a} r) h =
      subst (λ xs. Reaches (conditions_from bound (suc n) found) ts (Found (record { alternatives = xs; condition = Some a }) vs)) (sym (append-nil found))
      (on_hit (kind.Word reserved.When) _ _ (bind_up _ ((expression_reached bound).reads r (record { below = h.waveform.element.below }))
      (on_miss (kind.Word reserved.Else) (waveform_within bound >>= (λ w. conditions_from bound n (found ++ record { condition = a; otherwise = w } ∷ []))) _ (unlike_unseen _ vs h.other) pure_up)))
  conditions_up (suc n) found {ts = ts} {vs = vs} {condition = condition} (Many.more {all = all} (IsAlternative.otherwise {a = a} {all = w} r first) rest) last h =
      subst (λ xs. Reaches (conditions_from bound (suc n) found) ts (Found (record { alternatives = xs; condition = condition }) vs)) (append_assoc found (record { condition = a; otherwise = w } ∷ []) all)
      (on_hit (kind.Word reserved.When) _ _ (bind_up _ ((expression_reached bound).reads r (record { below = omega arith }))
      (on_hit (kind.Word reserved.Else) _ _ (bind_up _ ((waveform_reached bound).reads first (conditions_ends rest last h.waveform))
      (conditions_up n (found ++ record { condition = a; otherwise = w } ∷ []) rest last h)))))

  pub assignment_from_up : (postponed : Bool) {x : Span} {ts us : List Token} {a : ConcurrentAssignment} → IsConcurrentAssignment postponed (id x ∷ ts) a us
      → Reaches (assignment_from bound postponed (id x)) ts (Found (a_body.Assignment a) us)
  unfolding assignment_from assignment_to
  assignment_from_up postponed (IsConcurrentAssignment.assigned r d first all last) =
      let semicolon : EndsConditions (Some (kind.Delimiter delimiter.Semicolon)) =
      record { waveform = record { element = record { below = omega arith; undelayed = λ e. cc }; last = λ e. cc }; unconditional = λ e. cc; other = λ e. cc } in
      bind_up _ (name_from_reached bound r (record { below = omega arith })) (bind_up _ (word_up _)
      (bind_up _ ((delay_reached bound).reads d (waveform_starts first)) (bind_up _ ((waveform_reached bound).reads first (conditions_ends all last semicolon.waveform))
      (bind_up _ (conditions_up bound [] all last semicolon) (bind_up _ (word_up _) pure_up)))))

  -- ---- both

  process_or_assignment_up : (postponed : Bool) {ts us : List Token} {b : ConcurrentBody} → IsBodyOf postponed ts b us → Reaches (process_or_assignment bound postponed) ts (Found b us)
  unfolding process_or_assignment process assignment same
  process_or_assignment_up postponed (IsBodyOf.process (IsProcess.process s is ds all again name)) = on_hit _ _ _ (bind_up _ (process_head_up s is (declarations_open ds))
      (bind_up _ ((process_declarations_complete bound).reads ds refl) (bind_up _ (word_up _) (bind_up _ ((statements_reached bound).reads all refl) (bind_up _ (process_end_up again name) pure_up)))))
  process_or_assignment_up postponed (IsBodyOf.assignment {us = us} {a = a} r) = let n = target_of r in
      subst (λ xs. Reaches (process_or_assignment bound postponed) xs (Found (a_body.Assignment a) us)) (sym n.is) (on_miss _ (process bound postponed) _ refl
      (bind_up _ (token_up _) (assignment_from_up postponed (subst (λ xs. IsConcurrentAssignment postponed xs a us) n.is r))))

  pub body_up : {ts us : List Token} {b : ConcurrentBody} → IsBody ts b us → Reaches (body bound) ts (Found b us)
  unfolding body
  body_up (IsBody.body {ts = ts} IsPostponed.absent b) = on_miss _ (process_or_assignment bound true) _ (unseen begins_body _ ts refl (body_begins b)) (process_or_assignment_up false b)
  body_up (IsBody.body IsPostponed.present b) = on_hit _ _ _ (process_or_assignment_up true b)
