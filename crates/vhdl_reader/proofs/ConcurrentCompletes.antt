-- Concurrent statements that stand there are read, unless a bound is used up.
use Rattle.std.proofs.Common.{◌≡◌, ℕ, true, false, Option, Some, None, List, ◌∷◌, refl, sym, subst}
use Rattle.vhdl_tokens.specs.declared.token.Kind.{Kind}
use Rattle.vhdl_tokens.specs.declared.token.Kind.TheVariants as kind
use Rattle.vhdl_tokens.specs.declared.token.Token.{Token}
use Rattle.vhdl_tokens.specs.declared.token.Delimiter.TheVariants as delimiter
use Rattle.vhdl_tokens.specs.declared.reserved.Reserved.TheVariants as reserved
use Rattle.vhdl_tree.specs.declared.units.ConcurrentAssignment.{ConcurrentAssignment}
use Rattle.vhdl_tree.specs.declared.units.ConcurrentBody.{ConcurrentBody}
use Rattle.vhdl_tree.specs.declared.units.ConcurrentBody.TheVariants as a_body
use Rattle.vhdl_tree.specs.declared.units.Concurrent.{Concurrent}
use Rattle.vhdl_tree.specs.Words.{Span, id, mark, kind_of, line_of}
use Rattle.vhdl_tree.specs.Units.{IsPostponed, IsProcess, IsConcurrentAssignment, IsInstantiation, IsLabel, IsConcurrent, concurrent_of}
use Rattle.vhdl_reader_expressions.specs.Steps.{Found, sees, ◌>>=◌, pure}
use Rattle.vhdl_reader_expressions.proofs.Complete.{Reaches, Complete, Anything, bind_up, pure_up, on_hit, on_miss, look_up, on_line_up, token_up}
use Rattle.vhdl_reader_expressions.proofs.Begins.{unseen}
use Rattle.vhdl_reader.specs.Reading as spec
use Rattle.vhdl_reader.specs.Reading.{is_identifier, begins_concurrent, assignment_from, instance, body, labelled, named_after, named, unlabelled, concurrent}
use Rattle.vhdl_reader.proofs.Bodies.{IsBodyOf, IsBody, IsLabelled}
use Rattle.vhdl_reader.proofs.Follow.{Named}
use Rattle.vhdl_reader.proofs.Completes.{begins_body, body_begins, target_of, assignment_from_up, body_up}
use Rattle.vhdl_reader.proofs.InstanceCompletes.{instance_up}

-- ---- what they begin with

begins_more : (k : Option Kind) → begins_body k ≡ true → begins_concurrent k ≡ true
begins_more (Some kind.Identifier) e = refl
begins_more (Some (kind.Word reserved.Process)) e = refl
begins_more _ e = absurd cc

body_starts : {ts us : List Token} {b : ConcurrentBody} → IsBody ts b us → begins_concurrent (kind_of ts) ≡ true
body_starts (IsBody.body IsPostponed.absent b) = begins_more _ (body_begins b)
body_starts (IsBody.body IsPostponed.present b) = refl

pub concurrent_starts : (ts us : List Token) (a : Concurrent) → IsConcurrent ts a us → begins_concurrent (kind_of ts) ≡ true
concurrent_starts ts us a (IsConcurrent.process IsLabel.absent q r) = body_starts (IsBody.body q (IsBodyOf.process r))
concurrent_starts ts us a (IsConcurrent.process IsLabel.present q r) = refl
concurrent_starts ts us a (IsConcurrent.assignment IsLabel.absent q r) = body_starts (IsBody.body q (IsBodyOf.assignment r))
concurrent_starts ts us a (IsConcurrent.assignment IsLabel.present q r) = refl
concurrent_starts ts us a (IsConcurrent.instance r) = refl

module _ (bound : ℕ) where
  -- a body without a label is an assignment, whose target begins with an identifier, or it begins with a word
  data Opens : List Token → ConcurrentBody → List Token → Type 0 where
    assigned : {x : Span} {ts us : List Token} {b : ConcurrentBody} → sees (kind.Delimiter delimiter.Colon) ts ≡ false → Reaches (assignment_from bound false (id x)) ts (Found b us)
        → Opens (id x ∷ ts) b us
    worded : {ts us : List Token} {b : ConcurrentBody} → is_identifier (kind_of ts) ≡ false → Reaches (body bound) ts (Found b us) → Opens ts b us

  assignment_opens : {ts us : List Token} {a : ConcurrentAssignment} → Named ts → IsConcurrentAssignment false ts a us → Opens ts (a_body.Assignment a) us
  assignment_opens {us = us} {a = a} n r = subst (λ xs. Opens xs (a_body.Assignment a) us) (sym n.is)
      (Opens.assigned n.next (assignment_from_up bound false (subst (λ xs. IsConcurrentAssignment false xs a us) n.is r)))

  body_opens : {ts us : List Token} {b : ConcurrentBody} → IsBody ts b us → Opens ts b us
  body_opens (IsBody.body IsPostponed.absent (IsBodyOf.process (IsProcess.process s is ds all again name))) =
      Opens.worded refl (body_up bound (IsBody.body IsPostponed.absent (IsBodyOf.process (IsProcess.process s is ds all again name))))
  body_opens (IsBody.body IsPostponed.absent (IsBodyOf.assignment r)) = assignment_opens (target_of r) r
  body_opens (IsBody.body IsPostponed.present b) = Opens.worded refl (body_up bound (IsBody.body IsPostponed.present b))

  unlabelled_up : {ts us : List Token} {b : ConcurrentBody} → Opens ts b us → Reaches (concurrent bound) ts (Found (concurrent_of ts None b) us)
  unfolding concurrent named named_after unlabelled
  unlabelled_up (Opens.assigned {x = x} next r) = on_line_up (spec.concurrent_at bound) (look_up is_identifier (spec.concurrent_by bound x.line) refl
      (bind_up _ (token_up _) (on_miss _ (labelled bound >>= (λ b. pure (record { line = x.line; label = Some (id x); body = b }))) _ next
      (bind_up (λ b. pure (record { line = x.line; label = None; body = b })) r pure_up))))
  unlabelled_up (Opens.worded {ts = ts} is r) = on_line_up (spec.concurrent_at bound) (look_up is_identifier (spec.concurrent_by bound (line_of ts)) is (bind_up _ r pure_up))

  -- ---- behind a label

  labelled_up : {ts us : List Token} {b : ConcurrentBody} → IsLabelled ts b us → Reaches (labelled bound) ts (Found b us)
  unfolding labelled
  labelled_up (IsLabelled.unnamed {ts = ts} b) = on_miss _ (instance bound) _ (unseen begins_concurrent _ ts refl (body_starts b)) (body_up bound b)
  labelled_up (IsLabelled.instance (IsInstantiation.instance {x = x} library a gs ps)) = on_hit _ _ _ (instance_up bound (IsInstantiation.instance {x = x} library a gs ps))

  behind_label : {x y : Span} {ts us : List Token} {b : ConcurrentBody} → IsLabelled ts b us
      → Reaches (concurrent bound) (id x ∷ mark delimiter.Colon y ∷ ts) (Found (record { line = x.line; label = Some (id x); body = b }) us)
  unfolding concurrent named named_after
  behind_label {x = x} r = on_line_up (spec.concurrent_at bound) (look_up is_identifier (spec.concurrent_by bound x.line) refl
      (bind_up _ (token_up _) (on_hit _ _ _ (bind_up _ (labelled_up r) pure_up))))

  concurrent_up : {ts us : List Token} {a : Concurrent} → IsConcurrent ts a us → Reaches (concurrent bound) ts (Found a us)
  concurrent_up (IsConcurrent.process IsLabel.absent q r) = unlabelled_up (body_opens (IsBody.body q (IsBodyOf.process r)))
  concurrent_up (IsConcurrent.process IsLabel.present q r) = behind_label (IsLabelled.unnamed (IsBody.body q (IsBodyOf.process r)))
  concurrent_up (IsConcurrent.assignment IsLabel.absent q r) = unlabelled_up (body_opens (IsBody.body q (IsBodyOf.assignment r)))
  concurrent_up (IsConcurrent.assignment IsLabel.present q r) = behind_label (IsLabelled.unnamed (IsBody.body q (IsBodyOf.assignment r)))
  concurrent_up (IsConcurrent.instance r) = behind_label (IsLabelled.instance r)

  pub concurrent_complete : Complete Anything (concurrent bound) IsConcurrent
  concurrent_complete = record { reads = λ r h. concurrent_up r }
