-- The processes of the assignments, and the signals that have one.
use Rattle.std.proofs.Common.{◌≡◌, ◌+◌, ◌<◌, ◌≤◌, ℕ, zero, suc, Bool, true, false, cond, ◌||◌, nat_eq, List, [], ◌∷◌, ◌++◌, Option, Some, None, unwrap_or, length, get_or, set, replicate, take, drop, map, refl, sym, ap, ◌∙◌, subst, arith, length-set, get_or-set_same, get_or-set_other}
use Rattle.std.proofs.lemmas.Bool.{and_right, eqb-true, eqb-false}
use Rattle.std.proofs.lemmas.Bool.Decides.{nat_tests}
use Rattle.std.proofs.lemmas.Option.{cond_some, none-some}
use Rattle.std.proofs.lemmas.List.{map-append, take_all, length-replicate}
use Rattle.std.proofs.lemmas.List.Folds.{list_any-append, list_all-append, list_all_at}
use Rattle.std.specs.List.{list_all, list_any}
use Rattle.sim_design.specs.declared.Process.{Process}
use Rattle.sim_design.specs.Design.{is_target, have_own_targets}
use Rattle.first_form.specs.declared.fault.FormError.{FormError}
use Rattle.first_form.specs.declared.fault.FormError.TheVariants.{NotBuilt, NoMemory}
use Rattle.first_form.specs.declared.form.Assignment.{Assignment}
use Rattle.first_form.specs.Form.{number_in, process_of, waveform_of, is_wave, is_assignment}
use Rattle.first_form.specs.Answers.{Fails}
use Rattle.first_form.specs.Building.{process_with, processes_from}
use Rattle.first_form.proofs.Apart.{are_apart, same_target, have_own_targets-apart, are_apart-push, are_apart-clash, split, take_next}
use Rattle.first_form.proofs.Names.{number_in-within}

-- what follows from the process of an assignment
pub record IsMade (signals : List (List ℕ)) (a : Assignment) (p : Process) : Type 0 where
  pub right : is_assignment signals a ≡ true
  pub same : process_of signals a ≡ p
  pub within : p.target < length signals

pub made : (signals : List (List ℕ)) (a : Assignment) (p : Process) (found : Option ℕ) → found ≡ number_in signals a.target
    → process_with found a ≡ Some p → IsMade signals a p
made signals a p None e h = absurd (none-some p h)
made signals a p (Some n) e h =
    let q : Process = record { instance = 0; target = n; waveform = waveform_of a.elements } in
    let g = cond_some (is_wave a.elements) q p h in
    let at : n ≡ p.target = ap (λ p. p.target) g.1 in
    let below = number_in-within signals a.target n (sym e) in
    record {
      right = rw (sym e, g.0) refl;
      same = ap (λ o. record { instance = 0; target = unwrap_or o 0; waveform = waveform_of a.elements }) (sym e) ∙ g.1;
      within = omega arith;
    }

refused : (b : Bool) (p : Process) → cond b (Some p) None ≡ None → b ≡ false
refused true p h = absurd (none-some p (sym h))
refused false p h = refl

not_made : (signals : List (List ℕ)) (a : Assignment) (found : Option ℕ) → found ≡ number_in signals a.target
    → process_with found a ≡ None → is_assignment signals a ≡ false
not_made signals a None e h = rw (sym e) refl
not_made signals a (Some n) e h = rw (sym e) (refused (is_wave a.elements) (record { instance = 0; target = n; waveform = waveform_of a.elements }) h)

-- so many assignments have their process, and the signals that they assign to are marked
pub record AreSoFar (signals : List (List ℕ)) (as' : List Assignment) (ps : List Process) (assigned : List Bool) (turn : ℕ) : Type 0 where
  pub so_far : ps ≡ map (process_of signals) (take turn as')
  pub right : list_all (is_assignment signals) (take turn as') ≡ true
  pub own : have_own_targets ps ≡ true
  pub marks : (k : ℕ) → get_or assigned k false ≡ is_target k ps
  pub room : length assigned ≡ length signals

unmarked : (n k : ℕ) → get_or (replicate n false) k false ≡ false
unmarked zero k = refl
unmarked (suc n) zero = refl
unmarked (suc n) (suc k) = unmarked n k

pub begins : (signals : List (List ℕ)) (as' : List Assignment) (assigned : List Bool) → assigned ≡ replicate (length signals) false
    → AreSoFar signals as' [] assigned 0
begins signals as' assigned e = record {
  so_far = refl;
  right = refl;
  own = refl;
  marks = λ k. rw e (unmarked (length signals) k);
  room = ap length e ∙ length-replicate (length signals) false;
}

same_both_ways : (m n : ℕ) → nat_eq m n ≡ nat_eq n m
same_both_ways m n = grind (arith, nat_tests)

is_target-clash : (p : Process) (ps : List Process) → list_any (λ q. same_target q p) ps ≡ is_target p.target ps
is_target-clash p [] = refl
is_target-clash p (q ∷ ps) = rw (same_both_ways p.target q.target, is_target-clash p ps) refl

or_false : (a b : Bool) → b ≡ false → a ≡ (a || (b || false))
or_false true b h = refl
or_false false b h = rw h refl

or_last : (a b : Bool) → b ≡ true → true ≡ (a || (b || false))
or_last true b h = refl
or_last false b h = rw h refl

pub turns : (signals : List (List ℕ)) (as' : List Assignment) (ps pushed : List Process) (assigned marked : List Bool) (turn : ℕ) (a : Assignment) (p : Process)
    → AreSoFar signals as' ps assigned turn → turn < length as' → a ≡ get_or as' turn a → IsMade signals a p
    → get_or assigned p.target false ≡ false → pushed ≡ ps ++ p ∷ [] → marked ≡ set assigned p.target true
    → AreSoFar signals as' pushed marked (turn + 1)
turns signals as' ps pushed assigned marked turn a p s within e m free e1 e2 = record {
  so_far = rw (e1, take_next as' turn a within e, map-append (process_of signals) (take turn as') (a ∷ [])) (ap (λ ps. ps ++ p ∷ []) s.so_far ∙ ap (λ p. map (process_of signals) (take turn as') ++ p ∷ []) (sym m.same));
  right = rw (take_next as' turn a within e, list_all-append (is_assignment signals) (take turn as') (a ∷ []), s.right, m.right) refl;
  own = rw e1 (have_own_targets-apart (ps ++ p ∷ []) ∙ are_apart-push same_target ps p ∙ rw (sym (have_own_targets-apart ps), s.own, is_target-clash p ps, sym (s.marks p.target), free) refl);
  marks = λ k. rw (e1, e2, list_any-append (λ q. nat_eq q.target k) ps (p ∷ [])) (at k (nat_eq p.target k) refl);
  room = rw (e2, length-set) s.room;
}
  where
    at : (k : ℕ) (b : Bool) → nat_eq p.target k ≡ b → get_or (set assigned p.target true) k false ≡ (is_target k ps || (nat_eq p.target k || false))
    at k true h =
        let same = eqb-true p.target k h in
        let inside : p.target < length assigned = omega (arith, m.within, s.room) in
        subst (λ k. get_or (set assigned p.target true) k false ≡ true) same (rw get_or-set_same refl) ∙ or_last (is_target k ps) (nat_eq p.target k) h
    at k false h =
        let apart : k ≡ p.target → ⊥ = λ e. eqb-false p.target k h (sym e) in
        rw get_or-set_other (s.marks k) ∙ or_false (is_target k ps) (nat_eq p.target k) h

pub stops : (signals : List (List ℕ)) (as' : List Assignment) (ps : List Process) (assigned : List Bool) (turn : ℕ) (a : Assignment) (found : Option ℕ) (fault : FormError)
    → turn < length as' → a ≡ get_or as' turn a → found ≡ number_in signals a.target → Fails fault (process_with found a) → Fails fault (processes_from signals as')
stops signals as' ps assigned turn a found NoMemory within e n h = tt
stops signals as' ps assigned turn a found NotBuilt within e n h =
    let wrong = list_all_at (is_assignment signals) as' turn a within (ap (is_assignment signals) (sym e) ∙ not_made signals a found n h) in
    rw wrong refl

pub clashes : (signals : List (List ℕ)) (as' : List Assignment) (ps : List Process) (assigned : List Bool) (turn : ℕ) (a : Assignment) (p : Process)
    → AreSoFar signals as' ps assigned turn → turn < length as' → a ≡ get_or as' turn a → IsMade signals a p
    → get_or assigned p.target false ≡ true → processes_from signals as' ≡ None
clashes signals as' ps assigned turn a p s within e m taken =
    let f = process_of signals in
    let there : list_any (λ q. same_target q p) (map f (take turn as')) ≡ true = subst (λ ps. list_any (λ q. same_target q p) ps ≡ true) s.so_far (is_target-clash p ps ∙ (sym (s.marks p.target) ∙ taken)) in
    let parts : map f as' ≡ map f (take turn as') ++ p ∷ map f (drop (turn + 1) as') =
    ap (map f) (split as' turn a within e) ∙ (map-append f (take turn as') (a ∷ drop (turn + 1) as') ∙ ap (λ p. map f (take turn as') ++ p ∷ map f (drop (turn + 1) as')) m.same) in
    let shared = have_own_targets-apart (map f as') ∙ (ap (are_apart same_target) parts ∙ are_apart-clash same_target (map f (take turn as')) p (map f (drop (turn + 1) as')) there) in
    rw (and_right (list_all (is_assignment signals) as') (have_own_targets (map f as')) shared) refl

pub ends : (signals : List (List ℕ)) (as' : List Assignment) (ps : List Process) (assigned : List Bool) (turn : ℕ)
    → AreSoFar signals as' ps assigned turn → length as' ≤ turn → processes_from signals as' ≡ Some ps
ends signals as' ps assigned turn s all =
    let whole = take_all turn as' all in
    let right = ap (list_all (is_assignment signals)) (sym whole) ∙ s.right in
    let same = s.so_far ∙ ap (map (process_of signals)) whole in
    let own = ap have_own_targets (sym same) ∙ s.own in
    rw (right, own) (ap Some (sym same))
