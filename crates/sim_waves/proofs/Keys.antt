use Rattle.std.proofs.Common.{append-nil, ◌≡◌, ◌≢◌, ℕ, zero, suc, ◌+◌, ◌-◌, ◌<◌, ◌≤◌, List, [], ◌∷◌, ◌++◌, length, drop, map, Bool, true, false, ◌&&◌, nat_eq, refl, sym, ap, ◌∙◌, arith, Option, Some, None, if◌then◌else◌, slice_set, add-zero, add-one, subst, append_assoc, get_or-drop, inl, inr}
use Rattle.std.proofs.Math.Seq.{drop-cons}
use Rattle.std.proofs.lemmas.Bool.{cases_lt}
use Rattle.std.proofs.Math.ListN.{set, length-set}
use Rattle.std.proofs.lemmas.Bool.Decides.{nat_tests}
use Rattle.sim_waves.specs.Calendar.{is_at, is_pair, time_of, keys_at, left_at, InStep, IsNextKey}

-- keys that don't have the time are passed over
pub skipped : (d now from : ℕ) (times : List (Option ℕ)) → from + d ≤ length times → ((k : ℕ) → from ≤ k → k < from + d → is_at now (time_of times k) ≡ false) → keys_at now from (drop from times) ≡ keys_at now (from + d) (drop (from + d) times)
skipped zero now from times within none = rw add-zero refl
skipped (suc d) now from times within none =
    let inside : from < length times = omega arith in
    let here : is_at now (time_of times from) ≡ false = none from (omega arith) (omega arith) in
    let next = skipped d now (suc from) times (omega arith) (λ k le lt. none k (omega arith) (omega arith)) in
    let e : suc from + d ≡ from + suc d = omega arith in
    rw (drop-cons times from None inside, here) (subst (λ n. keys_at now (suc from) (drop (suc from) times) ≡ keys_at now n (drop n times)) e next)

-- the next key that has it
pub keys_step : (now from key : ℕ) (times : List (Option ℕ)) → from ≤ key → key < length times → ((k : ℕ) → from ≤ k → k < key → is_at now (time_of times k) ≡ false) → is_at now (time_of times key) ≡ true → keys_at now from (drop from times) ≡ key ∷ keys_at now (key + 1) (drop (key + 1) times)
keys_step now from key times le inside none at_key =
    let e : from + (key - from) ≡ key = omega arith in
    let skip = skipped (key - from) now from times (omega arith) (λ k low high. none k low (omega arith)) in
    let skip : keys_at now from (drop from times) ≡ keys_at now key (drop key times) = subst (λ n. keys_at now from (drop from times) ≡ keys_at now n (drop n times)) e skip in
    let here : keys_at now key (drop key times) ≡ key ∷ keys_at now (suc key) (drop (suc key) times) = rw (drop-cons times key None inside, at_key) refl in
    rw add-one (skip ∙ here)

pub keys_none : (now n : ℕ) (times : List (Option ℕ)) → ((k : ℕ) → is_at now (time_of times k) ≡ false) → keys_at now n times ≡ []
keys_none now n [] none = refl
keys_none now n (x ∷ xs) none = rw (none 0) (keys_none now (suc n) xs (λ k. none (suc k)))

-- no key from here on has it
pub keys_end : (now from : ℕ) (times : List (Option ℕ)) → ((k : ℕ) → from ≤ k → is_at now (time_of times k) ≡ false) → keys_at now from (drop from times) ≡ []
keys_end now from times none = keys_none now from (drop from times) (λ k. rw get_or-drop (none (from + k) (omega arith)))

-- a key that has a time is below the size
pub has_place : (now k : ℕ) (times : List (Option ℕ)) → is_at now (time_of times k) ≡ true → k < length times
has_place now k [] h = absurd (cc)
has_place now zero (x ∷ xs) h = omega arith
has_place now (suc k) (x ∷ xs) h = let rest : k < length xs = has_place now k xs h in omega arith

pub past_end : (now k : ℕ) (times : List (Option ℕ)) → length times ≤ k → is_at now (time_of times k) ≡ false
past_end now k [] h = refl
past_end now zero (x ∷ xs) h = absurd (omega arith)
past_end now (suc k) (x ∷ xs) h = past_end now k xs (omega arith)

-- taking the time from one key that has it
pub clear_one : (now key : ℕ) (times : List (Option ℕ)) → is_at now (time_of times key) ≡ true → map (left_at now) (slice_set times key None) ≡ map (left_at now) times
clear_one now key [] h = refl
clear_one now zero (x ∷ xs) h = rw h refl
clear_one now (suc k) (x ∷ xs) h = ap (λ l. left_at now x ∷ l) (clear_one now k xs h)

-- where no key has it nothing is to be taken
pub left_none : (now : ℕ) (times : List (Option ℕ)) → ((k : ℕ) → is_at now (time_of times k) ≡ false) → map (left_at now) times ≡ times
left_none now [] none = refl
left_none now (x ∷ xs) none = rw (none 0) (ap (λ l. x ∷ l) (left_none now xs (λ k. none (suc k))))

pub push_step : (times : List (Option ℕ)) (has : ℕ × ℕ → Bool) (now from key : ℕ) (items pushed old : List ℕ) → InStep times has → IsNextKey (Some key) now from has → pushed ≡ items ++ key ∷ [] →
    items ++ keys_at now from (drop from times) ≡ old ++ keys_at now 0 times → pushed ++ keys_at now (key + 1) (drop (key + 1) times) ≡ old ++ keys_at now 0 times
push_step times has now from key items pushed old step next e inv =
    let at_key : is_at now (time_of times key) ≡ true = sym (step.same now key) ∙ next.1 in
    let list = keys_step now from key times next.0 (has_place now key times at_key) (λ k low high. sym (step.same now k) ∙ next.2 k low high) at_key in
    rw (e, append_assoc) ((ap (λ l. items ++ l) (sym list)) ∙ inv)

pub push_end : (times : List (Option ℕ)) (has : ℕ × ℕ → Bool) (now from : ℕ) (items old : List ℕ) → InStep times has → IsNextKey None now from has →
    items ++ keys_at now from (drop from times) ≡ old ++ keys_at now 0 times → items ≡ old ++ keys_at now 0 times
push_end times has now from items old step next inv =
    let none = keys_end now from times (λ k le. sym (step.same now k) ∙ next k le) in
    let e : items ++ keys_at now from (drop from times) ≡ items = (ap (λ l. items ++ l) none ∙ append-nil items) in sym e ∙ inv

pub push_all : (times : List (Option ℕ)) (now from : ℕ) (items old : List ℕ) → length times ≤ from →
    items ++ keys_at now from (drop from times) ≡ old ++ keys_at now 0 times → items ≡ old ++ keys_at now 0 times
push_all times now from items old past inv =
    let none = keys_end now from times (λ k le. past_end now k times (omega arith)) in
    let e : items ++ keys_at now from (drop from times) ≡ items = (ap (λ l. items ++ l) none ∙ append-nil items) in sym e ∙ inv

pub cleared_end : (times old : List (Option ℕ)) (has : ℕ × ℕ → Bool) (now from : ℕ) → InStep times has → IsNextKey None now from has → ((k : ℕ) → k < from → is_at now (time_of times k) ≡ false) →
    map (left_at now) times ≡ map (left_at now) old → times ≡ map (left_at now) old
cleared_end times old has now from step next before inv =
    let none : (k : ℕ) → is_at now (time_of times k) ≡ false = λ k. elim (cases_lt k from) [ inl lt ↦ before k lt | inr le ↦ sym (step.same now k) ∙ next k le ] in
    sym (left_none now times none) ∙ inv

pub cleared_all : (times old : List (Option ℕ)) (now from : ℕ) → length times ≤ from → ((k : ℕ) → k < from → is_at now (time_of times k) ≡ false) →
    map (left_at now) times ≡ map (left_at now) old → times ≡ map (left_at now) old
cleared_all times old now from past before inv =
    let none : (k : ℕ) → is_at now (time_of times k) ≡ false = λ k. elim (cases_lt k from) [ inl lt ↦ before k lt | inr le ↦ past_end now k times (omega arith) ] in
    sym (left_none now times none) ∙ inv

pub is_some_at : (now : ℕ) (time : Option ℕ) → is_at now time ≡ true → time ≡ Some now
is_some_at now None h = absurd (cc)
is_some_at now (Some t) h = ap Some (grind (arith, nat_tests))

pub time_same : (times : List (Option ℕ)) (key : ℕ) → time_of (slice_set times key None) key ≡ None
time_same [] key = refl
time_same (x ∷ xs) zero = refl
time_same (x ∷ xs) (suc key) = time_same xs key

pub time_apart : (times : List (Option ℕ)) (key k : ℕ) → k ≢ key → time_of (slice_set times key None) k ≡ time_of times k
time_apart [] key k apart = refl
time_apart (x ∷ xs) zero zero apart = absurd (apart refl)
time_apart (x ∷ xs) zero (suc k) apart = refl
time_apart (x ∷ xs) (suc key) zero apart = refl
time_apart (x ∷ xs) (suc key) (suc k) apart = time_apart xs key k (λ e. apart (ap suc e))

pub time_after : (times : List (Option ℕ)) (key k : ℕ) → time_of (slice_set times key None) k ≡ (if nat_eq k key then None else time_of times k)
time_after times key k = at (nat_eq k key) refl
  where
    at : (b : Bool) → nat_eq k key ≡ b → time_of (slice_set times key None) k ≡ (if nat_eq k key then None else time_of times k)
    at true same = let e : k ≡ key = grind (arith, nat_tests) in rw same (ap (time_of (slice_set times key None)) e ∙ time_same times key)
    at false same = rw same (time_apart times key k (λ (e : k ≡ key). grind (arith, nat_tests)))

pub pair_after : (now key t k : ℕ) (old time : Option ℕ) → (k ≡ key → old ≡ Some now) → time ≡ (if nat_eq k key then None else old) → (if is_pair (Some now) key t k then false else is_at t old) ≡ is_at t time
pair_after now key t k old time at_key e = at (nat_eq k key) refl
  where
    at : (b : Bool) → nat_eq k key ≡ b → (if (is_at t (Some now) && nat_eq k key) then false else is_at t old) ≡ is_at t time
    at true same =
        let is : old ≡ Some now = at_key (grind (arith, nat_tests)) in
        rw (same, is, e, same) (other (nat_eq t now))
      where
        other : (b : Bool) → (if (b && true) then false else b) ≡ false
        other true = refl
        other false = refl
    at false same = rw (same, e, same) (other (nat_eq t now) (is_at t old))
      where
        other : (b o : Bool) → (if (b && false) then false else o) ≡ o
        other true o = refl
        other false o = refl

pub clear_step : (times : List (Option ℕ)) (has after : ℕ × ℕ → Bool) (now key : ℕ) → InStep times has → is_at now (time_of times key) ≡ true →
    ((t k : ℕ) → after (t, k) ≡ (if is_pair (Some now) key t k then false else has (t, k))) → InStep (slice_set times key None) after
clear_step times has after now key step at_key changed = record {
  same = λ t k.
      let old = is_some_at now (time_of times key) at_key in
      changed t k ∙ (ap (λ o. if is_pair (Some now) key t k then false else o) (step.same t k)
      ∙ pair_after now key t k (time_of times k) (time_of (slice_set times key None) k) (λ e. ap (time_of times) e ∙ old) (time_after times key k));
  few = simp length-set step.few;
}

pub clear_more : (times : List (Option ℕ)) (has : ℕ × ℕ → Bool) (now from key : ℕ) → InStep times has → IsNextKey (Some key) now from has → ((k : ℕ) → k < from → is_at now (time_of times k) ≡ false) →
    (k : ℕ) → k < key + 1 → is_at now (time_of (slice_set times key None) k) ≡ false
clear_more times has now from key step next before k below =
    let at_key : is_at now (time_of times key) ≡ true = sym (step.same now key) ∙ next.1 in
    let e = time_after times key k in
    elim (cases_lt k key) [
      | inl lt ↦ (let apart : nat_eq k key ≡ false = grind (arith, nat_tests) in
          rw (e, apart) (elim (cases_lt k from) [ inl early ↦ before k early | inr le ↦ sym (step.same now k) ∙ next.2 k le lt ]))
      | inr le ↦ (let same : nat_eq k key ≡ true = grind (arith, nat_tests) in rw (e, same) refl)
    ]

pub cleared : (times old : List (Option ℕ)) (has after : ℕ × ℕ → Bool) (now from key : ℕ) → InStep times has × (map (left_at now) times ≡ map (left_at now) old) × ((k : ℕ) → k < from → is_at now (time_of times k) ≡ false) → IsNextKey (Some key) now from has →
    ((t k : ℕ) → after (t, k) ≡ (if is_pair (Some now) key t k then false else has (t, k))) →
    InStep (slice_set times key None) after × (map (left_at now) (slice_set times key None) ≡ map (left_at now) old) × ((k : ℕ) → k < key + 1 → is_at now (time_of (slice_set times key None) k) ≡ false)
cleared times old has after now from key inv next changed =
    let at_key : is_at now (time_of times key) ≡ true = sym (inv.0.same now key) ∙ next.1 in
    (clear_step times has after now key inv.0 at_key changed, clear_one now key times at_key ∙ inv.1, clear_more times has now from key inv.0 next inv.2)
