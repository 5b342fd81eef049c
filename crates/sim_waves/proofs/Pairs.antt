use Rattle.std.proofs.Common.{◌≡◌, ◌≢◌, ℕ, ◌≤◌, List, [], ◌∷◌, Bool, true, false, IsTrue, cond, ◌&&◌, nat_eq, refl, ap, ◌∙◌, arith, Some, None, if◌then◌else◌}
use Rattle.std.proofs.lemmas.Bool.Decides.{nat_tests}
use Rattle.std.specs.Ordering.{is_gt, is_eq}
use Rattle.std.specs.BTreeSet.{BTreeSet, contains, IsKeyRangeOf}
use Rattle.std.specs.declared.ops.Bound.TheVariants.{Included, Unbounded}
use Rattle.sim_waves.specs.Calendar.{pair_cmp, is_pair, IsFirstOf, IsNextKey}

pub same_pair : (a b t k : ℕ) → is_eq (pair_cmp (a, b) (t, k)) ≡ (nat_eq t a && nat_eq k b)
same_pair a b t k = grind (arith, nat_tests)

pub times_rise : (a b t k : ℕ) → is_gt (pair_cmp (a, b) (t, k)) ≡ false → a ≤ t
times_rise a b t k h = grind (arith, nat_tests)

pub keys_rise : (a b k : ℕ) → is_gt (pair_cmp (a, b) (a, k)) ≡ false → b ≤ k
keys_rise a b k h = grind (arith, nat_tests)

pub rises : (a b k : ℕ) → b ≤ k → is_gt (pair_cmp (a, b) (a, k)) ≡ false
rises a b k h = grind (arith, nat_tests)

pub not_true : (b : Bool) → (b ≡ true → ⊥) → b ≡ false
not_true true h = absurd (h refl)
not_true false h = refl

-- the first pair from (now, from) on, if its time is now
pub next_found : (s : BTreeSet (ℕ × ℕ)) (now from k : ℕ) (r rest : List (ℕ × ℕ)) → IsKeyRangeOf pair_cmp (Included (now, from)) Unbounded s r → r ≡ (now, k) ∷ rest → IsNextKey (Some k) now from (contains pair_cmp s)
next_found s now from k r rest range is =
    let first = rw is at range.1 in
    let least = rw is at range.2 in
    (keys_rise now from k first.0.0, first.1, λ key le lt. not_true (contains pair_cmp s (now, key)) (λ has. let above : k ≤ key = keys_rise now k key (least (now, key) (rises now from key le, tt) has) in omega arith))

pub next_at : (s : BTreeSet (ℕ × ℕ)) (now from : ℕ) (p : ℕ × ℕ) (r rest : List (ℕ × ℕ)) → IsKeyRangeOf pair_cmp (Included (now, from)) Unbounded s r → r ≡ p ∷ rest → p.0 ≡ now → IsNextKey (Some p.1) now from (contains pair_cmp s)
next_at s now from p r rest range is e = next_found s now from p.1 r rest range (is ∙ ap (λ (t : ℕ). (t, p.1) ∷ rest) e)

pub next_none : (s : BTreeSet (ℕ × ℕ)) (now from : ℕ) (r : List (ℕ × ℕ)) → IsKeyRangeOf pair_cmp (Included (now, from)) Unbounded s r → r ≡ [] → IsNextKey None now from (contains pair_cmp s)
next_none s now from r range is = λ key le. range.5 is (now, key) (rises now from key le, tt)

pub next_later : (s : BTreeSet (ℕ × ℕ)) (now from : ℕ) (p : ℕ × ℕ) (r rest : List (ℕ × ℕ)) → IsKeyRangeOf pair_cmp (Included (now, from)) Unbounded s r → r ≡ p ∷ rest → p.0 ≢ now → IsNextKey None now from (contains pair_cmp s)
next_later s now from p r rest range is apart =
    let first = rw is at range.1 in
    let least = rw is at range.2 in
    λ key le. not_true (contains pair_cmp s (now, key)) (λ has.
    let high : p.0 ≤ now = times_rise p.0 p.1 now key (least (now, key) (rises now from key le, tt) has) in
    let low : now ≤ p.0 = times_rise now from p.0 p.1 first.0.0 in
    let e : p.0 ≡ now = omega arith in apart e)

pub first_is : (s : BTreeSet (ℕ × ℕ)) (p : ℕ × ℕ) → IsTrue (contains pair_cmp s p) → ((q : ℕ × ℕ) → IsTrue (contains pair_cmp s q) → is_gt (pair_cmp p q) ≡ false) → IsFirstOf (Some p.0) (contains pair_cmp s)
first_is s p has least = ((p.1, has), λ time key other. times_rise p.0 p.1 time key (least (time, key) other))

pub one_more : (a b t k : ℕ) (now old : Bool) (value : Bool) → now ≡ cond (is_eq (pair_cmp (a, b) (t, k))) value old → now ≡ (if is_pair (Some a) b t k then value else old)
one_more a b t k now old value e = e ∙ ap (λ test. cond test value old) (same_pair a b t k)
