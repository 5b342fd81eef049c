use Rattle.std.proofs.Common.{◌≡◌, ℕ, zero, suc, ◌+◌, ◌<◌, List, [], ◌∷◌, refl, arith, ℤ, Option, Some, None, Result, Ok, Err}
use Rattle.vhpi_values.specs.Reading.{gathered, behind, FitsAt, IsFirstMisfit}

-- a place behind elements
pub behind-err : (xs : List ℤ) (r : Result (List ℤ) ℕ) (place : ℕ) → behind xs r ≡ Err place → (q : ℕ) × (r ≡ Err q) × (place ≡ suc q)
behind-err xs (Ok ys) place e = cc
behind-err xs (Err q) place e = let s : q + 1 ≡ place = cc in (q, refl, omega arith)

later : (n : ℕ) (xs : List ℤ) (ms : List (Option (List ℤ))) (q : ℕ) → IsFirstMisfit n ms q → IsFirstMisfit (suc n) (Some xs ∷ ms) (suc q)
later n xs ms q m =
    record { before = before; here = λ f. m.here (f.0, omega (arith, f.1), f.2); is_place = omega (arith, m.is_place) } where
      before : (k : ℕ) → k < suc q → FitsAt (suc n) (Some xs ∷ ms) k
      before zero h = (xs, omega arith, refl)
      before (suc k) h = let f = m.before k (omega arith) in (f.0, omega (arith, f.1), f.2)

pub first-misfit : (n : ℕ) (ms : List (Option (List ℤ))) (place : ℕ) → gathered n ms ≡ Err place → IsFirstMisfit n ms place
first-misfit zero [] place e = cc
first-misfit zero (m ∷ ms) place e =
    let s : place ≡ 0 = cc in
    record { before = λ k h. absurd (omega arith); here = λ f. absurd (omega (arith, f.1)); is_place = omega arith }
first-misfit (suc n) [] place e =
    let s : place ≡ 0 = cc in
    record { before = λ k h. absurd (omega arith); here = λ f. let g = f.2 in cc; is_place = omega arith }
first-misfit (suc n) (None ∷ ms) place e =
    let s : 0 ≡ place = cc in
    rw (← s) (record { before = λ k h. absurd (omega arith); here = λ f. let g = f.2 in cc; is_place = omega arith })
first-misfit (suc n) (Some xs ∷ ms) place e =
    let b = behind-err xs (gathered n ms) place e in
    rw b.2 (later n xs ms b.0 (first-misfit n ms b.0 b.1))
