use Rattle.std.proofs.Common.{◌≡◌, ℕ, zero, suc, ◌+◌, List, [], ◌∷◌, ◌++◌, refl, sym, ◌∙◌, ap, append_assoc, append-nil, arith, ℤ, Option, Some, None, Result, Ok, Err}
use Rattle.vhpi_values.specs.Reading.{behind, gathered}

-- what is read, after elements that were read at the k places before
abbrev pub after : List ℤ → ℕ → Result (List ℤ) ℕ → Result (List ℤ) ℕ
after elements k (Ok more) = Ok (elements ++ more)
after elements k (Err place) = Err (k + place)

pub after-behind : (xs ys : List ℤ) (k : ℕ) (r : Result (List ℤ) ℕ) → after xs k (behind ys r) ≡ after (xs ++ ys) (k + 1) r
after-behind xs ys k (Ok more) = ap Ok (sym (append_assoc xs ys more))
after-behind xs ys k (Err place) = let e : k + (place + 1) ≡ k + 1 + place = omega arith in ap Err e

pub after-none : (r : Result (List ℤ) ℕ) → after [] 0 r ≡ r
after-none (Ok more) = refl
after-none (Err place) = let e : 0 + place ≡ place = omega arith in ap Err e

-- the list of what is left, n members being asked for, and what has been read so far
pub record SoFar (xs : List ℤ) (k n : ℕ) (ms : List (Option (List ℤ))) (total : Result (List ℤ) ℕ) : Type 0 where
  pub is : after xs k (gathered n ms) ≡ total

-- it begins with nothing
pub starts : (n m : ℕ) (ms : List (Option (List ℤ))) → n ≡ m → SoFar [] 0 n ms (gathered m ms)
starts n m ms e = record { is = after-none (gathered n ms) ∙ ap (λ k. gathered k ms) e }

abbrev failed : ℕ → Result (List ℤ) ℕ
failed place = Err place

here : (k place : ℕ) → place ≡ k → failed (k + 0) ≡ failed place
here k place ek = let e : k + 0 ≡ place = omega arith in ap failed e

-- a member that isn't asked for
pub surplus : (xs : List ℤ) (k n : ℕ) (ms more : List (Option (List ℤ))) (m : Option (List ℤ)) (total : Result (List ℤ) ℕ) → SoFar xs k n ms total → n ≡ 0 → ms ≡ m ∷ more → (place : ℕ) → place ≡ k → total ≡ Err place
surplus xs k n ms more m total s en em place ek = sym s.is ∙ (rw (en, em) (here k place ek))

-- a member that doesn't fit
pub misfit : (xs : List ℤ) (k n : ℕ) (ms more : List (Option (List ℤ))) (total : Result (List ℤ) ℕ) → SoFar xs k n ms total → ms ≡ None ∷ more → (place : ℕ) → place ≡ k → total ≡ Err place
misfit xs k n ms more total s em place ek = sym s.is ∙ (rw em (at n)) where
  at : (n : ℕ) → after xs k (gathered n (None ∷ more)) ≡ Err place
  at zero = here k place ek
  at (suc n) = here k place ek

-- a member that fits
pub fitting : (xs ys : List ℤ) (k n n' : ℕ) (ms more : List (Option (List ℤ))) (total : Result (List ℤ) ℕ) → SoFar xs k n ms total → n ≡ suc n' → ms ≡ Some ys ∷ more → SoFar (xs ++ ys) (k + 1) n' more total
fitting xs ys k n n' ms more total s en em =
    record {
      is =
          sym (after-behind xs ys k (gathered n' more)) ∙ ap (λ l. after xs k (gathered (suc n') l)) (sym em) ∙ ap (λ m. after xs k (gathered m ms)) (sym en) ∙ s.is;
    }

-- a member that is missing
pub missing : (xs : List ℤ) (k n n' : ℕ) (ms : List (Option (List ℤ))) (total : Result (List ℤ) ℕ) → SoFar xs k n ms total → n ≡ suc n' → ms ≡ [] → (place : ℕ) → place ≡ k → total ≡ Err place
missing xs k n n' ms total s en em place ek = sym s.is ∙ (rw (en, em) (here k place ek))

-- all members
pub done : (xs : List ℤ) (k n : ℕ) (ms : List (Option (List ℤ))) (total : Result (List ℤ) ℕ) → SoFar xs k n ms total → n ≡ 0 → ms ≡ [] → total ≡ Ok xs
done xs k n ms total s en em = sym s.is ∙ (rw (en, em) (ap Ok (append-nil xs)))
