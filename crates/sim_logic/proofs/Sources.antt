use Rattle.std.proofs.Common.{◌≡◌, ℕ, zero, suc, ◌<◌, ◌≤◌, List, [], ◌∷◌, length, get_or, refl, sym, ◌∙◌, ap, arith, rules}
use Rattle.std.specs.Prelude.{◌≢◌, fold, Contains}
use Rattle.std.specs.List.Sorted.{IsPermutation}
use Rattle.std.proofs.lemmas.List.Sorted.{IsPermutation-sym, Contains-permutation, length_permutation}
use Rattle.std.proofs.lemmas.List.{get_or_default}
use Rattle.sim_logic.specs.declared.Logic9.{Logic9}
use Rattle.sim_logic.specs.declared.Logic9.TheVariants.{U, X, Zero, One, Z, W, L, H, Dash}
use Rattle.sim_logic.specs.Logic.{resolution, resolved}

resolution-comm : (a b : Logic9) → resolution a b ≡ resolution b a
resolution-comm = search rules

resolution-assoc : (a b c : Logic9) → resolution (resolution a b) c ≡ resolution a (resolution b c)
resolution-assoc = search rules

resolution-again : (a b : Logic9) → resolution a (resolution b a) ≡ resolution b a
resolution-again = search rules

resolution-U : (a : Logic9) → resolution U a ≡ U
resolution-U = search rules

-- what is absorbed at the start of a fold is absorbed at its end
stays : (y a : Logic9) (xs : List Logic9) → resolution y a ≡ a → resolution y (fold resolution a xs) ≡ fold resolution a xs
stays y a [] e = e
stays y a (x ∷ xs) e =
    stays y (resolution a x) xs (sym (resolution-assoc y a x) ∙ ap (λ b. resolution b x) e)

-- the one element of a list
only : (x y : Logic9) (k : ℕ) → k < 1 → get_or (x ∷ []) k y ≡ y → x ≡ y
only x y zero h e = e
only x y (suc k) h e = absurd (omega arith)

-- a fold absorbs each of its sources
absorbs : (a : Logic9) (xs : List Logic9) (k : ℕ) (d x : Logic9) → k < length xs → get_or xs k d ≡ x → resolution x (fold resolution a xs) ≡ fold resolution a xs
absorbs a [] k d x h e = absurd (omega arith)
absorbs a (y ∷ ys) zero d x h e =
    stays x (resolution a y) ys (ap (λ z. resolution z (resolution a y)) (sym e) ∙ resolution-again y a)
absorbs a (y ∷ ys) (suc k) d x h e = absorbs (resolution a y) ys k d x (omega arith) e

-- what absorbs each source absorbs the fold
least : (a u : Logic9) (xs : List Logic9) → resolution a u ≡ u → ((k : ℕ) (d : Logic9) → k < length xs → resolution (get_or xs k d) u ≡ u) → resolution (fold resolution a xs) u ≡ u
least a u [] e each = e
least a u (x ∷ xs) e each =
    least (resolution a x) u xs (resolution-assoc a x u ∙ ap (resolution a) (each 0 u (omega arith)) ∙ e) (λ k d h. each (suc k) d (omega arith))

-- a source of one list is absorbed by the fold of another that holds the same
below : (xs ys : List Logic9) → IsPermutation xs ys → resolution (fold resolution Z xs) (fold resolution Z ys) ≡ fold resolution Z ys
below xs ys p =
    least Z (fold resolution Z ys) xs (stays Z Z ys refl) (λ k d h. let among = Contains-permutation xs ys (get_or xs k d) p (k, h, get_or_default xs k (get_or xs k d) d h) in absorbs Z ys among.0 (get_or xs k d) (get_or xs k d) among.1 among.2)

pub fold-order : (xs ys : List Logic9) → IsPermutation xs ys → fold resolution Z xs ≡ fold resolution Z ys
fold-order xs ys p =
    sym (below ys xs (IsPermutation-sym xs ys p)) ∙ resolution-comm (fold resolution Z ys) (fold resolution Z xs) ∙ below xs ys p

-- two or more sources are folded
pub resolved-many : (xs : List Logic9) → 2 ≤ length xs → fold resolution Z xs ≡ resolved xs
resolved-many [] h = absurd (omega arith)
resolved-many (x ∷ []) h = absurd (omega arith)
resolved-many (x ∷ y ∷ rest) h = refl

pub resolved-order : (xs ys : List Logic9) → IsPermutation xs ys → resolved xs ≡ resolved ys
resolved-order xs ys p = by xs ys p (length_permutation xs ys p) where
  by : (xs ys : List Logic9) → IsPermutation xs ys → length ys ≡ length xs → resolved xs ≡ resolved ys
  by [] [] p e = refl
  by [] (y ∷ ys) p e = absurd (omega arith)
  by (x ∷ xs) [] p e = absurd (omega arith)
  by (x ∷ []) (y ∷ []) p e =
      let among = Contains-permutation (x ∷ []) (y ∷ []) x p (0, omega arith, refl) in
      sym (only y x among.0 among.1 among.2)
  by (x ∷ []) (y ∷ z ∷ ys) p e = absurd (omega arith)
  by (x ∷ w ∷ xs) (y ∷ []) p e = absurd (omega arith)
  by (x ∷ w ∷ xs) (y ∷ z ∷ ys) p e = fold-order (x ∷ w ∷ xs) (y ∷ z ∷ ys) p

pub resolved-U : (xs : List Logic9) → Contains xs U → resolved xs ≡ U
resolved-U [] h = absurd (omega (arith, h.1))
resolved-U (x ∷ []) h = only x U h.0 h.1 h.2
resolved-U (x ∷ y ∷ ys) h =
    sym (absorbs Z (x ∷ y ∷ ys) h.0 U U h.1 h.2) ∙ resolution-U (fold resolution Z (x ∷ y ∷ ys))

absorbed-X : (a : Logic9) → resolution X a ≡ a → a ≢ U → a ≡ X
absorbed-X U e n = absurd (n refl)
absorbed-X X e n = refl
absorbed-X Zero e n = cc
absorbed-X One e n = cc
absorbed-X Z e n = cc
absorbed-X W e n = cc
absorbed-X L e n = cc
absorbed-X H e n = cc
absorbed-X Dash e n = cc

pub resolved-X : (xs : List Logic9) → Contains xs X → resolved xs ≢ U → resolved xs ≡ X
resolved-X [] h n = absurd (omega (arith, h.1))
resolved-X (x ∷ []) h n = only x X h.0 h.1 h.2
resolved-X (x ∷ y ∷ ys) h n =
    absorbed-X (fold resolution Z (x ∷ y ∷ ys)) (absorbs Z (x ∷ y ∷ ys) h.0 X X h.1 h.2) n
