-- Lists in which no element clashes with a later one.
use Rattle.std.proofs.Common.{◌≡◌, ◌+◌, ◌<◌, ℕ, Bool, true, false, cond, not, ◌&&◌, ◌||◌, nat_eq, List, [], ◌∷◌, ◌++◌, length, get_or, take, drop, refl, sym, ap, ◌∙◌, inl, inr, add-one}
use Rattle.std.proofs.lemmas.Bool.{or_cases, and_right}
use Rattle.std.proofs.lemmas.List.{take-append-drop, take_more}
use Rattle.std.proofs.Math.Seq.{drop-cons}
use Rattle.std.proofs.lemmas.List.Folds.{list_any-append}
use Rattle.std.specs.List.{list_any}
use Rattle.std.specs.Str.{bytes_eq}
use Rattle.sim_design.specs.declared.Process.{Process}
use Rattle.sim_design.specs.Design.{have_own_targets}
use Rattle.first_form.specs.Form.{are_distinct}

abbrev pub are_apart : {X : Type 0} → (X → X → Bool) → List X → Bool
are_apart clash [] = true
are_apart clash (x ∷ xs) = cond (list_any (clash x) xs) false (are_apart clash xs)

pub are_distinct-apart : (xs : List (List ℕ)) → are_distinct xs ≡ are_apart bytes_eq xs
are_distinct-apart [] = refl
are_distinct-apart (x ∷ xs) = ap (cond (list_any (bytes_eq x) xs) false) (are_distinct-apart xs)

abbrev pub same_target : Process → Process → Bool
same_target p q = nat_eq q.target p.target

pub have_own_targets-apart : (ps : List Process) → have_own_targets ps ≡ are_apart same_target ps
have_own_targets-apart [] = refl
have_own_targets-apart (p ∷ ps) = ap (cond (list_any (same_target p) ps) false) (have_own_targets-apart ps)

pushed : (a b c d : Bool) → cond (a || (b || false)) false (c && not d) ≡ (cond a false c && not (b || d))
pushed true b c d = refl
pushed false true c d = sym (and_right c false refl)
pushed false false c d = refl

pub are_apart-push : {X : Type 0} (clash : X → X → Bool) (xs : List X) (y : X)
    → are_apart clash (xs ++ y ∷ []) ≡ (are_apart clash xs && not (list_any (λ x. clash x y) xs))
are_apart-push clash [] y = refl
are_apart-push clash (x ∷ xs) y =
    rw (list_any-append (clash x) xs (y ∷ []), are_apart-push clash xs y) (pushed (list_any (clash x) xs) (clash x y) (are_apart clash xs) (list_any (λ x. clash x y) xs))

settled : (b : Bool) → cond b false false ≡ false
settled true = refl
settled false = refl

met : (a b c d : Bool) → b ≡ true → cond (a || (b || c)) false d ≡ false
met true b c d h = refl
met false true c d h = refl
met false false c d h = cc

pub are_apart-clash : {X : Type 0} (clash : X → X → Bool) (xs : List X) (y : X) (ys : List X)
    → list_any (λ x. clash x y) xs ≡ true → are_apart clash (xs ++ y ∷ ys) ≡ false
are_apart-clash clash [] y ys h = cc
are_apart-clash clash (x ∷ xs) y ys h =
    elim (or_cases (clash x y) (list_any (λ x. clash x y) xs) h) [
      | inl first ↦ rw (list_any-append (clash x) xs (y ∷ ys)) (met (list_any (clash x) xs) (clash x y) (list_any (clash x) ys) (are_apart clash (xs ++ y ∷ ys)) first)
      | inr later ↦ rw (are_apart-clash clash xs y ys later) (settled (list_any (clash x) (xs ++ y ∷ ys)))
    ]

-- a list is what stands before a place, the element there, and what stands after it
pub split : {X : Type 0} (xs : List X) (i : ℕ) (x : X) → i < length xs → x ≡ get_or xs i x → xs ≡ take i xs ++ x ∷ drop (i + 1) xs
split xs i x within e =
    sym (take-append-drop i xs) ∙ ap (λ r. take i xs ++ r) (rw add-one (drop-cons xs i x within) ∙ ap (λ y. y ∷ drop (i + 1) xs) (sym e))

pub take_next : {X : Type 0} (xs : List X) (i : ℕ) (x : X) → i < length xs → x ≡ get_or xs i x → take (i + 1) xs ≡ take i xs ++ x ∷ []
take_next xs i x within e = take_more xs i x within ∙ ap (λ y. take i xs ++ y ∷ []) (sym e)

pub drop_next : {X : Type 0} (xs : List X) (i : ℕ) (x : X) → i < length xs → x ≡ get_or xs i x → drop i xs ≡ x ∷ drop (i + 1) xs
drop_next xs i x within e = rw add-one (drop-cons xs i x within) ∙ ap (λ y. y ∷ drop (i + 1) xs) (sym e)
