-- What each element of a list gives, one after the other.
use Rattle.std.proofs.Common.{◌≡◌, ◌+◌, ◌<◌, ◌≤◌, ℕ, List, [], ◌∷◌, ◌++◌, Option, Some, None, length, get_or, drop, refl, sym, ap, ◌∙◌, append_assoc}
use Rattle.std.proofs.lemmas.List.{append-nil, drop_all}
use Rattle.std.specs.Option.{option_map}
use Rattle.first_form.specs.declared.fault.FormError.{FormError}
use Rattle.first_form.specs.declared.fault.FormError.TheVariants.{NotBuilt, NoMemory}
use Rattle.first_form.specs.Answers.{Fails}
use Rattle.first_form.specs.Reading.{each}
use Rattle.first_form.proofs.Apart.{drop_next}

-- so many elements have given `made`
abbrev pub IsEachSoFar : {A B : Type 0} → (A → Option B) → List A → List B → ℕ → Type 0
IsEachSoFar f xs made turn = each f xs ≡ option_map (λ ys. made ++ ys) (each f (drop turn xs))

pub begins : {A B : Type 0} (f : A → Option B) (xs : List A) → IsEachSoFar f xs [] 0
begins f xs = same (each f xs)
  where
    same : {X : Type 0} (o : Option (List X)) → o ≡ option_map (λ ys. [] ++ ys) o
    same None = refl
    same (Some ys) = refl

one_more : {A B : Type 0} (f : A → Option B) (made : List B) (x : A) (y : B) (rest : List A) → f x ≡ Some y
    → option_map (λ ys. made ++ ys) (each f (x ∷ rest)) ≡ option_map (λ ys. (made ++ y ∷ []) ++ ys) (each f rest)
unfolding each
one_more {B = B} f made x y rest e = rw e (at (each f rest))
  where
    at : (o : Option (List B)) → option_map (λ ys. made ++ ys) (option_map (λ ys. y ∷ ys) o) ≡ option_map (λ ys. (made ++ y ∷ []) ++ ys) o
    at None = refl
    at (Some ys) = ap Some (sym (append_assoc made (y ∷ []) ys))

none_more : {A B : Type 0} (f : A → Option B) (x : A) (rest : List A) → f x ≡ None → each f (x ∷ rest) ≡ None
unfolding each
none_more f x rest e = rw e refl

pub turns : {A B : Type 0} (f : A → Option B) (xs : List A) (made pushed : List B) (turn : ℕ) (x : A) (y : B) → IsEachSoFar f xs made turn
    → turn < length xs → x ≡ get_or xs turn x → f x ≡ Some y → pushed ≡ made ++ y ∷ [] → IsEachSoFar f xs pushed (turn + 1)
turns f xs made pushed turn x y s within at e p =
    rw p (s ∙ (ap (λ r. option_map (λ ys. made ++ ys) (each f r)) (drop_next xs turn x within at) ∙ one_more f made x y (drop (turn + 1) xs) e))

pub stops : {A B : Type 0} (f : A → Option B) (xs : List A) (made : List B) (turn : ℕ) (x : A) (fault : FormError) → IsEachSoFar f xs made turn
    → turn < length xs → x ≡ get_or xs turn x → Fails fault (f x) → Fails fault (each f xs)
stops f xs made turn x NoMemory s within at e = tt
stops f xs made turn x NotBuilt s within at e =
    s ∙ ap (option_map (λ ys. made ++ ys)) (ap (each f) (drop_next xs turn x within at) ∙ none_more f x (drop (turn + 1) xs) e)

none_left : {A B : Type 0} (f : A → Option B) (made : List B) → option_map (λ ys. made ++ ys) (each f []) ≡ Some made
unfolding each
none_left f made = ap Some (append-nil made)

pub ends : {A B : Type 0} (f : A → Option B) (xs : List A) (made : List B) (turn : ℕ) → IsEachSoFar f xs made turn → length xs ≤ turn → each f xs ≡ Some made
ends f xs made turn s all = s ∙ (ap (λ r. option_map (λ ys. made ++ ys) (each f r)) (drop_all turn xs all) ∙ none_left f made)
