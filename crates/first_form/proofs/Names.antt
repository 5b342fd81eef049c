-- The numbers of the signals by their names.
use Rattle.std.proofs.Common.{◌≡◌, ◌+◌, ◌<◌, ℕ, suc, Bool, true, false, cond, ◌||◌, List, [], ◌∷◌, ◌++◌, Option, Some, None, Ok, Err, is_some, length, get_or, take, drop, refl, sym, ap, ◌∙◌, subst, arith}
use Rattle.std.proofs.lemmas.Option.{same_Some, none-some}
use Rattle.std.proofs.lemmas.List.{length-take}
use Rattle.std.proofs.lemmas.Slice.Eq.{bytes_eq-Decides}
use Rattle.std.specs.Option.{option_map, option_or}
use Rattle.std.specs.List.{list_any}
use Rattle.std.specs.Str.{bytes_eq}
use Rattle.first_form.specs.declared.fault.FormError.{FormError}
use Rattle.first_form.specs.declared.fault.FormError.TheVariants.{NotBuilt, NoMemory}
use Rattle.first_form.specs.Form.{number_in, are_distinct}
use Rattle.first_form.specs.Building.{Numbers, number_at, AddsNumber, AreNumbered}
use Rattle.first_form.proofs.Apart.{are_apart, are_distinct-apart, are_apart-push, are_apart-clash, split, take_next}

pub none_there : {X : Type 0} (b : Bool) (o : Option X) → b ≡ is_some o → b ≡ false → o ≡ None
none_there b None e f = refl
none_there b (Some x) e f = cc

or_one : (a : Option ℕ) (b : Bool) (n : ℕ)
    → option_map suc (option_or a (cond b (Some n) None)) ≡ option_or (option_map suc a) (cond b (Some (suc n)) None)
or_one None true n = refl
or_one None false n = refl
or_one (Some k) b n = refl

-- one more name at the end
pub number_in-push : (xs : List (List ℕ)) (x q : List ℕ)
    → number_in (xs ++ x ∷ []) q ≡ option_or (number_in xs q) (cond (bytes_eq x q) (Some (length xs)) None)
number_in-push [] x q = refl
number_in-push (y ∷ ys) x q = at (bytes_eq y q) (number_in-push ys x q)
  where
    at : (b : Bool) → number_in (ys ++ x ∷ []) q ≡ option_or (number_in ys q) (cond (bytes_eq x q) (Some (length ys)) None)
        → cond b (Some 0) (option_map suc (number_in (ys ++ x ∷ []) q))
        ≡ option_or (cond b (Some 0) (option_map suc (number_in ys q))) (cond (bytes_eq x q) (Some (suc (length ys))) None)
    at true e = refl
    at false e = rw e (or_one (number_in ys q) (bytes_eq x q) (length ys))

some_suc : (o : Option ℕ) → is_some (option_map suc o) ≡ is_some o
some_suc None = refl
some_suc (Some k) = refl

-- a name has a number where it is among the names
is_some-number_in : (xs : List (List ℕ)) (q : List ℕ) → is_some (number_in xs q) ≡ list_any (λ s. bytes_eq s q) xs
is_some-number_in [] q = refl
is_some-number_in (x ∷ xs) q = at (bytes_eq x q) (is_some-number_in xs q)
  where
    at : (b : Bool) → is_some (number_in xs q) ≡ list_any (λ s. bytes_eq s q) xs
        → is_some (cond b (Some 0) (option_map suc (number_in xs q))) ≡ (b || list_any (λ s. bytes_eq s q) xs)
    at true e = refl
    at false e = some_suc (number_in xs q) ∙ e

pub number_in-within : (xs : List (List ℕ)) (q : List ℕ) (n : ℕ) → number_in xs q ≡ Some n → n < length xs
number_in-within [] q n h = cc
number_in-within (x ∷ xs) q n h = at (bytes_eq x q) (number_in xs q) (λ k e. number_in-within xs q k e) refl h
  where
    at : (b : Bool) (o : Option ℕ) → ((k : ℕ) → number_in xs q ≡ Some k → k < length xs) → number_in xs q ≡ o
        → cond b (Some 0) (option_map suc o) ≡ Some n → n < length (x ∷ xs)
    at true o below e h = let z : 0 ≡ n = same_Some 0 n h in omega arith
    at false None below e h = absurd (none-some n h)
    at false (Some k) below e h = let z : suc k ≡ n = same_Some (suc k) n h in let less = below k e in omega arith

or_none : (o : Option ℕ) → option_or o None ≡ o
or_none None = refl
or_none (Some k) = refl

pub numbered : (numbers new : Numbers) (xs : List (List ℕ)) (i : ℕ) (x : List ℕ) → i < length xs → x ≡ get_or xs i x
    → AreNumbered (Ok numbers) (take i xs) → AddsNumber (Ok tt) numbers x i new → AreNumbered (Ok new) (take (i + 1) xs)
numbered numbers new xs i x within e h added = rw (take_next xs i x within e) (apart, λ q. at q (bytes_eq x q) refl)
  where
    apart : are_distinct (take i xs ++ x ∷ []) ≡ true
    apart =
        let free = sym (is_some-number_in (take i xs) x) ∙ ap is_some (sym (h.1 x) ∙ added.0) in
        are_distinct-apart (take i xs ++ x ∷ []) ∙ rw (are_apart-push bytes_eq (take i xs) x, sym (are_distinct-apart (take i xs)), h.0, free) refl

    at : (q : List ℕ) (b : Bool) → bytes_eq x q ≡ b → number_at new q ≡ number_in (take i xs ++ x ∷ []) q
    at q true same =
        let equal = (bytes_eq-Decides x q).0 same in
        let none = subst (λ r. number_in (take i xs) r ≡ None) equal (sym (h.1 x) ∙ added.0) in
        let long : length (take i xs) ≡ i = omega (arith, length-take i xs) in
        rw (added.1 q, number_in-push (take i xs) x q, none, same, long) refl
    at q false same = rw (added.1 q, number_in-push (take i xs) x q, same, or_none) (h.1 q)

pub clashes : (fault : FormError) (numbers new : Numbers) (xs : List (List ℕ)) (i : ℕ) (x : List ℕ) → i < length xs → x ≡ get_or xs i x
    → AreNumbered (Ok numbers) (take i xs) → AddsNumber (Err fault) numbers x i new → AreNumbered (Err fault) xs
clashes NoMemory numbers new xs i x within e h failed = tt
clashes NotBuilt numbers new xs i x within e h failed =
    let there = sym (is_some-number_in (take i xs) x) ∙ ap is_some (sym (h.1 x)) ∙ failed in
    are_distinct-apart xs ∙ ap (are_apart bytes_eq) (split xs i x within e) ∙ are_apart-clash bytes_eq (take i xs) x (drop (i + 1) xs) there
