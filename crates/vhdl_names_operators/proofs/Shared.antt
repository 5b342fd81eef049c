-- The one type of a set that passes a test, where each is tested in turn.
use Rattle.std.proofs.Common.{◌≡◌, ◌<◌, ◌≤◌, ◌+◌, ℕ, Bool, true, false, cond, List, ◌∷◌, ◌++◌, refl, sym, ap, ◌∙◌, length, drop, get_or, filter, Option, if◌then◌else◌}
use Rattle.std.specs.Prelude.{Some, None, is_some, option_to_list}
use Rattle.std.proofs.lemmas.List.{at_drop_more, at_drop_all, append-nil}
use Rattle.std.proofs.lemmas.Option.{slice_get-get_or}
use Rattle.vhdl_units.specs.declared.base_type.BaseType.{BaseType}
use Rattle.vhdl_units.specs.declared.base_type.BaseType.TheVariants as base
use Rattle.vhdl_names_operators.specs.Places.{only, if_passes, passing_at}

tested : (b : Bool) (t : BaseType) (rest : List BaseType) → cond b (t ∷ rest) rest ≡ option_to_list (if b then Some t else None) ++ rest
tested true t rest = refl
tested false t rest = refl

-- what is left of the types that pass, one place on
pub one_on : (p : BaseType → Bool) (ls : List BaseType) (i : ℕ) → i < length ls
    → filter p (drop i ls) ≡ option_to_list (passing_at p ls i) ++ filter p (drop (i + 1) ls)
unfolding passing_at if_passes
one_on p ls i h =
    at_drop_more (λ xs. filter p xs) ls i base.Integer h
    ∙ tested (p (get_or ls i base.Integer)) (get_or ls i base.Integer) (filter p (drop (i + 1) ls))
    ∙ ap (λ o. option_to_list (if_passes p o) ++ filter p (drop (i + 1) ls)) (sym (slice_get-get_or ls i base.Integer h))

so_far : (p : BaseType → Bool) (ls : List BaseType) (i : ℕ) (common : Option BaseType) → i < length ls
    → option_to_list common ++ filter p (drop i ls) ≡ filter p ls
    → option_to_list common ++ (option_to_list (passing_at p ls i) ++ filter p (drop (i + 1) ls)) ≡ filter p ls
so_far p ls i common h inv = ap (λ xs. option_to_list common ++ xs) (sym (one_on p ls i h)) ∙ inv

two_at : (p : BaseType → Bool) (ls : List BaseType) (i : ℕ) (common next : Option BaseType) → is_some common ≡ true → is_some next ≡ true
    → option_to_list common ++ (option_to_list next ++ filter p (drop (i + 1) ls)) ≡ filter p ls → None ≡ only (filter p ls)
unfolding only
two_at p ls i (Some a) (Some b) c n inv = ap only inv
two_at p ls i None next c n inv = absurd cc
two_at p ls i (Some a) None c n inv = absurd cc

-- a second type
pub found_two : (p : BaseType → Bool) (ls : List BaseType) (i : ℕ) (common next : Option BaseType) → i < length ls → next ≡ passing_at p ls i → is_some common ≡ true → is_some next ≡ true
    → option_to_list common ++ filter p (drop i ls) ≡ filter p ls → None ≡ only (filter p ls)
found_two p ls i common next h e c n inv =
    two_at p ls i common next c n (ap (λ o. option_to_list common ++ (option_to_list o ++ filter p (drop (i + 1) ls))) e ∙ so_far p ls i common h inv)

first_at : (p : BaseType → Bool) (ls : List BaseType) (i : ℕ) (common next : Option BaseType) → is_some common ≡ false
    → option_to_list common ++ (option_to_list next ++ filter p (drop (i + 1) ls)) ≡ filter p ls
    → option_to_list next ++ filter p (drop (i + 1) ls) ≡ filter p ls
first_at p ls i None next c inv = inv
first_at p ls i (Some a) next c inv = absurd cc

-- a first one
pub found_one : (p : BaseType → Bool) (ls : List BaseType) (i : ℕ) (common next : Option BaseType) → i < length ls → next ≡ passing_at p ls i → is_some common ≡ false
    → option_to_list common ++ filter p (drop i ls) ≡ filter p ls
    → option_to_list next ++ filter p (drop (i + 1) ls) ≡ filter p ls
found_one p ls i common next h e c inv =
    first_at p ls i common next c (ap (λ o. option_to_list common ++ (option_to_list o ++ filter p (drop (i + 1) ls))) e ∙ so_far p ls i common h inv)

none_at : (p : BaseType → Bool) (ls : List BaseType) (i : ℕ) (common next : Option BaseType) → is_some next ≡ false
    → option_to_list common ++ (option_to_list next ++ filter p (drop (i + 1) ls)) ≡ filter p ls
    → option_to_list common ++ filter p (drop (i + 1) ls) ≡ filter p ls
none_at p ls i common None n inv = inv
none_at p ls i common (Some a) n inv = absurd cc

-- none
pub found_none : (p : BaseType → Bool) (ls : List BaseType) (i : ℕ) (common next : Option BaseType) → i < length ls → next ≡ passing_at p ls i → is_some next ≡ false
    → option_to_list common ++ filter p (drop i ls) ≡ filter p ls
    → option_to_list common ++ filter p (drop (i + 1) ls) ≡ filter p ls
found_none p ls i common next h e n inv =
    none_at p ls i common next n (ap (λ o. option_to_list common ++ (option_to_list o ++ filter p (drop (i + 1) ls))) e ∙ so_far p ls i common h inv)

only_option : (common : Option BaseType) → common ≡ only (option_to_list common)
unfolding only
only_option None = refl
only_option (Some t) = refl

-- all were looked at
pub found_all : (p : BaseType → Bool) (ls : List BaseType) (i : ℕ) (common : Option BaseType) → length ls ≤ i
    → option_to_list common ++ filter p (drop i ls) ≡ filter p ls → common ≡ only (filter p ls)
found_all p ls i common h inv =
    only_option common
    ∙ ap only (sym (append-nil (option_to_list common)) ∙ ap (λ xs. option_to_list common ++ xs) (sym (at_drop_all (λ xs. filter p xs) ls i h)) ∙ inv)
