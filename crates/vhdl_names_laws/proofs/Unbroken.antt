-- Events along which no rule is broken.
use Rattle.std.proofs.Common.{◌≡◌, ℕ, List, [], ◌∷◌, ◌++◌, refl, ap, ◌∙◌}
use Rattle.vhdl_names_checker.specs.After.{after}
use Rattle.vhdl_names_checker.specs.Around.{Around}
use Rattle.vhdl_names_checker.specs.Events.{Event}
use Rattle.vhdl_names_checker.specs.Faults.{faults}
use Rattle.vhdl_names_checker.specs.Progress.{Progress, step, walk}
use Rattle.vhdl_names.proofs.Walks.{walk_append}

unfoldable pub Unbroken : List Event → Progress → Type 0
Unbroken [] p = Unit {0}
Unbroken (e ∷ events) p = (faults p.text p.file p.around e ≡ []) × Unbroken events (step e p)

pub unbroken_event : (e : Event) (events : List Event) (p : Progress) → Unbroken (e ∷ events) p → faults p.text p.file p.around e ≡ []
unfolding Unbroken
unbroken_event e events p u = u.0

pub unbroken_behind : (e : Event) (events : List Event) (p : Progress) → Unbroken (e ∷ events) p → Unbroken events (step e p)
unfolding Unbroken
unbroken_behind e events p u = u.1

pub unbroken_first : (xs ys : List Event) (p : Progress) → Unbroken (xs ++ ys) p → Unbroken xs p
unfolding Unbroken
unbroken_first [] ys p u = tt
unbroken_first (x ∷ xs) ys p u = (u.0, unbroken_first xs ys (step x p) u.1)

pub unbroken_rest : (xs ys : List Event) (p : Progress) → Unbroken (xs ++ ys) p → Unbroken ys (walk xs p)
unfolding Unbroken walk
unbroken_rest [] ys p u = u
unbroken_rest (x ∷ xs) ys p u = unbroken_rest xs ys (step x p) u.1

-- ---- the types that the open case statements choose by

-- Whatever stands before, these events leave them as they are.
abbrev pub Keeps : List Event → Type 0
Keeps events = (p : Progress) → (walk events p).around.subjects ≡ p.around.subjects

pub keeps_none : Keeps []
unfolding walk
keeps_none p = refl

pub keeps_append : (xs ys : List Event) → Keeps xs → Keeps ys → Keeps (xs ++ ys)
keeps_append xs ys hx hy p = ap (λ q. q.around.subjects) (walk_append xs ys p) ∙ (hy (walk xs p) ∙ hx p)

-- one event that leaves them
pub keeps_event : (e : Event) (events : List Event) → ((text : List ℕ) (a : Around) → (after text e a).subjects ≡ a.subjects) → Keeps events → Keeps (e ∷ events)
unfolding walk step
keeps_event e events here rest p = rest (step e p) ∙ here p.text p.around

pub keeps_one : (e : Event) → ((text : List ℕ) (a : Around) → (after text e a).subjects ≡ a.subjects) → Keeps (e ∷ [])
keeps_one e here = keeps_event e [] here keeps_none
