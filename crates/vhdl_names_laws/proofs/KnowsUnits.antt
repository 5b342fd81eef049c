-- Parts that mean something wherever no rule is broken along them.
use Rattle.std.proofs.Common.{◌≡◌, Bool, true, ◌&&◌, Option, List, [], ◌∷◌, ◌++◌, map, refl, sym, ap, ◌∙◌, subst}
use Rattle.vhdl_names_checker.specs.Events.{Event}
use Rattle.std.specs.Option.{is_some}
use Rattle.vhdl_names_checker.specs.Faults.{faults, subject}
use Rattle.vhdl_units.specs.declared.base_type.BaseType.{BaseType}
use Rattle.vhdl_names_checker.specs.Progress.{Progress, step, walk}
use Rattle.vhdl_names_laws.specs.Known.{all_known}
use Rattle.vhdl_names.specs.Parts.{Part, all_at, events_of}
use Rattle.vhdl_names_laws.proofs.Unbroken.{Keeps, Unbroken, keeps_append, keeps_none, unbroken_behind, unbroken_event, unbroken_first, unbroken_rest}

pub both : {a b : Bool} → a ≡ true → b ≡ true → (a && b) ≡ true
both {a} {b} ha hb = ap (λ x. x && b) ha ∙ hb

pub more_known : (a : Bool) (all : List Bool) → a ≡ true → all_known all ≡ true → all_known (a ∷ all) ≡ true
more_known a all ha hs = both ha hs

-- each of a list
unfoldable pub Each : {A : Type 0} → (A → Type 0) → List A → Type 0
Each P [] = Unit {0}
Each P (x ∷ xs) = P x × Each P xs

pub each_map : {A B : Type 0} (P : B → Type 0) (f : A → B) → ((x : A) → P (f x)) → (xs : List A) → Each P (map f xs)
unfolding Each
each_map P f h [] = tt
each_map P f h (x ∷ xs) = (h x, each_map P f h xs)

-- ---- what is known of one part

-- Where no rule is broken along a part, what it means is known.
abbrev pub Knows : {X : Type 0} → (X → Bool) → Part X → Type 0
Knows known x = (p : Progress) → Unbroken x.events p → known (x.at p) ≡ true

-- how far the way has come
pub record Past (known : Bool) (rest : List Event) (p : Progress) : Type 0 where
  pub is_known : known ≡ true
  pub unbroken : Unbroken rest p

pub past_event : (known : Bool) (e : Event) (rest : List Event) (p : Progress) → Unbroken (e ∷ rest) p → (faults p.text p.file p.around e ≡ [] → known ≡ true) → Past known rest (step e p)
past_event known e rest p u h = record { is_known = h (unbroken_event e rest p u); unbroken = unbroken_behind e rest p u }

-- parts one after the other
pub last_parts : {X : Type 0} (known : X → Bool) (xs : List (Part X)) (p : Progress) → Each (Knows known) xs → Unbroken (events_of xs) p → all_known (map known (all_at xs p)) ≡ true
unfolding Each events_of all_at
last_parts known [] p ks u = refl
last_parts known (x ∷ xs) p ks u = more_known (known (x.at p)) (map known (all_at xs (walk x.events p)))
    (ks.0 p (unbroken_first x.events (events_of xs) p u)) (last_parts known xs (walk x.events p) ks.1 (unbroken_rest x.events (events_of xs) p u))

-- parts, and what follows them
pub past_parts : {X : Type 0} (known : X → Bool) (xs : List (Part X)) (rest : List Event) (p : Progress)
    → Each (Knows known) xs → Unbroken (events_of xs ++ rest) p → Past (all_known (map known (all_at xs p))) rest (walk (events_of xs) p)
past_parts known xs rest p ks u = record { is_known = last_parts known xs p ks (unbroken_first (events_of xs) rest p u); unbroken = unbroken_rest (events_of xs) rest p u }

-- ---- what is known of one part of a statement: that it also leaves what the open case statements choose by

pub record Holds {X : Type 0} (known : X → Bool) (x : Part X) : Type 0 where
  pub means : Knows known x
  pub keeps : Keeps x.events

pub all_keep : {X : Type 0} (known : X → Bool) (xs : List (Part X)) → Each (Holds known) xs → Keeps (events_of xs)
unfolding Each events_of
all_keep known [] hs = keeps_none
all_keep known (x ∷ xs) hs = keeps_append x.events (events_of xs) hs.0.keeps (all_keep known xs hs.1)

pub all_know : {X : Type 0} (known : X → Bool) (xs : List (Part X)) → Each (Holds known) xs → Each (Knows known) xs
unfolding Each
all_know known [] hs = tt
all_know known (x ∷ xs) hs = (hs.0.means, all_know known xs hs.1)

-- ---- where a case statement is open

-- The innermost case statement chooses by values of a type.
abbrev pub Chooses : List (Option BaseType) → Type 0
Chooses subjects = is_some (subject subjects) ≡ true

pub record HoldsInCase {X : Type 0} (known : X → Bool) (x : Part X) : Type 0 where
  pub means : (p : Progress) → Chooses p.around.subjects → Unbroken x.events p → known (x.at p) ≡ true
  pub keeps : Keeps x.events

pub arms_keep : {X : Type 0} (known : X → Bool) (xs : List (Part X)) → Each (HoldsInCase known) xs → Keeps (events_of xs)
unfolding Each events_of
arms_keep known [] hs = keeps_none
arms_keep known (x ∷ xs) hs = keeps_append x.events (events_of xs) hs.0.keeps (arms_keep known xs hs.1)

pub arms_mean : {X : Type 0} (known : X → Bool) (xs : List (Part X)) (p : Progress) → Each (HoldsInCase known) xs → Chooses p.around.subjects → Unbroken (events_of xs) p
    → all_known (map known (all_at xs p)) ≡ true
unfolding Each events_of all_at
arms_mean known [] p hs chooses u = refl
arms_mean known (x ∷ xs) p hs chooses u = more_known (known (x.at p)) (map known (all_at xs (walk x.events p)))
    (hs.0.means p chooses (unbroken_first x.events (events_of xs) p u))
    (arms_mean known xs (walk x.events p) hs.1 (subst Chooses (sym (hs.0.keeps p)) chooses) (unbroken_rest x.events (events_of xs) p u))
