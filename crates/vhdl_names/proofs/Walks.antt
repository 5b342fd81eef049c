-- Walks along lists of events and of parts.
use Rattle.std.proofs.Common.{◌≡◌, ℕ, ◌+◌, ◌<◌, ◌≤◌, List, [], ◌∷◌, ◌++◌, length, map, drop, get_or, refl, sym, ap, ◌∙◌, subst, append_assoc}
use Rattle.std.proofs.lemmas.List.{append-nil, drop_more, drop_all}
use Rattle.std.specs.List.{flat_map}
use Rattle.vhdl_names_checker.specs.Events.{Event}
use Rattle.vhdl_names_checker.specs.Progress.{Progress, step, walk}
use Rattle.vhdl_names.specs.Parts.{Part, all_at, events_of}

pub walk_none : (p : Progress) → walk [] p ≡ p
unfolding walk
walk_none p = refl

pub walk_cons : (e : Event) (events : List Event) (p : Progress) → walk (e ∷ events) p ≡ walk events (step e p)
unfolding walk
walk_cons e events p = refl

pub walk_append : (xs ys : List Event) (p : Progress) → walk (xs ++ ys) p ≡ walk ys (walk xs p)
unfolding walk
walk_append [] ys p = refl
walk_append (x ∷ xs) ys p = walk_append xs ys (step x p)

pub walk_flat : {X : Type 0} (f : X → List Event) (x : X) (xs : List X) (p : Progress) → walk (flat_map f (x ∷ xs)) p ≡ walk (flat_map f xs) (walk (f x) p)
walk_flat f x xs p = walk_append (f x) (flat_map f xs) p

pub ruleset walks = (walk_none, walk_cons, walk_append, walk_flat)

-- one turn of a loop over what is walked along
pub walk_turn : {X : Type 0} (f : X → List Event) (xs : List X) (i : ℕ) (x : X) (s t start : Progress)
    → i < length xs → x ≡ get_or xs i x → walk (flat_map f (drop i xs)) s ≡ walk (flat_map f xs) start → t ≡ walk (f x) s
    → walk (flat_map f (drop (i + 1) xs)) t ≡ walk (flat_map f xs) start
walk_turn f xs i x s t start below is so_far turn =
    ap (walk (flat_map f (drop (i + 1) xs))) turn ∙ (sym (walk_flat f x (drop (i + 1) xs) s) ∙
    (ap (λ y. walk (flat_map f (y ∷ drop (i + 1) xs)) s) is ∙ (sym (ap (λ ys. walk (flat_map f ys) s) (drop_more xs i x below)) ∙ so_far)))

-- its end
pub walk_end : {X : Type 0} (f : X → List Event) (xs : List X) (i : ℕ) (s start : Progress)
    → length xs ≤ i → walk (flat_map f (drop i xs)) s ≡ walk (flat_map f xs) start → s ≡ walk (flat_map f xs) start
walk_end f xs i s start above so_far = sym (ap (λ ys. walk (flat_map f ys) s) (drop_all i xs above) ∙ walk_none s) ∙ so_far

-- ---- parts one after the other: what is left goes on from here

-- how far a loop over parts has come, and what they mean so far
abbrev pub Reaches : {X : Type 0} → List X → List (Part X) → Progress → List (Part X) → Progress → Type 0
Reaches done rest s all start = (walk (events_of rest) s ≡ walk (events_of all) start) × (done ++ all_at rest s ≡ all_at all start)

pub parts_begin : {X : Type 0} (done : List X) (all : List (Part X)) (start : Progress) → done ≡ [] → Reaches done all start all start
parts_begin done all start none = (refl, ap (λ xs. xs ++ all_at all start) none)

-- the part at hand
pub parts_more : {X : Type 0} (done pushed : List X) (part : Part X) (rest all : List (Part X)) (v : X) (s t start : Progress)
    → Reaches done (part ∷ rest) s all start → t ≡ walk part.events s → v ≡ part.at s → pushed ≡ done ++ v ∷ [] → Reaches pushed rest t all start
unfolding events_of all_at
parts_more done pushed part rest all v s t start so_far turn means more = (
  ap (walk (events_of rest)) turn ∙ (sym (walk_append part.events (events_of rest) s) ∙ so_far.0),
  rw (more, means, turn) (append_assoc done (part.at s ∷ []) (all_at rest (walk part.events s)) ∙ so_far.1),
)

pub parts_end : {X : Type 0} (done : List X) (rest all : List (Part X)) (s start : Progress)
    → Reaches done rest s all start → rest ≡ [] → (s ≡ walk (events_of all) start) × (done ≡ all_at all start)
unfolding events_of all_at walk
parts_end done rest all s start so_far none = (
  sym (ap (λ ps. walk (events_of ps) s) none) ∙ so_far.0,
  sym (append-nil done) ∙ (sym (ap (λ ps. done ++ all_at ps s) none) ∙ so_far.1),
)

-- a loop over what has parts
pub part_turn : {A X : Type 0} (f : A → Part X) (xs : List A) (i : ℕ) (x : A) (done pushed : List X) (v : X) (s t start : Progress)
    → i < length xs → x ≡ get_or xs i x → Reaches done (map f (drop i xs)) s (map f xs) start → t ≡ walk (f x).events s → v ≡ (f x).at s → pushed ≡ done ++ v ∷ []
    → Reaches pushed (map f (drop (i + 1) xs)) t (map f xs) start
part_turn {X = X} f xs i x done pushed v s t start below is so_far turn means more =
    let P : List (Part X) → Type 0 = λ ps. Reaches done ps s (map f xs) start in
    let rest_is : map f (drop i xs) ≡ f x ∷ map f (drop (i + 1) xs) = ap (map f) (drop_more xs i x below) ∙ ap (λ y. f y ∷ map f (drop (i + 1) xs)) (sym is) in
    parts_more done pushed (f x) (map f (drop (i + 1) xs)) (map f xs) v s t start (subst P rest_is so_far) turn means more

pub part_end : {A X : Type 0} (f : A → Part X) (xs : List A) (i : ℕ) (done : List X) (s start : Progress)
    → length xs ≤ i → Reaches done (map f (drop i xs)) s (map f xs) start → (s ≡ walk (events_of (map f xs)) start) × (done ≡ all_at (map f xs) start)
part_end f xs i done s start above so_far = parts_end done (map f (drop i xs)) (map f xs) s start so_far (ap (map f) (drop_all i xs above))

-- ---- an event or a part, and what follows it

pub then_event : (e : Event) (rest : List Event) (p : Progress) {a q : Progress} → a ≡ step e p → q ≡ walk rest a → q ≡ walk (e ∷ rest) p
unfolding walk
then_event e rest p ha hq = hq ∙ ap (walk rest) ha

pub just_event : (e : Event) (p : Progress) {q : Progress} → q ≡ step e p → q ≡ walk (e ∷ []) p
unfolding walk
just_event e p h = h

pub then_part : (part rest : List Event) (p : Progress) {a q : Progress} → a ≡ walk part p → q ≡ walk rest a → q ≡ walk (part ++ rest) p
then_part part rest p ha hq = hq ∙ (ap (walk rest) ha ∙ sym (walk_append part rest p))

-- all items of a list, and what follows them
pub then_all : {A X : Type 0} (f : A → Part X) (all xs : List A) (rest : List Event) (p : Progress) {a q : Progress}
    → xs ≡ all → a ≡ walk (events_of (map f xs)) p → q ≡ walk rest a → q ≡ walk (events_of (map f all) ++ rest) p
then_all f all xs rest p same ha hq = then_part (events_of (map f all)) rest p (ha ∙ ap (λ ys. walk (events_of (map f ys)) p) same) hq

pub just_all : {A X : Type 0} (f : A → Part X) (all xs : List A) (p : Progress) {q : Progress} → xs ≡ all → q ≡ walk (events_of (map f xs)) p → q ≡ walk (events_of (map f all)) p
just_all f all xs p same h = h ∙ ap (λ ys. walk (events_of (map f ys)) p) same
