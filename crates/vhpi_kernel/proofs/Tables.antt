use Rattle.std.proofs.Common.{◌≡◌, ℕ, ℤ, pos, ◌+◌, ◌<◌, ◌≤◌, List, [], ◌∷◌, ◌++◌, length, refl, ap, subst, ◌∙◌, arith, append_assoc, add-one, zero, suc, length-append, ◌⊎◌, inl, inr}
use Rattle.std.proofs.Math.ListN.{get_or-append}
use Rattle.std.proofs.lemmas.Bool.{cases_lt}
use Rattle.sim_journal.specs.declared.Entry.{Entry}
use Rattle.vhpi_kernel.specs.State.{table, value_at, events, event_of}
use Rattle.vhpi_kernel.specs.Index.{event_to, events_by}

last_value : (vs : List ℤ) (v : ℤ) (n : ℕ) → length vs ≡ n → value_at (vs ++ v ∷ []) n ≡ v
last_value [] v n size = subst (λ (k : ℕ). value_at (v ∷ []) k ≡ v) size refl
last_value (x ∷ xs) v zero size = absurd (omega (arith, size))
last_value (x ∷ xs) v (suc n) size = last_value xs v n (omega (arith, size))

event_is : (old vs : List ℤ) (v : ℤ) (n : ℕ) → length vs ≡ n → event_of old (vs ++ v ∷ []) n ≡ event_to old n v
event_is old vs v n size = ap (event_to old n) (last_value vs v n size)

-- tables of functions that are the same below n
pub same_table : {A : Type 0} (n : ℕ) (f g : ℕ → A) → ((k : ℕ) → k < n → f k ≡ g k) → table n f ≡ table n g
same_table zero f g same = refl
same_table (suc n) f g same = rw (same_table n f g (λ k h. same k (omega arith)), same n (omega arith)) refl

pub length-table : {A : Type 0} (n : ℕ) (f : ℕ → A) → length (table n f) ≡ n
length-table zero f = refl
length-table (suc n) f = omega (arith, length-append (table n f) (f n ∷ []), length-table n f)

-- one net more is settled
pub settle_step : (f : ℕ → ℤ) (n : ℕ) (old vs ws us : List ℤ) (js j k : List Entry) (v : ℤ) → vs ≡ table n f → j ≡ js ++ events_by n old f → v ≡ f n → ws ≡ vs ++ v ∷ [] → us ≡ ws → k ≡ j ++ event_of old us n → (ws ≡ table (n + 1) f) × (k ≡ js ++ events_by (n + 1) old f)
settle_step f n old vs ws us js j k v values journal is more same noted =
    let grown : ws ≡ table n f ++ f n ∷ [] = rw (more, values, is) refl in
    let event : event_of old us n ≡ event_to old n (f n) = rw (same, grown) (event_is old (table n f) (f n) n (length-table n f)) in
    (rw (grown, add-one) refl, rw (noted, journal, event, add-one) (append_assoc js (events_by n old f) (event_to old n (f n))))

pub settled_within : (f : ℕ → ℤ) (n : ℕ) (vs ws us : List ℤ) (v : ℤ) → vs ≡ table n f → ws ≡ vs ++ v ∷ [] → us ≡ ws → n < length us
settled_within f n vs ws us v values more same =
    let size : length vs ≡ n = ap length values ∙ length-table n f in
    let grown : length us ≡ length (vs ++ v ∷ []) = ap length (same ∙ more) in
    omega (arith, size, grown, length-append vs (v ∷ []))

value_by_place : (n m : ℕ) (f : ℕ → ℤ) → (m < n) ⊎ (n ≤ m) → m < suc n → (m < n → value_at (table n f) m ≡ f m) → value_at (table n f ++ f n ∷ []) m ≡ f m
value_by_place n m f (inl less) within before =
    let inside : m < length (table n f) = omega (arith, length-table n f) in
    get_or-append (table n f) (f n ∷ []) (pos 0) m inside ∙ before less
value_by_place n m f (inr more) within before =
    let same : n ≡ m = omega arith in
    last_value (table n f) (f n) m (length-table n f ∙ same) ∙ ap f same

-- the value at a place of a table
pub value-table : (n m : ℕ) (f : ℕ → ℤ) → m < n → value_at (table n f) m ≡ f m
value-table zero m f within = absurd (omega arith)
value-table (suc n) m f within = value_by_place n m f (cases_lt m n) within (value-table n m f)

-- the events of values that are given by a function are those of its table
pub same_events : (n k : ℕ) (old : List ℤ) (f : ℕ → ℤ) → k ≤ n → events_by k old f ≡ events k old (table n f)
same_events n zero old f within = refl
same_events n (suc k) old f within =
    rw (same_events n k old f (omega arith), value-table n k f (omega arith)) refl
