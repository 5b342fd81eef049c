-- Where a host in memory finds a file.
use Rattle.std.proofs.Common.{◌≡◌, ℕ, ◌+◌, ◌<◌, Bool, true, false, cond, not, List, [], ◌∷◌, length, get_or, None, Some, Option, Vec, suc, zero, refl, sym, ap, ◌∙◌, arith, ltb, bytes_eq, MatchOption}
use Rattle.std.specs.List.{position, position_or_len}
use Rattle.std.proofs.lemmas.Bool.Decides.{nat_tests}
use Prim.Native.Nat.compare
use lib.Dec.{is_le}
use borrow.Author.Tests.{ltb-true}
use Rattle.std.proofs.Common.{◌⊎◌, inl, inr, Ok, Err, subst, ◌++◌}
use Rattle.std.proofs.lemmas.Option.{MatchOption-at_some, MatchOption-at_none}
use Rattle.sim_host.specs.declared.names.Asked.{Asked}
use Rattle.sim_host.specs.declared.names.Asked.TheVariants.{Start}
use Rattle.sim_host.specs.declared.errors.HostError.{HostError}
use Rattle.std.proofs.Common.{take, drop, take-append-drop}
use Rattle.std.proofs.lemmas.List.{drop-drop}
use Rattle.sim_host.specs.Host.{Reads, bytes_of, started}
use Rattle.sim_host.specs.Memory.{FaultsWhere, Memory, entries, seen_of, text_at}

-- the bytes of the file at a place
pub text_at-get_or : {A : Type 0} (files : List (List ℕ × Vec ℕ A)) (i : ℕ) (d : List ℕ × Vec ℕ A) → i < length files → (get_or files i d).1.items ≡ text_at i files
text_at-get_or [] i d h = absurd (omega arith)
text_at-get_or (x ∷ xs) zero d h = refl
text_at-get_or (x ∷ xs) (suc i) d h = text_at-get_or xs i d (omega arith)

-- whether a file has the name
abbrev pub has_name : {A : Type 0} → List ℕ → List ℕ × Vec ℕ A → Bool
has_name name f = bytes_eq f.0 name

ltb-suc : (q n : ℕ) → ltb (suc q) (suc n) ≡ ltb q n
ltb-suc q n = ap is_le (compare.suc-suc (suc q) n)

step : {A : Type 0} (b : Bool) (q : ℕ) (o : Option (List ℕ)) (f : List ℕ × Vec ℕ A) (files : List (List ℕ × Vec ℕ A))
    → o ≡ cond (ltb q (length files)) (Some (text_at q files)) None
    → cond b (Some f.1.items) o ≡ cond (ltb (cond (not b) (1 + q) 0) (length (f ∷ files))) (Some (text_at (cond (not b) (1 + q) 0) (f ∷ files))) None
step true q o f files e =
    let yes : ltb 0 (suc (length files)) ≡ true = grind (arith, nat_tests) in
    rw yes refl
step false q o f files e =
    let up : 1 + q ≡ suc q = omega arith in
    rw (up, ltb-suc) e

bytes_of-first : {A : Type 0} (name : List ℕ) (files : List (List ℕ × Vec ℕ A))
    → bytes_of name (entries files) ≡ cond (ltb (position_or_len (has_name name) files) (length files)) (Some (text_at (position_or_len (has_name name) files) files)) None
bytes_of-first name [] = refl
bytes_of-first name (f ∷ files) = step (bytes_eq f.0 name) _ _ f files (bytes_of-first name files)

chosen : (b : Bool) (q n : ℕ) (o : Option (List ℕ)) (text : ℕ → List ℕ) → ltb q n ≡ b → o ≡ cond b (Some (text q)) None
    → MatchOption (cond b (Some q) None) (o ≡ None) (λ i. (i < n) × (o ≡ Some (text i)))
chosen true q n o text t e = (ltb-true q n t, e)
chosen false q n o text t e = e

-- the first file of the name, by its place
pub found : {A : Type 0} (name : List ℕ) (files : List (List ℕ × Vec ℕ A))
    → MatchOption (position (has_name name) files) (bytes_of name (entries files) ≡ None) (λ i. (i < length files) × (bytes_of name (entries files) ≡ Some (text_at i files)))
found name files = chosen _ _ (length files) _ (λ i. text_at i files) refl (bytes_of-first name files)

pub found_at : {A : Type 0} (name : List ℕ) (files : List (List ℕ × Vec ℕ A)) (i : ℕ) (place : Option ℕ) → place ≡ position (has_name name) files → place ≡ Some i
    → (i < length files) × (bytes_of name (entries files) ≡ Some (text_at i files))
found_at name files i place first is = MatchOption-at_some _ _ i (sym first ∙ is) (found name files)

pub found_not : {A : Type 0} (name : List ℕ) (files : List (List ℕ × Vec ℕ A)) (place : Option ℕ) → place ≡ position (has_name name) files → place ≡ None → bytes_of name (entries files) ≡ None
found_not name files place first is = MatchOption-at_none _ _ (sym first ∙ is) (found name files)

-- a fault that has its cause
pub faults_rightly : {T : Type 0} (cause : Type 0) (e : HostError) → cause → FaultsWhere {T = T} cause (Err e)
faults_rightly cause e why = record { only = λ _. why; always = λ _. refl }

ok_is_not : {T E : Type 0} (v : T) (e : E) → Ok v ≡ Err e → ⊥
ok_is_not v e h = cc

some_is_not : {T : Type 0} (o : Option T) (v : T) → o ≡ Some v → o ≡ None → ⊥
some_is_not o v h k = cc

false_is_not : (b : Bool) → b ≡ false → b ≡ true → ⊥
false_is_not b h k = cc

-- no fault, where the call is not on the list and the file is there
pub succeeds_rightly : {T A : Type 0} (v : T) (listed : Bool) (place : Option (List ℕ)) (text : List ℕ) → (A → listed ≡ true) → listed ≡ false → place ≡ Some text → FaultsWhere (A ⊎ (place ≡ None)) (Ok v)
succeeds_rightly {A} v listed place text means unlisted there = record { only = λ e. absurd (ok_is_not v _ e); always = λ why. absurd (none why) }
  where
    none : A ⊎ (place ≡ None) → ⊥
    none (inl l) = false_is_not listed unlisted (means l)
    none (inr m) = some_is_not place text there m

-- a file that is held was begun
pub starts_held : (name text : List ℕ) (old now : Memory) (asked : List Asked) (n : ℕ) → now ≡ record old { calls = n } → bytes_of name now.files ≡ Some text → asked ≡ now.asked ++ Start name ∷ []
    → seen_of (record now { left = Some text; asked = asked }) ≡ started name (seen_of old)
starts_held name text old now asked n e t a =
    let P : Memory → Type 0 = λ m. bytes_of name m.files ≡ Some text → asked ≡ m.asked ++ Start name ∷ [] → seen_of (record m { left = Some text; asked = asked }) ≡ started name (seen_of old) in
    let at_old : P (record old { calls = n }) = λ t a. rw (t, a) refl in
    subst P (sym e) at_old t a

-- the front of what is left was read
pub reads_front : (old now : Memory) (n count place : ℕ) (text taken : List ℕ) → now ≡ record old { calls = n } → now.left ≡ Some (drop place text) → taken ≡ take count (drop place text)
    → Reads taken (seen_of old) (seen_of (record now { left = Some (drop (place + count) text) }))
reads_front old now n count place text taken e l t =
    let was : old.left ≡ Some (drop place text) = sym (ap (λ (m : Memory). m.left) e) ∙ l in
    let split : drop place text ≡ taken ++ drop (place + count) text =
    sym (take-append-drop count (drop place text)) ∙ ap (λ r. take count (drop place text) ++ r) (drop-drop count place text) ∙ ap (λ f. f ++ drop (place + count) text) (sym t) in
    record {
      first = was ∙ ap Some split;
      rest = rw (e, was) refl;
    }
