-- What is kept of the types that names share.
use Rattle.std.proofs.Common.{rules, map, ◌≡◌, ◌⊎◌, ℕ, Bool, true, false, List, [], ◌∷◌, ◌++◌, refl, sym, ap, subst, ◌∙◌, inl, inr, cond, Option, String, string_bytes, if◌then◌else◌, append-nil}
use Rattle.std.specs.Prelude.{Some, None}
use Rattle.std.specs.BTreeMap.{BTreeMap, get_by_text}
use Rattle.std.specs.Global.{Global}
use Rattle.std.specs.Str.{bytes_eq}
use Rattle.std.proofs.lemmas.Slice.Eq.{bytes_eq-Decides}
use Rattle.vhdl_units.specs.declared.entry.Entry.{Entry}
use Rattle.vhdl_units.specs.declared.entry.Entry.TheVariants as entry
use Rattle.vhdl_units.specs.Entries.{is_literal}
use Rattle.vhdl_names_overloads.specs.declared.shared.Shared.{Shared}
use Rattle.vhdl_names_overloads.specs.Literals.{literal_type, literal_types}
use Rattle.vhdl_names_overloads.specs.Sharing.{shared}
use Rattle.vhdl_names_overloads.proofs.Both.{types_append}
use Rattle.vhdl_names_scope.specs.Declarations.{Named, own}
use Rattle.vhdl_names_scope.specs.Tables.{Sharings, shared_in, shared_at, own_shared, Shares, KeepsOne}
use Rattle.vhdl_names_scope.proofs.Lists.{own_append}

-- ---- rows

pub still_there : (b : Bool) (o o2 : Option (BTreeMap (String Global) Shared)) (r : List ℕ) (k : Shared) → o2 ≡ cond b None o → shared_in o2 r ≡ Some k → shared_in o r ≡ Some k
still_there true o o2 r k e h = absurd (let n : None ≡ Some k = ap (λ x. shared_in x r) (sym e) ∙ h in cc)
still_there false o o2 r k e h = ap (λ x. shared_in x r) (sym e) ∙ h

in_row : (b : Bool) (o : Option (BTreeMap (String Global) Shared)) (row : BTreeMap (String Global) Shared) (r : List ℕ)
    → shared_in (cond b (Some row) o) r ≡ (if b then get_by_text row r else shared_in o r)
in_row true o row r = refl
in_row false o row r = refl

pub put_there : (b : Bool) (o o2 : Option (BTreeMap (String Global) Shared)) (row : BTreeMap (String Global) Shared) (r : List ℕ)
    → o2 ≡ cond b (Some row) o → shared_in o2 r ≡ (if b then get_by_text row r else shared_in o r)
put_there b o o2 row r e = ap (λ x. shared_in x r) e ∙ in_row b o row r

-- ---- one more is kept

one_kept : (left right l r : List ℕ) (b d : Bool) (s k : Shared) (row old mid : Option Shared)
    → bytes_eq left l ≡ b → bytes_eq right r ≡ d → (mid ≡ Some k → old ≡ Some k) → (l ≡ left → row ≡ old)
    → (if b then (if d then Some s else row) else mid) ≡ Some k → (old ≡ Some k) ⊎ ((l ≡ left) × (r ≡ right) × (k ≡ s))
one_kept left right l r true true s k row old mid e f rest here h =
    inr (sym ((bytes_eq-Decides left l).0 e), sym ((bytes_eq-Decides right r).0 f), sym (search (rules, h)))
one_kept left right l r true false s k row old mid e f rest here h = inl (sym (here (sym ((bytes_eq-Decides left l).0 e))) ∙ h)
one_kept left right l r false d s k row old mid e f rest here h = inl (rest h)

pub kept : (left right : List ℕ) (s : Shared) (old mid new : Sharings) (row row2 : List ℕ → Option Shared)
    → ((r : List ℕ) → row r ≡ shared_at old left r) → ((l r : List ℕ) (k : Shared) → shared_at mid l r ≡ Some k → shared_at old l r ≡ Some k)
    → ((r : List ℕ) → row2 r ≡ (if bytes_eq right r then Some s else row r))
    → ((l r : List ℕ) → shared_at new l r ≡ (if bytes_eq left l then row2 r else shared_at mid l r)) → KeepsOne left right s old new
kept left right s old mid new row row2 begins rest one put l r k h =
    one_kept left right l r (bytes_eq left l) (bytes_eq right r) s k (row r) (shared_at old l r) (shared_at mid l r) refl refl (rest l r k)
    (λ e. begins r ∙ ap (λ x. shared_at old x r) (sym e))
    (ap (λ o. if bytes_eq left l then o else shared_at mid l r) (sym (one r)) ∙ sym (put l r) ∙ h)

pub none_kept : (left right : List ℕ) (s : Shared) (old mid new : Sharings) → ((l r : List ℕ) (k : Shared) → shared_at mid l r ≡ Some k → shared_at old l r ≡ Some k)
    → ((l r : List ℕ) → shared_at new l r ≡ shared_at mid l r) → KeepsOne left right s old new
none_kept left right s old mid new rest same l r k h = inl (rest l r k (sym (same l r) ∙ h))

pub one_shares : (left right : List ℕ) (s : Shared) (old new : Sharings) (region : List Named) → KeepsOne left right s old new → s ≡ own_shared left right region → Shares old region → Shares new region
one_shares left right s old new region one is h l r k e = elim (one l r k e) [
  | inl o ↦ h l r k o
  | inr w ↦ w.2 ∙ is ∙ ap (λ x. own_shared x right region) (sym w.0) ∙ ap (λ x. own_shared l x region) (sym w.1)
]

-- ---- a declaration that is no literal

no_type : (e : Entry) → is_literal e ≡ false → literal_types (e ∷ []) ≡ []
unfolding literal_types literal_type
no_type (entry.Literal t p) h = absurd cc
no_type (entry.Subtype mark) h = refl
no_type (entry.Object o) h = refl
no_type (entry.Function f) h = refl
no_type (entry.Unit u) h = refl
no_type (entry.Label l) h = refl

no_type_of : (b : Bool) (e : Entry) → is_literal e ≡ false → literal_types (cond b (e ∷ []) []) ≡ []
unfolding literal_types
no_type_of true e h = no_type e h
no_type_of false e h = refl

one_of : (b : Bool) (d : Named) → map (λ x. x.entry) (cond b (d ∷ []) []) ≡ cond b (d.entry ∷ []) []
one_of true d = refl
one_of false d = refl

own_one : (name : List ℕ) (d : Named) → own name (d ∷ []) ≡ cond (bytes_eq name d.name) (d.entry ∷ []) []
own_one name d = one_of (bytes_eq name d.name) d

types_stay : (name : List ℕ) (region : List Named) (d : Named) → is_literal d.entry ≡ false → literal_types (own name (region ++ d ∷ [])) ≡ literal_types (own name region)
types_stay name region d h =
    ap literal_types (own_append name region (d ∷ []) ∙ ap (λ xs. own name region ++ xs) (own_one name d))
    ∙ types_append (own name region) (cond (bytes_eq name d.name) (d.entry ∷ []) [])
    ∙ ap (λ ts. literal_types (own name region) ++ ts) (no_type_of (bytes_eq name d.name) d.entry h)
    ∙ append-nil (literal_types (own name region))

pub still_shares : (sharings : Sharings) (region : List Named) (d : Named) → is_literal d.entry ≡ false → Shares sharings region → Shares sharings (region ++ d ∷ [])
still_shares sharings region d h s l r k e =
    s l r k e
    ∙ ap (λ ts. shared ts (literal_types (own r region))) (sym (types_stay l region d h))
    ∙ ap (shared (literal_types (own l (region ++ d ∷ [])))) (sym (types_stay r region d h))
