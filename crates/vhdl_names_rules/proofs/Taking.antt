-- Which formals the associations before one have taken.
use Rattle.std.proofs.Common.{◌≡◌, ℕ, zero, suc, ◌==◌, ◌||◌, min, length, Bool, true, false, cond, Option, Some, None, List, [], ◌∷◌, ◌++◌, reverse, refl, ap, subst, sym, ◌∙◌, append_assoc, append-nil, arith}
use Rattle.std.proofs.lemmas.List.{reverse-reverse}
use Rattle.std.specs.BTreeSet.{BTreeSet, contains}
use Rattle.std.specs.Cmp.{unsigned_tied}
use Rattle.std.specs.List.{list_any, slice_get}
use Rattle.std.specs.Ordering.{nat_cmp, eq_by_cmp}
use Rattle.vhdl_names_rules.specs.Associations.{Matching, association_faults, association_for, formal_for, is_used, map_faults, map_from, matched, nth, unless, unmatched, used_with}
use Rattle.vhdl_names_rules.specs.Kept.{HasNumbers, Keeps}
use Rattle.vhdl_names_rules.specs.declared.associations.Taken.{Taken}
use Rattle.vhdl_names_rules.specs.declared.told.AssociationTold.{AssociationTold}
use Rattle.vhdl_names_rules.proofs.Turns.{popped}
use Rattle.vhdl_units.specs.declared.entry.Object.{Object}
use Rattle.vhdl_units.specs.declared.fault.Fault.{Fault}
use Rattle.vhdl_names_rules.specs.declared.told.FormalTold.TheVariants as formal_told

-- ---- the formals by position

pub nth_kept : (formals : List Object) (n : ℕ) → slice_get formals (min n (length formals)) ≡ nth formals n
unfolding nth
nth_kept [] n = grind arith
nth_kept (o ∷ formals) zero = let e : min 0 (length (o ∷ formals)) ≡ 0 = omega arith in ap (slice_get (o ∷ formals)) e
nth_kept (o ∷ formals) (suc n) =
    let e : min (suc n) (length (o ∷ formals)) ≡ suc (min n (length formals)) = omega arith in
    ap (slice_get (o ∷ formals)) e ∙ nth_kept formals n

pub by_position : (formals : List Object) (taken : Taken) (m : Matching) (o : Option Object)
    → o ≡ slice_get formals taken.position → Keeps formals taken m → unless taken.is_named o ≡ formal_for formals m formal_told.Positional
unfolding formal_for
by_position formals taken m o e k =
    ap (unless taken.is_named) (e ∙ ap (slice_get formals) k.position ∙ nth_kept formals m.position)
    ∙ ap (λ b. unless b (nth formals m.position)) k.is_named

-- ---- the numbers of the formals that have an actual

more_any : (test : ℕ → Bool) (numbers : List ℕ) (n : ℕ) → list_any test (numbers ++ n ∷ []) ≡ cond (test n) true (list_any test numbers)
more_any test [] n = elim (test n) as (λ b. (b || false) ≡ cond b true false) [ true ↦ refl | false ↦ refl ]
more_any test (x ∷ numbers) n = ap (λ b. test x || b) (more_any test numbers n) ∙ shifted (test x) (test n) (list_any test numbers)
  where
    shifted : (a b c : Bool) → (a || cond b true c) ≡ cond b true (a || c)
    shifted true true c = refl
    shifted true false c = refl
    shifted false true c = refl
    shifted false false c = refl

pub one_used : (used more : BTreeSet ℕ) (numbers : List ℕ) (number : ℕ)
    → ((n : ℕ) → contains nat_cmp more n ≡ cond (eq_by_cmp nat_cmp number n) true (contains nat_cmp used n))
    → HasNumbers used numbers → HasNumbers more (numbers ++ number ∷ [])
unfolding is_used
one_used used more numbers number updated has n =
    updated n ∙ ap (λ b. cond b true (contains nat_cmp used n)) (unsigned_tied number n)
    ∙ ap (λ b. cond (number == n) true b) (has n) ∙ sym (more_any (λ m. m == n) numbers number)

pub used_some : (used more : BTreeSet ℕ) (numbers : List ℕ) (formal : Option Object) (o : Object) → formal ≡ Some o
    → ((n : ℕ) → contains nat_cmp more n ≡ cond (eq_by_cmp nat_cmp o.number n) true (contains nat_cmp used n))
    → HasNumbers used numbers → HasNumbers more (used_with numbers formal)
unfolding used_with
used_some used more numbers formal o e updated has =
    subst (λ (f : Option Object). HasNumbers more (used_with numbers f)) (sym e) (one_used used more numbers o.number updated has)

pub used_none : (used : BTreeSet ℕ) (numbers : List ℕ) (formal : Option Object) → formal ≡ None
    → HasNumbers used numbers → HasNumbers used (used_with numbers formal)
unfolding used_with
used_none used numbers formal e has = subst (λ (f : Option Object). HasNumbers used (used_with numbers f)) (sym e) has

pub none_used : (used : BTreeSet ℕ) → used.keys ≡ [] → HasNumbers used []
unfolding is_used
none_used used e n = ap (list_any (eq_by_cmp nat_cmp n)) e

pub nothing_taken : (formals : List Object) (used : BTreeSet ℕ) → used.keys ≡ [] → Keeps formals (record { position = 0; is_named = false; used = used }) unmatched
unfolding unmatched
nothing_taken formals used e = record { position = omega arith; is_named = refl; used = none_used used e }

-- ---- along a map

-- the faults so far, before the associations that are left
pub record SoFar (formals : List Object) (taken : Taken) (faults : List Fault) (rest : List AssociationTold) (whole : List Fault) : Type 0 where
  pub matching : Matching
  pub keeps : Keeps formals taken matching
  pub sum : faults ++ map_from formals matching (reverse rest) ≡ whole

pub begins : (formals : List Object) (taken : Taken) (faults : List Fault) (associations rest : List AssociationTold)
    → ((os : List Object) → Keeps os taken unmatched) → faults ≡ [] → rest ≡ reverse associations → SoFar formals taken faults rest (map_faults formals associations)
unfolding map_faults
begins formals taken faults associations rest keeps none e = record {
  matching = unmatched;
  keeps = keeps formals;
  sum = ap (λ fs. fs ++ map_from formals unmatched (reverse rest)) none
      ∙ ap (map_from formals unmatched) (ap reverse e ∙ reverse-reverse associations);
}

pub goes_on : (formals : List Object) (taken more : Taken) (so_far next whole : List Fault) (all rest : List AssociationTold) (a : AssociationTold) (formal : Option Object)
    → all ≡ rest ++ a ∷ []
    → ((m : Matching) → Keeps formals taken m → formal ≡ formal_for formals m a.formal)
    → next ≡ so_far ++ association_for formal a
    → ((m : Matching) → Keeps formals taken m → formal ≡ formal_for formals m a.formal → Keeps formals more (matched formals m a.formal))
    → SoFar formals taken so_far all whole → SoFar formals more next rest whole
unfolding map_from association_faults
goes_on formals taken more so_far next whole all rest a formal e found n keeps s =
    let f : formal ≡ formal_for formals s.matching a.formal = found s.matching s.keeps in
    let behind : List Fault = map_from formals (matched formals s.matching a.formal) (reverse rest) in
    record {
      matching = matched formals s.matching a.formal;
      keeps = keeps s.matching s.keeps f;
      sum = ap (λ ys. ys ++ behind) n
          ∙ append_assoc so_far (association_for formal a) behind
          ∙ ap (λ o. so_far ++ (association_for o a ++ behind)) f
          ∙ ap (λ xs. so_far ++ map_from formals s.matching xs) (sym (popped all rest a e))
          ∙ s.sum;
    }

pub ends : (formals : List Object) (taken : Taken) (so_far whole : List Fault) (all : List AssociationTold)
    → all ≡ [] → SoFar formals taken so_far all whole → so_far ≡ whole
unfolding map_from
ends formals taken so_far whole all e s =
    sym (ap (λ xs. so_far ++ map_from formals s.matching (reverse xs)) e ∙ append-nil so_far) ∙ s.sum
