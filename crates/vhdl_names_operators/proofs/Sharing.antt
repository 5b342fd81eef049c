-- The one type that fits a place, and the one that the operands of a relation share.
use Rattle.std.proofs.Common.{◌≡◌, ◌↔◌, inl, inr, suc, ◌&&◌, ◌||◌, not, if◌then◌else◌, IsTrue, Bool, true, false, cond, List, [], ◌∷◌, length, refl, ap, sym, ◌∙◌}
use Rattle.std.specs.List.{filter, count_by}
use Rattle.std.proofs.Math.Bool.{or-false}
use Rattle.std.proofs.lemmas.Bool.{and_parts, and_from, or_left, or_right, or_cases, not-true}
use Rattle.std.proofs.lemmas.List.Sums.{length-filter}
use Rattle.vhdl_tree.specs.declared.expressions.Operator.{Operator}
use Rattle.vhdl_units.specs.declared.base_type.BaseType.{BaseType}
use Rattle.vhdl_units.specs.Types.{same}
use Rattle.vhdl_names_operators.specs.Sets.{has, is_set}
use Rattle.vhdl_names_operators.specs.Places.{only, fits_alone}
use Rattle.vhdl_names_operators.specs.Relations.{compares, is_met, relates}
use Rattle.vhdl_names_operators.specs.Laws.{HasAlone, Shares}
use Rattle.vhdl_names_overloads.proofs.Same.{same_self, same_is}

-- ---- a place

counted : (s others : Bool) (x : BaseType) (fitting : List BaseType) → (s ≡ true → others ≡ false) → length fitting ≡ (if others then 1 else 0)
    → length (cond s (x ∷ fitting) fitting) ≡ (if (s || others) then 1 else 0)
counted true true x fitting absent e = absurd (let h : true ≡ false = absent refl in cc)
counted true false x fitting absent e = ap (λ n. suc n) e
counted false others x fitting absent e = e

fitting_one : (asked : BaseType) (types : List BaseType) → is_set types ≡ true → length (filter (same asked) types) ≡ (if has types asked then 1 else 0)
unfolding has is_set
fitting_one asked [] h = refl
fitting_one asked (x ∷ types) h =
    let parts = and_parts (not (has types x)) (is_set types) h in
    counted (same asked x) (has types asked) x (filter (same asked) types)
    (λ s. ap (has types) (same_is asked x s) ∙ not-true (has types x) parts.0)
    (fitting_one asked types parts.1)

pub one_fits : (asked : BaseType) (types : List BaseType) → is_set types ≡ true → count_by (same asked) types ≡ (if fits_alone asked types then 1 else 0)
unfolding fits_alone
one_fits asked types h = sym (length-filter (same asked) types) ∙ fitting_one asked types h

-- ---- a relation

-- the type that one operand has alone is one that the other can have
record Met (op : Operator) (ones others : List BaseType) : Type 0 where
  type : BaseType
  compared : compares op type ≡ true
  here : has ones type ≡ true
  there : has others type ≡ true
  alone : HasAlone ones type

met : (op : Operator) (ones others : List BaseType) → is_met op (only ones) others ≡ true → Met op ones others
unfolding only is_met has
met op [] others h = absurd (cc)
met op (t ∷ []) others h = record {
  type = t;
  compared = (and_parts (compares op t) (has others t) h).0;
  here = or_left (same t t) false (same_self t);
  there = (and_parts (compares op t) (has others t) h).1;
  alone = λ u is. same_is u t (sym (or-false (same u t)) ∙ is);
}
met op (t ∷ u ∷ ones) others h = absurd (cc)

is_met_by : (op : Operator) (ones others : List BaseType) (t : BaseType) → is_set ones ≡ true → compares op t ≡ true → has ones t ≡ true → has others t ≡ true → HasAlone ones t
    → is_met op (only ones) others ≡ true
unfolding only is_met has is_set
is_met_by op [] others t s compared here there alone = absurd (cc)
is_met_by op (x ∷ []) others t s compared here there alone =
    let e : x ≡ t = alone x (or_left (same x x) false (same_self x)) in
    ap (λ y. compares op y && has others y) e ∙ and_from (compares op t) (has others t) compared there
is_met_by op (x ∷ y ∷ ones) others t s compared here there alone =
    let ex : x ≡ t = alone x (or_left (same x x) (has (y ∷ ones) x) (same_self x)) in
    let ey : y ≡ t = alone y (or_right (same y x) (has (y ∷ ones) y) (or_left (same y y) (has ones y) (same_self y))) in
    let again : has (y ∷ ones) x ≡ true = ap (has (y ∷ ones)) (ex ∙ sym ey) ∙ or_left (same y y) (has ones y) (same_self y) in
    let absent : has (y ∷ ones) x ≡ false = not-true (has (y ∷ ones) x) (and_parts (not (has (y ∷ ones) x)) (is_set (y ∷ ones)) s).0 in
    absurd (cc)

from_left : (op : Operator) (ls rs : List BaseType) → Met op ls rs → Shares op ls rs
from_left op ls rs m = record { type = m.type; compared = m.compared; left = m.here; right = m.there; alone = inl m.alone }

from_right : (op : Operator) (ls rs : List BaseType) → Met op rs ls → Shares op ls rs
from_right op ls rs m = record { type = m.type; compared = m.compared; left = m.there; right = m.here; alone = inr m.alone }

found : (op : Operator) (ls rs : List BaseType) → relates op ls rs ≡ true → Shares op ls rs
unfolding relates
found op ls rs h = elim (or_cases (is_met op (only ls) rs) (is_met op (only rs) ls) h) [
  | inl l ↦ from_left op ls rs (met op ls rs l)
  | inr r ↦ from_right op ls rs (met op rs ls r)
]

related : (op : Operator) (ls rs : List BaseType) → is_set ls ≡ true → is_set rs ≡ true → Shares op ls rs → relates op ls rs ≡ true
unfolding relates
related op ls rs l r s = elim s.alone [
  | inl a ↦ or_left (is_met op (only ls) rs) (is_met op (only rs) ls) (is_met_by op ls rs s.type l s.compared s.left s.right a)
  | inr a ↦ or_right (is_met op (only ls) rs) (is_met op (only rs) ls) (is_met_by op rs ls s.type r s.compared s.right s.left a)
]

pub shares : (op : Operator) (ls rs : List BaseType) → is_set ls ≡ true → is_set rs ≡ true → IsTrue (relates op ls rs) ↔ Shares op ls rs
shares op ls rs l r = (found op ls rs, related op ls rs l r)
