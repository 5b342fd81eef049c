-- The one type that two sets have in common: it is the one that they share, and the same in either order.
use Rattle.std.proofs.Common.{◌≡◌, ◌&&◌, Bool, true, false, List, [], ◌∷◌, refl, sym, ap, ◌∙◌, inl, inr, rules, filter, Option, if◌then◌else◌}
use Rattle.std.specs.Prelude.{Some, None}
use Rattle.std.specs.List.{list_all}
use Rattle.std.proofs.lemmas.Bool.{and_parts, and_from, or_left, or_right, or_cases}
use Rattle.vhdl_units.specs.declared.base_type.BaseType.{BaseType}
use Rattle.vhdl_units.specs.Types.{is_discrete, same}
use Rattle.vhdl_names_operators.specs.Sets.{has}
use Rattle.vhdl_names_overloads.specs.declared.shared.Shared.{Shared}
use Rattle.vhdl_names_overloads.specs.declared.shared.Shared.TheVariants as met
use Rattle.vhdl_names_overloads.specs.Sharing.{one_more, all_more, is_shared, shared}
use Rattle.vhdl_names_operators.specs.Places.{sole, is_common_discrete, common_discrete}
use Rattle.vhdl_names_overloads.proofs.Same.{same_self, same_is}
use Rattle.vhdl_names_operators.proofs.Members.{has_filter}

-- ---- it is the one type that is shared

abbrev one_of : Shared → Option BaseType
one_of met.Nothing = None
one_of (met.One t) = Some t
one_of met.Several = None

after_several : (types : List BaseType) → all_more met.Several types ≡ met.Several
unfolding all_more one_more
after_several [] = refl
after_several (t ∷ types) = after_several types

one_or_not : (b : Bool) (t : BaseType) (types : List BaseType) → one_of (all_more (met.One t) types) ≡ (if list_all (same t) types then Some t else None)
    → one_of (all_more (if b then met.One t else met.Several) types) ≡ (if (b && list_all (same t) types) then Some t else None)
one_or_not true t types h = h
one_or_not false t types h = ap one_of (after_several types)

after_one : (t : BaseType) (types : List BaseType) → one_of (all_more (met.One t) types) ≡ (if list_all (same t) types then Some t else None)
unfolding all_more one_more
after_one t [] = refl
after_one t (u ∷ types) = one_or_not (same t u) t types (after_one t types)

one_is_sole : (types : List BaseType) → one_of (all_more met.Nothing types) ≡ sole types
unfolding all_more one_more sole
one_is_sole [] = refl
one_is_sole (t ∷ types) = after_one t types

pub common_one : (ls rs : List BaseType) (s k : Shared) → s ≡ shared ls rs → s ≡ k → one_of k ≡ common_discrete ls rs
unfolding shared common_discrete is_common_discrete is_shared has
common_one ls rs s k h is = ap one_of (sym is ∙ h) ∙ one_is_sole (filter (is_shared rs) ls)

-- ---- what it means

all_same : (x : BaseType) (xs : List BaseType) → ((u : BaseType) → has xs u ≡ true → u ≡ x) → list_all (same x) xs ≡ true
unfolding has
all_same x [] h = refl
all_same x (y ∷ xs) h =
    and_from (same x y) (list_all (same x) xs) (ap (same x) (h y (or_left (same y y) (has xs y) (same_self y))) ∙ same_self x)
    (all_same x xs (λ u m. h u (or_right (same u y) (has xs u) m)))

each_same : (x u : BaseType) (xs : List BaseType) → list_all (same x) xs ≡ true → has xs u ≡ true → u ≡ x
unfolding has
each_same x u [] h m = absurd cc
each_same x u (y ∷ xs) h m =
    let parts = and_parts (same x y) (list_all (same x) xs) h in
    elim (or_cases (same u y) (has xs u) m) [
      | inl s ↦ same_is u y s ∙ sym (same_is x y parts.0)
      | inr r ↦ each_same x u xs parts.1 r
    ]

record Sole (types : List BaseType) (t : BaseType) : Type 0 where
  here : has types t ≡ true
  alone : (u : BaseType) → has types u ≡ true → u ≡ t

sole_if : (types : List BaseType) (t : BaseType) → Sole types t → sole types ≡ Some t
unfolding has sole
sole_if [] t s = absurd (let h : false ≡ true = s.here in cc)
sole_if (x ∷ types) t s =
    let e : x ≡ t = s.alone x (or_left (same x x) (has types x) (same_self x)) in
    let a : list_all (same x) types ≡ true = all_same x types (λ u m. s.alone u (or_right (same u x) (has types u) m) ∙ sym e) in
    rw a (ap Some e)

first_sole : (b : Bool) (x t : BaseType) → (if b then Some x else None) ≡ Some t → (b ≡ true) × (x ≡ t)
first_sole true x t h = (refl, search rules)
first_sole false x t h = absurd cc

sole_then : (types : List BaseType) (t : BaseType) → sole types ≡ Some t → Sole types t
unfolding has sole
sole_then [] t h = absurd cc
sole_then (x ∷ types) t h =
    let parts = first_sole (list_all (same x) types) x t h in
    record {
      here = or_left (same t x) (has types t) (ap (same t) parts.1 ∙ same_self t);
      alone = λ u m. elim (or_cases (same u x) (has types u) m) [
        | inl s ↦ same_is u x s ∙ parts.1
        | inr r ↦ each_same x u types parts.0 r ∙ parts.1
      ];
    }

pub sole_has : (types : List BaseType) (t : BaseType) → sole types ≡ Some t → has types t ≡ true
sole_has types t h = (sole_then types t h).here

moved : (xs ys : List BaseType) (t : BaseType) → ((u : BaseType) → has xs u ≡ has ys u) → Sole xs t → Sole ys t
moved xs ys t e s = record { here = sym (e t) ∙ s.here; alone = λ u m. s.alone u (e u ∙ m) }

same_sole : (xs ys : List BaseType) (o q : Option BaseType) → sole xs ≡ o → sole ys ≡ q → ((u : BaseType) → has xs u ≡ has ys u) → o ≡ q
same_sole xs ys (Some t) q h k e = sym (sole_if ys t (moved xs ys t e (sole_then xs t h))) ∙ k
same_sole xs ys None (Some t) h k e = sym h ∙ sole_if xs t (moved ys xs t (λ u. sym (e u)) (sole_then ys t k))
same_sole xs ys None None h k e = refl

swapped : (a b d : Bool) → (a && (d && b)) ≡ (b && (d && a))
swapped true true true = refl
swapped true true false = refl
swapped true false true = refl
swapped true false false = refl
swapped false true true = refl
swapped false true false = refl
swapped false false true = refl
swapped false false false = refl

pub either_way : (ls rs : List BaseType) → common_discrete rs ls ≡ common_discrete ls rs
unfolding common_discrete is_common_discrete
either_way ls rs =
    same_sole (filter (is_common_discrete ls) rs) (filter (is_common_discrete rs) ls) _ _ refl refl
    (λ u. has_filter (is_common_discrete ls) rs u ∙ swapped (has rs u) (has ls u) (is_discrete u) ∙ sym (has_filter (is_common_discrete rs) ls u))
