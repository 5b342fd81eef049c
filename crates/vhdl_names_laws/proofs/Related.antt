-- The type that the sides of a relation are asked for is one that both can have.
use Rattle.std.proofs.Common.{◌≡◌, ◌||◌, ◌&&◌, if◌then◌else◌, inl, inr, Bool, true, false, Option, Some, None, List, [], ◌∷◌, refl, subst, sym, ◌∙◌}
use Rattle.std.proofs.Math.Bool.{and-false}
use Rattle.std.proofs.lemmas.Bool.{and_parts, not-false, or_cases, or_left}
use Rattle.vhdl_names_meaning.specs.Operators.{first_of, met, or_integer, related}
use Rattle.vhdl_names_meaning.specs.Settling.{operand_type}
use Rattle.vhdl_names_overloads.proofs.Same.{same_self}
use Rattle.vhdl_names_operators.specs.Places.{only}
use Rattle.vhdl_names_operators.specs.Relations.{compares, is_met, relates}
use Rattle.vhdl_names_operators.specs.Sets.{has}
use Rattle.vhdl_tree.specs.declared.expressions.Operator.{Operator}
use Rattle.vhdl_units.specs.Types.{same}
use Rattle.vhdl_units.specs.declared.base_type.BaseType.{BaseType}
use Rattle.vhdl_names_typing.specs.Expressions.{is_relation, is_unrelated}

-- both can have it
abbrev pub Both : List BaseType → List BaseType → BaseType → Type 0
Both ls rs t = (has ls t ≡ true) × (has rs t ≡ true)

only_one : (types : List BaseType) (t : BaseType) → only types ≡ Some t → has types t ≡ true
unfolding only has
only_one [] t h = absurd cc
only_one (u ∷ []) t h = let e : u ≡ t = cc in subst (λ x. (same x u || false) ≡ true) e (or_left (same u u) false (same_self u))
only_one (u ∷ v ∷ types) t h = absurd cc

by_right : (op : Operator) (ls rs : List BaseType) (r : Option BaseType) → only rs ≡ r → is_met op r ls ≡ true → Both ls rs (or_integer (met r ls))
unfolding is_met met or_integer
by_right op ls rs (Some u) e h = let other = (and_parts (compares op u) (has ls u) h).1 in rw other (other, only_one rs u e)
by_right op ls rs None e h = absurd cc

by_left : (op : Operator) (ls rs : List BaseType) (t : BaseType) (r : Option BaseType) (b : Bool) → has rs t ≡ b → only ls ≡ Some t → only rs ≡ r → ((compares op t && b) || is_met op r ls) ≡ true
    → Both ls rs (or_integer (first_of (if b then Some t else None) (met r ls)))
unfolding first_of or_integer
by_left op ls rs t r true has_it l e h = (only_one ls t l, has_it)
by_left op ls rs t r false has_it l e h = elim (or_cases (compares op t && false) (is_met op r ls) h) as (λ m. Both ls rs (or_integer (first_of None (met r ls)))) [
  | inl h ↦ absurd (let no : false ≡ true = sym (and-false (compares op t)) ∙ h in cc)
  | inr h ↦ by_right op ls rs r e h
]

by_either : (op : Operator) (ls rs : List BaseType) (l r : Option BaseType) → only ls ≡ l → only rs ≡ r → (is_met op l rs || is_met op r ls) ≡ true → Both ls rs (or_integer (first_of (met l rs) (met r ls)))
unfolding is_met met first_of
by_either op ls rs (Some t) r e f h = by_left op ls rs t r (has rs t) refl e f h
by_either op ls rs None r e f h = by_right op ls rs r f h

pub related_both : (op : Operator) (ls rs : List BaseType) → is_relation op ≡ true → is_unrelated op ls rs ≡ false → Both ls rs (related ls rs)
unfolding is_unrelated relates related
related_both op ls rs r h = by_either op ls rs (only ls) (only rs) refl refl (not-false (is_met op (only ls) rs || is_met op (only rs) ls) (rw r at h))

-- and what is asked then is that type
pub own_type : (t : BaseType) (types : List BaseType) → has types t ≡ true → operand_type t types ≡ t
unfolding operand_type
own_type t types h = rw h refl
