-- The type that is asked of an operand is one that it has, and no operator stands between operands without types.
use Rattle.std.proofs.Common.{◌≡◌, ◌&&◌, inl, inr, if◌then◌else◌, Bool, true, false, Option, Some, None, List, [], ◌∷◌, refl, sym, ◌∙◌}
use Rattle.std.proofs.Math.Bool.{and-false}
use Rattle.std.proofs.lemmas.Bool.{and_parts, not-false, or_cases, or_left}
use Rattle.vhdl_names_meaning.specs.Settling.{element_or, first_or, operand_type, other_type}
use Rattle.vhdl_names_operators.proofs.Given.{has_results}
use Rattle.vhdl_names_overloads.proofs.Same.{same_self}
use Rattle.vhdl_names_operators.specs.Literals.{elements_can_be, holds}
use Rattle.vhdl_names_operators.specs.Operators.{both, can_be, concatenation, integers, is_logical, is_numeric, joined, joins, logical, product, quotient, results, sum}
use Rattle.vhdl_names_operators.specs.Places.{only}
use Rattle.vhdl_names_operators.specs.Relations.{compares, is_met, relates}
use Rattle.vhdl_names_operators.specs.Sets.{has}
use Rattle.vhdl_tree.specs.declared.expressions.Operator.{Operator}
use Rattle.vhdl_units.specs.Types.{element, same}
use Rattle.vhdl_units.specs.declared.base_type.BaseType.{BaseType}
use Rattle.vhdl_names_typing.specs.Expressions.{is_relation, is_unrelated}
use Rattle.vhdl_tree.specs.declared.expressions.Operator.TheVariants as operator
use Rattle.vhdl_units.specs.declared.base_type.BaseType.TheVariants as base

-- ---- what is asked of one operand

unfoldable pub is_typed : List BaseType → Bool
is_typed [] = false
is_typed (t ∷ types) = true

pub typed : (types : List BaseType) (t : BaseType) → has types t ≡ true → is_typed types ≡ true
unfolding is_typed has
typed [] t h = absurd cc
typed (u ∷ types) t h = refl

has_first : (e : BaseType) (types : List BaseType) → is_typed types ≡ true → has types (first_or e types) ≡ true
unfolding is_typed first_or has
has_first e [] h = absurd cc
has_first e (u ∷ types) h = or_left (same u u) (has types u) (same_self u)

either_has : (b : Bool) (types : List BaseType) (t u : BaseType) → has types t ≡ b → has types u ≡ true → has types (if b then t else u) ≡ true
either_has true types t u e h = e
either_has false types t u e h = h

pub operand_has : (t : BaseType) (types : List BaseType) → is_typed types ≡ true → has types (operand_type t types) ≡ true
unfolding operand_type other_type
operand_has t types h =
    let e = element_or (element t) in
    either_has (has types t) types t (other_type e types) refl (either_has (has types e) types e (first_or e types) refl (has_first e types h))

-- ---- an element of an aggregate

held : (types : List BaseType) (e : Option BaseType) → elements_can_be types e ≡ true → has types (element_or e) ≡ true
unfolding elements_can_be element_or
held types (Some e) h = h
held types None h = absurd cc

pub holds_element : (types : List BaseType) (t : BaseType) → holds types t ≡ true → has types (element_or (element t)) ≡ true
unfolding holds
holds_element types t h = held types (element t) h

-- ---- the two operands of an operator

abbrev pub Typed : List BaseType → List BaseType → Type 0
Typed ls rs = (is_typed ls ≡ true) × (is_typed rs ≡ true)

typed_pair : (ls rs : List BaseType) (t u : BaseType) → (has ls t && has rs u) ≡ true → Typed ls rs
typed_pair ls rs t u h = let sides = and_parts (has ls t) (has rs u) h in (typed ls t sides.0, typed rs u sides.1)

typed_both : (b : Bool) (ls rs : List BaseType) (t : BaseType) → (b && both ls rs t) ≡ true → Typed ls rs
unfolding both
typed_both b ls rs t h = typed_pair ls rs t t (and_parts b (has ls t && has rs t) h).1

typed_joins : (types : List BaseType) (t e : BaseType) → joins types t e ≡ true → is_typed types ≡ true
unfolding joins
typed_joins types t e h = elim (or_cases (has types t) (has types e) h) [
  | inl h ↦ typed types t h
  | inr h ↦ typed types e h
]

typed_joined : (ls rs : List BaseType) (t : BaseType) (e : Option BaseType) → joined ls rs t e ≡ true → Typed ls rs
unfolding joined
typed_joined ls rs t (Some e) h = let sides = and_parts (joins ls t e) (joins rs t e) h in (typed_joins ls t e sides.0, typed_joins rs t e sides.1)
typed_joined ls rs t None h = absurd cc

typed_product : (ls rs : List BaseType) (t : BaseType) → product ls rs t ≡ true → Typed ls rs
unfolding product both
typed_product ls rs base.Integer h = typed_pair ls rs base.Integer base.Integer h
typed_product ls rs base.Time h = elim (or_cases (has ls base.Integer && has rs base.Time) (has ls base.Time && has rs base.Integer) h) [
  | inl h ↦ typed_pair ls rs base.Integer base.Time h
  | inr h ↦ typed_pair ls rs base.Time base.Integer h
]
typed_product ls rs _ h = absurd cc

typed_quotient : (ls rs : List BaseType) (t : BaseType) → quotient ls rs t ≡ true → Typed ls rs
unfolding quotient both
typed_quotient ls rs base.Integer h = elim (or_cases (has ls base.Integer && has rs base.Integer) (has ls base.Time && has rs base.Time) h) [
  | inl h ↦ typed_pair ls rs base.Integer base.Integer h
  | inr h ↦ typed_pair ls rs base.Time base.Time h
]
typed_quotient ls rs base.Time h = typed_pair ls rs base.Time base.Integer h
typed_quotient ls rs _ h = absurd cc

typed_integers : (ls rs : List BaseType) (t : BaseType) → integers ls rs t ≡ true → Typed ls rs
unfolding integers both
typed_integers ls rs base.Integer h = typed_pair ls rs base.Integer base.Integer h
typed_integers ls rs _ h = absurd cc

-- the sides of a relation have a type that one of them has alone
not_met : (op : Operator) (o : Option BaseType) → is_met op o [] ≡ false
unfolding is_met has
not_met op (Some t) = and-false (compares op t)
not_met op None = refl

typed_related : (op : Operator) (ls rs : List BaseType) → relates op ls rs ≡ true → Typed ls rs
unfolding relates only is_typed is_met
typed_related op (l ∷ ls) (r ∷ rs) h = (refl, refl)
typed_related op [] rs h = absurd (let e : false ≡ true = sym (not_met op (only rs)) ∙ h in cc)
typed_related op (l ∷ ls) [] h = absurd (elim (or_cases (is_met op (only (l ∷ ls)) []) false h) [
  | inl h ↦ let e : false ≡ true = sym (not_met op (only (l ∷ ls))) ∙ h in cc
  | inr h ↦ cc
])

typed_relation : (op : Operator) (ls rs : List BaseType) → is_relation op ≡ true → is_unrelated op ls rs ≡ false → Typed ls rs
unfolding is_unrelated
typed_relation op ls rs r h = typed_related op ls rs (not-false (relates op ls rs) (rw r at h))

typed_by : (op : Operator) (ls rs : List BaseType) (t : BaseType) → is_unrelated op ls rs ≡ false → can_be op ls rs t ≡ true → Typed ls rs
unfolding can_be logical sum concatenation is_relation
typed_by operator.And ls rs t u h = typed_both (is_logical t) ls rs t h
typed_by operator.Or ls rs t u h = typed_both (is_logical t) ls rs t h
typed_by operator.Xor ls rs t u h = typed_both (is_logical t) ls rs t h
typed_by operator.Xnor ls rs t u h = typed_both (is_logical t) ls rs t h
typed_by operator.Nand ls rs t u h = typed_both (is_logical t) ls rs t h
typed_by operator.Nor ls rs t u h = typed_both (is_logical t) ls rs t h
typed_by operator.Add ls rs t u h = typed_both (is_numeric t) ls rs t h
typed_by operator.Subtract ls rs t u h = typed_both (is_numeric t) ls rs t h
typed_by operator.Concatenate ls rs t u h = typed_joined ls rs t (element t) h
typed_by operator.Multiply ls rs t u h = typed_product ls rs t h
typed_by operator.Divide ls rs t u h = typed_quotient ls rs t h
typed_by operator.Mod ls rs t u h = typed_integers ls rs t h
typed_by operator.Rem ls rs t u h = typed_integers ls rs t h
typed_by operator.Power ls rs t u h = typed_integers ls rs t h
typed_by op ls rs t u h = typed_relation op ls rs refl u

pub some_type : (types : List BaseType) → is_typed types ≡ true → (t : BaseType) × (has types t ≡ true)
some_type types h = (first_or base.Integer types, has_first base.Integer types h)

pub typed_operands : (op : Operator) (ls rs : List BaseType) → is_unrelated op ls rs ≡ false → is_typed (results op ls rs) ≡ true → Typed ls rs
typed_operands op ls rs u h =
    let some = some_type (results op ls rs) h in
    typed_by op ls rs some.0 u (sym (has_results op ls rs some.0) ∙ some.1)
