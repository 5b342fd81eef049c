-- What follows from the definitions, in the words of the language.
use Rattle.std.specs.Prelude.{◌≡◌, ◌≤◌, ◌⊎◌, ◌↔◌, ◌&&◌, ℕ, true, IsTrue, List, length, count_by, if◌then◌else◌}
use Rattle.std.specs.List.{list_all}
use Rattle.vhdl_tree.specs.declared.expressions.Operator.{Operator}
use Rattle.vhdl_tree.specs.declared.expressions.Unary.{Unary}
use Rattle.vhdl_units.specs.declared.base_type.BaseType.{BaseType}
use Rattle.vhdl_units.specs.Types.{same, is_array}
use Rattle.vhdl_names_operators.specs.Sets.{has, is_set}
use Rattle.vhdl_names_operators.specs.Operators.{can_be, results, can_be_from, results_from}
use Rattle.vhdl_names_operators.specs.Relations.{compares, relates}
use Rattle.vhdl_names_operators.specs.Literals.{spells, of_string, holds, narrowed, aggregates}
use Rattle.vhdl_names_operators.specs.Places.{fits_alone}

-- ---- the types that are found are those that there can be, and no others

abbrev pub OperatorsGiveTheirTypes : Type 0
OperatorsGiveTheirTypes = (op : Operator) (ls rs : List BaseType) (t : BaseType) → has (results op ls rs) t ≡ can_be op ls rs t

abbrev pub UnaryOperatorsGiveTheirTypes : Type 0
UnaryOperatorsGiveTheirTypes = (op : Unary) (types : List BaseType) (t : BaseType) → has (results_from op types) t ≡ can_be_from op types t

abbrev pub StringsHaveTheirTypes : Type 0
StringsHaveTheirTypes = (text : List ℕ) (t : BaseType) → has (of_string text) t ≡ spells text t

-- an aggregate can have an array type if each of its items can have the element type
abbrev pub AggregatesHaveTheirTypes : Type 0
AggregatesHaveTheirTypes = (items : List (List BaseType)) (t : BaseType) → has (aggregates items) t ≡ (is_array t && list_all (λ item. holds item t) items)

-- ---- no type stands twice

abbrev pub OperatorsGiveSets : Type 0
OperatorsGiveSets = (op : Operator) (ls rs : List BaseType) → is_set (results op ls rs) ≡ true

abbrev pub UnaryOperatorsGiveSets : Type 0
UnaryOperatorsGiveSets = (op : Unary) (types : List BaseType) → is_set (results_from op types) ≡ true

abbrev pub StringsHaveSets : Type 0
StringsHaveSets = (text : List ℕ) → is_set (of_string text) ≡ true

abbrev pub NarrowedSetsAreSets : Type 0
NarrowedSetsAreSets = (so_far item : List BaseType) → is_set so_far ≡ true → is_set (narrowed so_far item) ≡ true

-- ---- the sets stay small, however many types the operands can have

abbrev pub OperatorsGiveFewTypes : Type 0
OperatorsGiveFewTypes = (op : Operator) (ls rs : List BaseType) → length (results op ls rs) ≤ 5

abbrev pub UnaryOperatorsGiveFewTypes : Type 0
UnaryOperatorsGiveFewTypes = (op : Unary) (types : List BaseType) → length (results_from op types) ≤ 5

-- ---- places

-- exactly one of the types is the one asked
abbrev pub OneFits : Type 0
OneFits = (asked : BaseType) (types : List BaseType) → is_set types ≡ true → count_by (same asked) types ≡ (if fits_alone asked types then 1 else 0)

-- an expression can have the type t and no other
abbrev pub HasAlone : List BaseType → BaseType → Type 0
HasAlone types t = (u : BaseType) → has types u ≡ true → u ≡ t

-- both operands can have a type on which the relation is defined, and one of them can have no other
pub record Shares (op : Operator) (ls rs : List BaseType) : Type 0 where
  pub type : BaseType
  pub compared : compares op type ≡ true
  pub left : has ls type ≡ true
  pub right : has rs type ≡ true
  pub alone : HasAlone ls type ⊎ HasAlone rs type

abbrev pub RelationsShareAType : Type 0
RelationsShareAType = (op : Operator) (ls rs : List BaseType) → is_set ls ≡ true → is_set rs ≡ true → IsTrue (relates op ls rs) ↔ Shares op ls rs
