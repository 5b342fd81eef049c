-- The type of a value (IEEE Std 1076-2008, clauses 8, 9 and 16.2). A value has one only where nothing in it is without a meaning and
-- all that stands in it has the type that its place asks: an index and the bounds of a slice are of INTEGER, an argument is of the
-- type that its function or attribute takes, the operand of an operator before one is of the type of the whole, the sides of a
-- relation are of one type, the characters of a string are literals of its element type, and the elements of an aggregate are of that
-- of its array. An operand in a row of operators that isn't a relation has some type, whichever it is.
use Rattle.std.specs.List.{list_all}
use Rattle.std.specs.Prelude.{Bool, List, None, Option, Some, [], false, if◌then◌else◌, is_some, true, ◌&&◌, ◌≡◌, ◌∷◌}
use Rattle.vhdl_names_meaning.specs.Attributes.{attribute_type}
use Rattle.vhdl_names_operators.specs.Literals.{spells}
use Rattle.vhdl_names_operators.specs.Operators.{is_defined_on}
use Rattle.vhdl_tree.specs.declared.expressions.Operator.{Operator}
use Rattle.vhdl_units.specs.Types.{element, is_array, same}
use Rattle.vhdl_units.specs.declared.base_type.BaseType.{BaseType}
use Rattle.vhdl_units.specs.declared.entry.Function.{Function}
use Rattle.vhdl_names_typing.specs.Expressions.{is_relation}
use Rattle.vhdl_units.specs.declared.values.ChoiceValue.{ChoiceValue}
use Rattle.vhdl_units.specs.declared.values.ItemValue.{ItemValue}
use Rattle.vhdl_units.specs.declared.values.LinkValue.{LinkValue}
use Rattle.vhdl_units.specs.declared.values.ObjectAttribute.{ObjectAttribute}
use Rattle.vhdl_units.specs.declared.values.PartValue.{PartValue}
use Rattle.vhdl_units.specs.declared.values.Reference.{Reference}
use Rattle.vhdl_units.specs.declared.values.Value.{Value}
use Rattle.vhdl_units.specs.declared.base_type.BaseType.TheVariants as base
use Rattle.vhdl_units.specs.declared.entry.Function.TheVariants as function
use Rattle.vhdl_units.specs.declared.values.ChoiceValue.TheOpen.{ChoiceValue-F, PartValue-F, Value-F, ItemValue-F, LinkValue-F, Reference-F}  -- keep
use Rattle.vhdl_units.specs.declared.values.ChoiceValue.TheFolds.{fold-ChoiceValue, fold-PartValue, fold-Value, fold-ItemValue, fold-LinkValue, fold-Reference}  -- keep

-- whether what has this type, or none, is of the type t
abbrev pub is_of : BaseType → Option BaseType → Bool
is_of t (Some u) = same t u
is_of t None = false

-- the type t, if that holds
abbrev pub only_if : Bool → BaseType → Option BaseType
only_if true t = Some t
only_if false t = None

-- ---- operators side by side

-- an operator and the type of its right operand
pub record OperandType : Type 0 where
  pub operator : Operator
  pub type : Option BaseType

abbrev pub has_type : OperandType → Bool
has_type o = is_some o.type

abbrev pub are_same : Option BaseType → Option BaseType → Bool
are_same (Some t) other = is_of t other
are_same None other = false

-- the two sides of a relation are of one type
abbrev pub sides_fit : Option BaseType → List OperandType → Bool
sides_fit first [] = true
sides_fit first (o ∷ operands) = if is_relation o.operator then are_same first o.type else true

-- Each operand has a type. Which of them an operator takes is said of the sides of a relation only.
abbrev pub operands_fit : Option BaseType → List OperandType → Bool
operands_fit first operands = is_some first && (list_all has_type operands && sides_fit first operands)

-- ---- what follows the name of an object: the type that is named with it, by the type that is named without it

abbrev pub part_step : PartValue-F Bool (BaseType → Option BaseType) (Option BaseType) (BaseType → Bool) OperandType (Option BaseType) → BaseType → Option BaseType
part_step (PartValue-F.Index v is_static) t = if is_of base.Integer v then element t else None
part_step (PartValue-F.Slice left direction right are_static) t = only_if (is_array t && (is_of base.Integer left && is_of base.Integer right)) t

abbrev pub named_with : Option BaseType → (BaseType → Option BaseType) → Option BaseType
named_with (Some t) part = part t
named_with None part = None

abbrev pub named_after : Option BaseType → List (BaseType → Option BaseType) → Option BaseType
named_after t [] = t
named_after t (part ∷ parts) = named_after (named_with t part) parts

-- The type that stands in a reference is the one to which its parts lead from that of its object.
abbrev pub reference_step : Reference-F Bool (BaseType → Option BaseType) (Option BaseType) (BaseType → Bool) OperandType (Option BaseType) → Option BaseType
reference_step r = only_if (is_of r.base (named_after (Some r.object.base) r.parts)) r.base

-- ---- values

abbrev pub attribute_of : Option BaseType → ObjectAttribute → Option BaseType
attribute_of (Some t) a = Some (attribute_type a t)
attribute_of None a = None

-- what a function gives of an argument of STD_ULOGIC
abbrev pub given_by : Function → Option BaseType
given_by function.RisingEdge = Some base.Boolean
given_by function.FallingEdge = Some base.Boolean
given_by function.ToX01 = Some base.StdUlogic
given_by function.Now = None

-- whether all elements are of the type of an array's elements
abbrev pub all_of : Option BaseType → List (BaseType → Bool) → Bool
all_of (Some e) items = list_all (λ item. item e) items
all_of None items = false

abbrev pub value_step : Value-F Bool (BaseType → Option BaseType) (Option BaseType) (BaseType → Bool) OperandType (Option BaseType) → Option BaseType
value_step Value-F.Unknown = None
value_step (Value-F.Integer n) = Some base.Integer
value_step (Value-F.Time n) = Some base.Time
value_step (Value-F.Literal t position) = Some t
value_step (Value-F.Text t bytes) = only_if (spells bytes t) t
value_step (Value-F.Object r) = r
value_step (Value-F.Attribute r a) = attribute_of r a
value_step (Value-F.Call f v) = if is_of base.StdUlogic v then given_by f else None
value_step Value-F.Now = Some base.Time
value_step (Value-F.Position t v) = only_if (is_of t v) base.Integer
value_step (Value-F.At t v) = only_if (is_of base.Integer v) t
value_step (Value-F.Unary op t v) = only_if (is_defined_on op t && is_of t v) t
value_step (Value-F.Chain t first links) = only_if (operands_fit first links) t
value_step (Value-F.Aggregate t items) = only_if (all_of (element t) items) t

abbrev pub link_step : LinkValue-F Bool (BaseType → Option BaseType) (Option BaseType) (BaseType → Bool) OperandType (Option BaseType) → OperandType
link_step l = record { operator = l.operator; type = l.right }

-- ---- aggregates

-- whether a choice is of INTEGER
abbrev pub choice_step : ChoiceValue-F Bool (BaseType → Option BaseType) (Option BaseType) (BaseType → Bool) OperandType (Option BaseType) → Bool
choice_step (ChoiceValue-F.Value v) = is_of base.Integer v
choice_step (ChoiceValue-F.Range left direction right) = is_of base.Integer left && is_of base.Integer right
choice_step ChoiceValue-F.Others = true

-- whether the choices are of INTEGER and the element is of this type
abbrev pub item_step : ItemValue-F Bool (BaseType → Option BaseType) (Option BaseType) (BaseType → Bool) OperandType (Option BaseType) → BaseType → Bool
item_step i t = list_all (λ choice. choice) i.choices && is_of t i.value

-- ---- whole values

abbrev pub type_of : Value → Option BaseType
type_of = fold-Value Bool (BaseType → Option BaseType) (Option BaseType) (BaseType → Bool) OperandType (Option BaseType) choice_step part_step value_step item_step link_step reference_step

abbrev pub type_named : Reference → Option BaseType
type_named = fold-Reference Bool (BaseType → Option BaseType) (Option BaseType) (BaseType → Bool) OperandType (Option BaseType) choice_step part_step value_step item_step link_step reference_step

abbrev pub type_with : PartValue → BaseType → Option BaseType
type_with = fold-PartValue Bool (BaseType → Option BaseType) (Option BaseType) (BaseType → Bool) OperandType (Option BaseType) choice_step part_step value_step item_step link_step reference_step

abbrev pub is_integer_choice : ChoiceValue → Bool
is_integer_choice = fold-ChoiceValue Bool (BaseType → Option BaseType) (Option BaseType) (BaseType → Bool) OperandType (Option BaseType) choice_step part_step value_step item_step link_step reference_step

abbrev pub is_item_of : ItemValue → BaseType → Bool
is_item_of = fold-ItemValue Bool (BaseType → Option BaseType) (Option BaseType) (BaseType → Bool) OperandType (Option BaseType) choice_step part_step value_step item_step link_step reference_step

abbrev pub type_of_link : LinkValue → OperandType
type_of_link = fold-LinkValue Bool (BaseType → Option BaseType) (Option BaseType) (BaseType → Bool) OperandType (Option BaseType) choice_step part_step value_step item_step link_step reference_step

-- What a value means is of the type t.
abbrev pub HasType : Value → BaseType → Type 0
HasType v t = type_of v ≡ Some t
