-- Operators and aggregates (IEEE Std 1076-2008, clauses 9.2 and 9.3.3).
use Rattle.std.specs.List.{flat_map, list_all, list_any}
use Rattle.std.specs.Prelude.{Bool, List, [], false, if◌then◌else◌, length, map, not, true, ℕ, ◌&&◌, ◌++◌, ◌==◌, ◌||◌, ◌∷◌}
use Rattle.vhdl_names_operators.specs.Literals.{aggregates}
use Rattle.vhdl_names_operators.specs.Operators.{results, results_from}
use Rattle.vhdl_names_operators.specs.Relations.{relates}
use Rattle.vhdl_tree.specs.declared.expressions.Operator.{Operator}
use Rattle.vhdl_tree.specs.declared.expressions.Unary.{Unary}
use Rattle.vhdl_units.specs.declared.base_type.BaseType.{BaseType}
use Rattle.vhdl_units.specs.declared.fault.Fault.{Fault}
use Rattle.vhdl_names_typing.specs.Faults.{asks, break_if, typing_of}
use Rattle.vhdl_names_typing.specs.declared.told.ChoiceTold.{ChoiceTold}
use Rattle.vhdl_names_typing.specs.declared.told.Form.{Form}
use Rattle.vhdl_names_typing.specs.declared.told.ItemTold.{ItemTold}
use Rattle.vhdl_names_typing.specs.declared.told.LinkTold.{LinkTold}
use Rattle.vhdl_names_typing.specs.declared.told.Told.{Told}
use Rattle.vhdl_units.specs.declared.base_type.BaseType.TheVariants as base
use Rattle.vhdl_names_typing.specs.declared.told.ChoiceTold.TheVariants as choice_told
use Rattle.vhdl_names_typing.specs.declared.told.Form.TheVariants as form
use Rattle.vhdl_tree.specs.declared.expressions.Operator.TheVariants as operator
use Rattle.vhdl_units.specs.declared.fault.Rule.TheVariants as rule

-- an operator before one operand
unfoldable pub unary_told : ℕ → Unary → Told → Told
unary_told place op told = record {
  place = place;
  names = told.names;
  typing = typing_of told;
  types = results_from op told.types;
  is_static = told.is_static;
  reads = told.reads;
  form = form.Value;
}

-- a first operand
unfoldable pub operand : ℕ → Told → Told
operand place told = record told { place = place; typing = typing_of told; form = form.Value }

unfoldable pub is_relation : Operator → Bool
is_relation operator.Equal = true
is_relation operator.NotEqual = true
is_relation operator.Less = true
is_relation operator.LessEqual = true
is_relation operator.Greater = true
is_relation operator.GreaterEqual = true
is_relation _ = false

-- a relation whose sides have no type that one of them has alone
unfoldable pub is_unrelated : Operator → List BaseType → List BaseType → Bool
is_unrelated op left right = is_relation op && not (relates op left right)

-- two operands side by side
unfoldable pub beside : Told → Told → Told
beside left right = record left {
  names = left.names ++ right.names;
  typing = left.typing ++ typing_of right;
  is_static = left.is_static && right.is_static;
  reads = left.reads || right.reads;
}

-- operands with the types that their operator gives, and whether they are the sides of a relation that has none
unfoldable pub operated : Bool → List BaseType → Told → Told
operated unrelated types told = record told { typing = told.typing ++ break_if unrelated told.names told.place rule.Type; types = types }

-- One more operand. The place of what stands before it is that of the whole chain.
unfoldable pub joined : Told → Operator → Told → Told
joined left op right = operated (is_unrelated op left.types right.types) (results op left.types right.types) (beside left right)

unfoldable pub joined_by : Told → List LinkTold → Told
joined_by so_far [] = so_far
joined_by so_far (l ∷ links) = joined_by (joined so_far l.operator l.right) links

-- ---- aggregates

-- what is asked of an index
unfoldable pub index_typing : Told → List Fault
index_typing t = typing_of t ++ asks base.Integer t

unfoldable pub choice_names : ChoiceTold → List Fault
choice_names (choice_told.Value t) = t.names
choice_names (choice_told.Range left right) = left.names ++ right.names
choice_names (choice_told.Others place) = []

unfoldable pub choice_typing : ChoiceTold → List Fault
choice_typing (choice_told.Value t) = index_typing t
choice_typing (choice_told.Range left right) = index_typing left ++ index_typing right
choice_typing (choice_told.Others place) = []

unfoldable pub choice_is_static : ChoiceTold → Bool
choice_is_static (choice_told.Value t) = t.is_static
choice_is_static (choice_told.Range left right) = left.is_static && right.is_static
choice_is_static (choice_told.Others place) = true

unfoldable pub choice_reads : ChoiceTold → Bool
choice_reads (choice_told.Value t) = t.reads
choice_reads (choice_told.Range left right) = left.reads || right.reads
choice_reads (choice_told.Others place) = false

unfoldable pub is_others : ChoiceTold → Bool
is_others (choice_told.Others place) = true
is_others _ = false

-- an element, with its choices
unfoldable pub item_names : ItemTold → List Fault
item_names item = flat_map choice_names item.choices ++ item.value.names

unfoldable pub item_typing : ItemTold → List Fault
item_typing item = flat_map choice_typing item.choices ++ typing_of item.value

unfoldable pub has_static_choices : ItemTold → Bool
has_static_choices item = list_all choice_is_static item.choices

unfoldable pub item_is_static : ItemTold → Bool
item_is_static item = has_static_choices item && item.value.is_static

unfoldable pub item_reads : ItemTold → Bool
item_reads item = list_any choice_reads item.choices || item.value.reads

unfoldable pub is_named : ItemTold → Bool
is_named item = not (length item.choices == 0)

unfoldable pub has_others_choice : ItemTold → Bool
has_others_choice item = list_any is_others item.choices

unfoldable pub has_other_choice : ItemTold → Bool
has_other_choice item = not (list_all is_others item.choices)

-- Elements with choices and elements without stand in one aggregate.
unfoldable pub is_mixed : List ItemTold → Bool
is_mixed items = list_any is_named items && not (list_all is_named items)

unfoldable pub is_malformed : List ItemTold → Bool
is_malformed items = is_mixed items || not (list_all has_static_choices items)

unfoldable pub aggregate_form : List ItemTold → Form
aggregate_form items = if list_any has_others_choice items then form.Others (list_any has_other_choice items) else form.Value

unfoldable pub item_types : ItemTold → List BaseType
item_types item = item.value.types

unfoldable pub aggregate_names : List ItemTold → List Fault
aggregate_names items = flat_map item_names items

unfoldable pub malformed : ℕ → List ItemTold → List Fault
malformed place items = break_if (is_malformed items) (aggregate_names items) place rule.Aggregate

unfoldable pub aggregate_told : ℕ → List ItemTold → Told
aggregate_told place items = record {
  place = place;
  names = aggregate_names items;
  typing = flat_map item_typing items ++ malformed place items;
  types = aggregates (map item_types items);
  is_static = list_all item_is_static items;
  reads = list_any item_reads items;
  form = aggregate_form items;
}
