-- Subtype indications, and the ranges of loops (IEEE Std 1076-2008, clauses 5.2.1, 5.3.2 and 6.3).
use Rattle.std.specs.Prelude.{Bool, List, None, Option, Some, [], if◌then◌else◌, is_some, not, true, ℕ, ◌&&◌, ◌++◌, ◌∷◌}
use Rattle.vhdl_names_operators.specs.Places.{common_discrete}
use Rattle.vhdl_names_rules.specs.Values.{asks_if_known}
use Rattle.vhdl_names_rules.specs.declared.told.SubtypeTold.{SubtypeTold}
use Rattle.vhdl_units.specs.Faults.{at}
use Rattle.vhdl_units.specs.Types.{is_array, same}
use Rattle.vhdl_units.specs.declared.base_type.BaseType.{BaseType}
use Rattle.vhdl_units.specs.declared.entry.Entry.{Entry}
use Rattle.vhdl_units.specs.declared.entry.Mark.{Mark}
use Rattle.vhdl_units.specs.declared.fault.Fault.{Fault}
use Rattle.vhdl_names_typing.specs.Faults.{break_if, typing_of}
use Rattle.vhdl_names_typing.specs.Ranges.{bounds_names}
use Rattle.vhdl_names_typing.specs.declared.told.BoundsTold.{BoundsTold}
use Rattle.vhdl_names_typing.specs.declared.told.NameTold.{NameTold}
use Rattle.vhdl_names_typing.specs.declared.told.Told.{Told}
use Rattle.vhdl_units.specs.declared.base_type.BaseType.TheVariants as base
use Rattle.vhdl_names_typing.specs.declared.told.BoundsTold.TheVariants as bounds_told
use Rattle.vhdl_units.specs.declared.entry.Entry.TheVariants as entry
use Rattle.vhdl_units.specs.declared.fault.Rule.TheVariants as rule

-- ---- the type's name

unfoldable pub mark_in : List Entry → Option Mark
mark_in (entry.Subtype mark ∷ entries) = Some mark
mark_in _ = None

-- it is declared, and is the name of a type
unfoldable pub mark_names : ℕ → List Entry → List Fault
mark_names place [] = at place rule.Undeclared
mark_names place (entry.Subtype mark ∷ entries) = []
mark_names place (e ∷ entries) = at place rule.WrongKind

-- ---- bounds

-- a bound that isn't globally static
unfoldable pub unstatic : Told → List Fault
unstatic told = break_if (not told.is_static) told.names told.place rule.Constraint

unfoldable pub bound_typing : Option BaseType → Told → List Fault
bound_typing t told = typing_of told ++ (asks_if_known t told ++ unstatic told)

-- the range of an array is of INTEGER
unfoldable pub is_integer_asked : Option BaseType → Bool
is_integer_asked (Some t) = same t base.Integer
is_integer_asked None = true

unfoldable pub range_typing : Option BaseType → NameTold → List Fault
range_typing t n = n.typing ++ (break_if (not (is_integer_asked t)) n.names n.place rule.Type ++ break_if (not n.is_static) n.names n.place rule.Constraint)

unfoldable pub bounds_typing : Option BaseType → BoundsTold → List Fault
bounds_typing t (bounds_told.Range left right) = bound_typing t left ++ bound_typing t right
bounds_typing t (bounds_told.Name n) = range_typing t n

-- a bound that reads a signal or variable
unfoldable pub bound_reads : Bool → ℕ → List Fault
bound_reads reads place = if reads then at place rule.ReadsObject else []

unfoldable pub bounds_reads : BoundsTold → List Fault
bounds_reads (bounds_told.Range left right) = bound_reads left.reads left.place ++ bound_reads right.reads right.place
bounds_reads (bounds_told.Name n) = bound_reads n.reads n.place

-- ---- constraints

-- A range narrows a scalar type that isn't resolved.
unfoldable pub takes_range : Mark → Bool
takes_range mark = not mark.resolved && not (is_array mark.base)

-- Bounds narrow an array type that has none.
unfoldable pub takes_index : Mark → Bool
takes_index mark = is_array mark.base && not mark.bounded

-- the type that the bounds of a range are to have: none is asked where the type is an array type
unfoldable pub range_type : Option Mark → Option BaseType
range_type (Some mark) = if is_array mark.base then None else Some mark.base
range_type None = None

unfoldable pub index_type : Option Mark → Option BaseType
index_type (Some mark) = if takes_index mark then Some base.Integer else None
index_type None = None

unfoldable pub misfit : Bool → ℕ → List Fault
misfit fits place = if fits then [] else at place rule.Constraint

unfoldable pub range_misfit : Option Mark → ℕ → List Fault
range_misfit (Some mark) place = misfit (takes_range mark) place
range_misfit None place = []

unfoldable pub index_misfit : Option Mark → ℕ → List Fault
index_misfit (Some mark) place = misfit (takes_index mark) place
index_misfit None place = []

unfoldable pub with_index : Option Mark → Option Mark
with_index (Some mark) = Some (record mark { bounded = is_array mark.base })
with_index None = None

-- ---- the whole

unfoldable pub unconstrained : ℕ → List Fault → Option Mark → SubtypeTold
unconstrained place names mark = record { place = place; names = names; typing = []; constraint = []; mark = mark }

unfoldable pub ranged : ℕ → List Fault → Option Mark → BoundsTold → SubtypeTold
ranged place names mark bounds = record {
  place = place;
  names = names ++ bounds_names bounds;
  typing = bounds_typing (range_type mark) bounds;
  constraint = range_misfit mark place ++ bounds_reads bounds;
  mark = mark;
}

unfoldable pub indexed : ℕ → List Fault → Option Mark → BoundsTold → SubtypeTold
indexed place names mark bounds = record {
  place = place;
  names = names ++ bounds_names bounds;
  typing = bounds_typing (index_type mark) bounds;
  constraint = index_misfit mark place ++ bounds_reads bounds;
  mark = with_index mark;
}

-- ---- the range of a `for` loop: its bounds have one discrete type in common

unfoldable pub loop_type : BoundsTold → Option BaseType
loop_type (bounds_told.Range left right) = common_discrete left.types right.types
loop_type (bounds_told.Name n) = Some base.Integer

unfoldable pub uncommon : Told → Told → List Fault
uncommon left right = break_if (not (is_some (common_discrete left.types right.types))) (left.names ++ right.names) left.place rule.Type

unfoldable pub loop_range : BoundsTold → List Fault
loop_range (bounds_told.Range left right) = (left.names ++ right.names) ++ ((typing_of left ++ typing_of right) ++ uncommon left right)
loop_range (bounds_told.Name n) = n.names ++ n.typing
