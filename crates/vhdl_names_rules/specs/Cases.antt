-- Case statements (IEEE Std 1076-2008, clause 10.9).
use Rattle.std.specs.List.{flat_map}
use Rattle.std.specs.Prelude.{Bool, List, None, Option, Some, [], false, filter, if◌then◌else◌, is_some, length, not, true, ◌&&◌, ◌++◌, ◌==◌}
use Rattle.vhdl_names_operators.specs.Places.{only}
use Rattle.vhdl_names_rules.specs.Values.{asked}
use Rattle.vhdl_units.specs.Faults.{at}
use Rattle.vhdl_units.specs.Types.{is_discrete}
use Rattle.vhdl_units.specs.declared.base_type.BaseType.{BaseType}
use Rattle.vhdl_units.specs.declared.fault.Fault.{Fault}
use Rattle.vhdl_names_typing.specs.Faults.{break_if, typing_of}
use Rattle.vhdl_names_typing.specs.declared.told.ChoiceTold.{ChoiceTold}
use Rattle.vhdl_names_typing.specs.declared.told.Told.{Told}
use Rattle.vhdl_units.specs.declared.base_type.BaseType.TheVariants as base
use Rattle.vhdl_names_typing.specs.declared.told.ChoiceTold.TheVariants as choice_told
use Rattle.vhdl_units.specs.declared.fault.Rule.TheVariants as rule

-- what a case statement can choose by: values of a discrete type, or of an array of characters
unfoldable pub is_choosable : BaseType → Bool
is_choosable base.Time = false
is_choosable base.IntegerVector = false
is_choosable _ = true

unfoldable pub subject_type : Told → Option BaseType
subject_type told = only (filter is_choosable told.types)

unfoldable pub subject_faults : Told → List Fault
subject_faults told = told.names ++ (typing_of told ++ break_if (not (is_some (subject_type told))) told.names told.place rule.Type)

-- ---- choices

unfoldable pub unstatic_choice : Told → List Fault
unstatic_choice told = break_if (not told.is_static) told.names told.place rule.CaseChoice

unfoldable pub chosen : Option BaseType → Told → List Fault
chosen t told = asked t told ++ unstatic_choice told

-- a range is of a discrete type
unfoldable pub is_ranged : Option BaseType → Bool
is_ranged (Some t) = is_discrete t
is_ranged None = true

unfoldable pub bound_chosen : Option BaseType → Told → List Fault
bound_chosen t told = chosen t told ++ break_if (not (is_ranged t)) told.names told.place rule.Type

-- `alone`: whether this is the last choice of the statement, and the only one of its arm
unfoldable pub choice_faults : Option BaseType → Bool → ChoiceTold → List Fault
choice_faults t alone (choice_told.Value told) = chosen t told
choice_faults t alone (choice_told.Range left right) = bound_chosen t left ++ bound_chosen t right
choice_faults t alone (choice_told.Others place) = if alone then [] else at place rule.CaseChoice

unfoldable pub is_alone : List ChoiceTold → Bool
is_alone choices = length choices == 1

-- the choices of an arm, which may be the last
unfoldable pub arm_faults : Option BaseType → Bool → List ChoiceTold → List Fault
arm_faults t is_last choices = flat_map (choice_faults t (is_last && is_alone choices)) choices
