-- Declarations of objects and subtypes (IEEE Std 1076-2008, clauses 6.3 to 6.5).
use Rattle.std.specs.List.{flat_map}
use Rattle.std.specs.Prelude.{Bool, List, None, Option, Some, [], false, if◌then◌else◌, not, true, ◌&&◌, ◌++◌}
use Rattle.vhdl_names_rules.specs.Values.{optional_names, valued}
use Rattle.vhdl_names_rules.specs.declared.told.ObjectsTold.{ObjectsTold}
use Rattle.vhdl_names_rules.specs.declared.told.SubtypeTold.{SubtypeTold}
use Rattle.vhdl_tokens.specs.declared.token.Token.{Token}
use Rattle.vhdl_units.specs.Faults.{at}
use Rattle.vhdl_units.specs.Types.{is_array}
use Rattle.vhdl_units.specs.declared.base_type.BaseType.{BaseType}
use Rattle.vhdl_units.specs.declared.entry.Mark.{Mark}
use Rattle.vhdl_units.specs.declared.fault.Fault.{Fault}
use Rattle.vhdl_names_typing.specs.Faults.{is_known}
use Rattle.vhdl_names_typing.specs.declared.told.Told.{Told}
use Rattle.vhdl_units.specs.declared.fault.Rule.TheVariants as rule

unfoldable pub all_names : ObjectsTold → List Fault
all_names told = told.subtype.names ++ optional_names told.initial

unfoldable pub mark_type : Option Mark → Option BaseType
mark_type (Some mark) = Some mark.base
mark_type None = None

-- the value at the beginning
unfoldable pub initial_value : Option Mark → Option Told → List Fault
initial_value mark (Some told) = valued (mark_type mark) true told
initial_value mark None = []

unfoldable pub initial_reads : Option Told → List Fault
initial_reads (Some told) = if told.reads then at told.place rule.ReadsObject else []
initial_reads None = []

-- an array type without bounds
unfoldable pub is_unbounded : Option Mark → Bool
is_unbounded (Some mark) = is_array mark.base && not mark.bounded
is_unbounded None = false

unfoldable pub unbounded : Token → List Fault
unbounded token = at token.start rule.Unbounded

unfoldable pub unbounded_names : Option Mark → List Token → List Fault
unbounded_names mark tokens = if is_unbounded mark then flat_map unbounded tokens else []

-- what is tested where no name in the declaration breaks a rule
unfoldable pub known_faults : ObjectsTold → List Token → List Fault
known_faults told tokens = told.subtype.constraint ++ (unbounded_names told.subtype.mark tokens ++ initial_reads told.initial)

unfoldable pub if_known : List Fault → List Fault → List Fault
if_known names faults = if is_known names then faults else []

-- the declaration of objects of these names
unfoldable pub objects_faults : ObjectsTold → List Token → List Fault
objects_faults told tokens =
    told.subtype.names ++ (told.subtype.typing ++ (initial_value told.subtype.mark told.initial ++ if_known (all_names told) (known_faults told tokens)))

-- the declaration of a subtype
unfoldable pub subtype_faults : SubtypeTold → List Fault
subtype_faults told = told.names ++ (told.typing ++ if_known told.names told.constraint)
