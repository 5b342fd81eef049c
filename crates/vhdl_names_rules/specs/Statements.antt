-- Sequential statements and concurrent assignments (IEEE Std 1076-2008, clauses 10 and 11).
use Rattle.std.specs.Char.{to_ascii_lowercase}
use Rattle.std.specs.List.{flat_map}
use Rattle.std.specs.Prelude.{Bool, List, None, Option, Some, [], bytes_eq, codes, false, if◌then◌else◌, is_some, map, not, true, ℕ, ◌&&◌, ◌++◌}
use Rattle.vhdl_names_rules.specs.Values.{asked_optional, optional_names, tested, valued}
use Rattle.vhdl_names_rules.specs.declared.told.ElementTold.{ElementTold}
use Rattle.vhdl_names_rules.specs.declared.told.WaitTold.{WaitTold}
use Rattle.vhdl_tokens.specs.Meaning.{span}
use Rattle.vhdl_tokens.specs.declared.token.Token.{Token}
use Rattle.vhdl_units.specs.Faults.{at}
use Rattle.vhdl_units.specs.declared.base_type.BaseType.{BaseType}
use Rattle.vhdl_units.specs.declared.entry.Class.{Class}
use Rattle.vhdl_units.specs.declared.fault.Fault.{Fault}
use Rattle.vhdl_names_typing.specs.Attributes.{is_signal}
use Rattle.vhdl_names_typing.specs.Faults.{break_if}
use Rattle.vhdl_names_typing.specs.declared.told.Denotes.{Denotes}
use Rattle.vhdl_names_typing.specs.declared.told.NameTold.{NameTold}
use Rattle.vhdl_names_typing.specs.declared.told.ObjectName.{ObjectName}
use Rattle.vhdl_names_typing.specs.declared.told.Told.{Told}
use Rattle.vhdl_units.specs.declared.statements.Severity.{Severity}
use Rattle.vhdl_units.specs.declared.base_type.BaseType.TheVariants as base
use Rattle.vhdl_units.specs.declared.entry.Class.TheVariants as class
use Rattle.vhdl_names_typing.specs.declared.told.Denotes.TheVariants as denotes
use Rattle.vhdl_tree.specs.declared.declarations.Mode.TheVariants as mode
use Rattle.vhdl_units.specs.declared.fault.Rule.TheVariants as rule
use Rattle.vhdl_units.specs.declared.statements.Severity.TheVariants as severity

-- ---- targets

-- a signal, or a port that isn't of mode `in`
unfoldable pub is_driven : Class → Bool
is_driven class.Signal = true
is_driven (class.Port mode.Out) = true
is_driven (class.Port mode.Inout) = true
is_driven _ = false

unfoldable pub is_variable : Class → Bool
is_variable class.Variable = true
is_variable _ = false

-- what `<=` or `:=` can assign
unfoldable pub is_assignable : Bool → Class → Bool
is_assignable true c = is_driven c
is_assignable false c = is_variable c

unfoldable pub target_as : Bool → Denotes → NameTold → List Fault
target_as by_signal denotes.Unknown n = []
target_as by_signal (denotes.Object o) n = break_if (not (is_assignable by_signal o.object.class)) n.names n.place rule.NotAssignable
target_as by_signal _ n = at n.place rule.WrongKind

unfoldable pub target_faults : Bool → NameTold → List Fault
target_faults by_signal n = n.names ++ (n.typing ++ target_as by_signal n.denotes n)

unfoldable pub target_type_as : Denotes → Option BaseType
target_type_as (denotes.Object o) = o.base
target_type_as _ = None

unfoldable pub target_type : NameTold → Option BaseType
target_type n = target_type_as n.denotes

-- whether the bounds of the target are globally static: those of a declared object are, those of a slice may not be
unfoldable pub is_static_target_as : Denotes → Bool
is_static_target_as (denotes.Object o) = o.has_static_bounds
is_static_target_as _ = true

unfoldable pub is_static_target : NameTold → Bool
is_static_target n = is_static_target_as n.denotes

-- ---- assignments

unfoldable pub element_faults : Option BaseType → Bool → ElementTold → List Fault
element_faults t is_static element = valued t is_static element.value ++ asked_optional base.Time element.after

unfoldable pub waveform_faults : Option BaseType → Bool → List ElementTold → List Fault
waveform_faults t is_static elements = flat_map (element_faults t is_static) elements

-- a signal assignment: its target, a limit for what is rejected, the elements of its waveforms, its conditions
unfoldable pub signal_assignment_faults : NameTold → Option Told → List ElementTold → List Told → List Fault
signal_assignment_faults target reject elements conditions =
    target_faults true target ++ (asked_optional base.Time reject ++
    (waveform_faults (target_type target) (is_static_target target) elements ++ flat_map tested conditions))

unfoldable pub variable_assignment_faults : NameTold → Told → List Fault
variable_assignment_faults target value = target_faults false target ++ valued (target_type target) (is_static_target target) value

-- ---- sensitivity

unfoldable pub is_static_signal : ObjectName → Bool
is_static_signal o = is_signal o && o.is_static

unfoldable pub sensitive_as : Denotes → NameTold → List Fault
sensitive_as denotes.Unknown n = []
sensitive_as (denotes.Object o) n = break_if (not (is_static_signal o)) n.names n.place rule.Sensitivity
sensitive_as _ n = at n.place rule.WrongKind

unfoldable pub sensitive_faults : NameTold → List Fault
sensitive_faults n = n.names ++ (n.typing ++ sensitive_as n.denotes n)

unfoldable pub sensitivity_faults : List NameTold → List Fault
sensitivity_faults names = flat_map sensitive_faults names

-- ---- waits

-- no object is named
unfoldable pub is_no_object : Denotes → Bool
is_no_object denotes.Unknown = false
is_no_object (denotes.Object o) = false
is_no_object _ = true

-- the breaks of visibility, kinds and attributes in a name of a sensitivity list, which may itself be of the wrong kind
unfoldable pub names_of : NameTold → List Fault
names_of n = n.names ++ (if is_no_object n.denotes then at n.place rule.WrongKind else [])

unfoldable pub wait_names : WaitTold → List Fault
wait_names wait = flat_map names_of wait.on ++ (optional_names wait.until ++ optional_names wait.time)

-- A process with a sensitivity list has no wait.
unfoldable pub wait_faults : Bool → WaitTold → List Fault
wait_faults is_listed wait =
    sensitivity_faults wait.on ++ (asked_optional base.Boolean wait.until ++
    (asked_optional base.Time wait.time ++ break_if is_listed (wait_names wait) wait.place rule.WaitNotAllowed))

-- ---- assertions and reports

-- the level that a word names, in lower case (16.3)
unfoldable pub severity_named : List ℕ → Option Severity
severity_named word =
    if bytes_eq word (codes "note") then Some severity.Note else
    if bytes_eq word (codes "warning") then Some severity.Warning else
    if bytes_eq word (codes "error") then Some severity.Error else
    if bytes_eq word (codes "failure") then Some severity.Failure else None

unfoldable pub severity_faults : List ℕ → Option Token → List Fault
severity_faults text (Some token) = if is_some (severity_named (map to_ascii_lowercase (span text token))) then [] else at token.start rule.WrongKind
severity_faults text None = []

-- ---- next and exit

-- A next or exit stands in a loop, and in one of the label that it names: `place` is that of the label or, where it
-- names none, of its word.
unfoldable pub jump_faults : Bool → ℕ → Option Told → List Fault
jump_faults is_in_loop place condition = asked_optional base.Boolean condition ++ break_if (not is_in_loop) (optional_names condition) place rule.NoSuchLoop
