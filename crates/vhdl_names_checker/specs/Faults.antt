-- The rules that an event breaks, by what stands around it.
use Rattle.std.specs.List.{list_any}
use Rattle.std.specs.Prelude.{Bool, List, None, Option, Some, [], bytes_eq, codes, false, if◌then◌else◌, is_some, length, map, not, slice_index_or, true, ℕ, ◌++◌, ◌+◌, ◌==◌, ◌∷◌}
use Rattle.vhdl_names_checker.specs.After.{architecture_key, entity_number}
use Rattle.vhdl_names_checker.specs.Around.{Around, no_interface}
use Rattle.vhdl_names_checker.specs.Declaring.{objects_twice, twice, type_or}
use Rattle.vhdl_names_checker.specs.Events.{Event}
use Rattle.vhdl_names_checker.specs.Telling.{associations_here, bounds_here, choice_here, conditions, expression, name_here, objects_here, optional, reject, subtype_here, wait_here, waveforms}
use Rattle.vhdl_names_checker.specs.declared.interface.Interface.{Interface}
use Rattle.vhdl_names_rules.specs.Associations.{map_faults}
use Rattle.vhdl_names_rules.specs.Cases.{arm_faults, subject_faults}
use Rattle.vhdl_names_rules.specs.Objects.{objects_faults, subtype_faults}
use Rattle.vhdl_names_rules.specs.Statements.{jump_faults, sensitivity_faults, severity_faults, signal_assignment_faults, variable_assignment_faults, wait_faults}
use Rattle.vhdl_names_rules.specs.Subtypes.{loop_range}
use Rattle.vhdl_names_rules.specs.Units.{attribute_faults, end_faults, is_word, library_faults, use_faults}
use Rattle.vhdl_names_rules.specs.Values.{tested}
use Rattle.vhdl_names_scope.specs.Declarations.{Named, own}
use Rattle.vhdl_names_scope.specs.Names.{word_in}
use Rattle.vhdl_tokens.specs.declared.token.Token.{Token}
use Rattle.vhdl_tree.specs.declared.statements.Jump.{Jump}
use Rattle.vhdl_tree.specs.declared.statements.Scheme.{Scheme}
use Rattle.vhdl_tree.specs.declared.units.Instantiation.{Instantiation}
use Rattle.vhdl_units.specs.Faults.{at}
use Rattle.vhdl_units.specs.declared.base_type.BaseType.{BaseType}
use Rattle.vhdl_units.specs.declared.fault.Fault.{Fault}
use Rattle.vhdl_units.specs.declared.fault.Rule.TheVariants as rule
use Rattle.vhdl_tree.specs.declared.statements.Scheme.TheVariants as scheme

-- ---- units

unfoldable pub is_declared : List ℕ → List Named → Bool
is_declared word names = not (length (own word names) == 0)

unfoldable pub unit_twice : List ℕ → ℕ → Around → List Fault
unit_twice word place a = if is_declared word a.library then at place rule.UnitTwice else []

unfoldable pub entity_missing : List ℕ → ℕ → Around → List Fault
entity_missing word place a = if is_some (entity_number word a) then [] else at place rule.EntityMissing

unfoldable pub architecture_faults : List ℕ → Token → Token → Around → List Fault
architecture_faults text name entity a =
    entity_missing (word_in text entity) entity.start a ++
    unit_twice (architecture_key (word_in text entity) (word_in text name)) name.start a

-- ---- statements

unfoldable pub subject : List (Option BaseType) → Option BaseType
subject [] = None
subject (t ∷ subjects) = t

unfoldable pub loop_faults : List ℕ → Around → Scheme → List Fault
loop_faults text a scheme.Forever = []
loop_faults text a (scheme.While e) = tested (expression text a e)
loop_faults text a (scheme.For token b) = loop_range (bounds_here text a b)

unfoldable pub is_labelled : List ℕ → Option (List ℕ) → Bool
is_labelled word (Some label) = bytes_eq word label
is_labelled word None = false

-- how many loops stand inside the innermost one of this label
unfoldable pub loops_within : List ℕ → List (Option (List ℕ)) → ℕ
loops_within word [] = 0
loops_within word (label ∷ labels) = if is_labelled word label then 0 else loops_within word labels + 1

-- a loop is open, and one of that label where one is named
unfoldable pub is_in_loop : List ℕ → Option Token → List (Option (List ℕ)) → Bool
is_in_loop text None loops = not (length loops == 0)
is_in_loop text (Some token) loops = list_any (is_labelled (word_in text token)) loops

unfoldable pub jump_place : Jump → Option Token → ℕ
jump_place j None = j.word.start
jump_place j (Some token) = token.start

-- ---- instances

-- units of a library other than WORK don't stand before
unfoldable pub is_work : List ℕ → Option Token → Bool
is_work text None = true
is_work text (Some token) = is_word text token (codes "work")

unfoldable pub entity_for : List ℕ → Instantiation → Around → Option ℕ
entity_for text i a = if is_work text i.library then entity_number (word_in text i.entity) a else None

unfoldable pub interface_at : List Interface → ℕ → Interface
interface_at interfaces n = slice_index_or interfaces n no_interface

-- `file`: the architectures of the whole file
unfoldable pub architecture_missing : List ℕ → List Named → List ℕ → Option Token → List Fault
architecture_missing text file entity None = []
architecture_missing text file entity (Some token) = if is_declared (architecture_key entity (word_in text token)) file then [] else at token.start rule.UnitMissing

unfoldable pub maps_faults : List ℕ → Around → Interface → Instantiation → List Fault
maps_faults text a formals i =
    map_faults formals.generics (associations_here text a true formals.formals i.generics) ++
    map_faults formals.ports (associations_here text a false formals.formals i.ports)

unfoldable pub instance_of : List ℕ → List Named → Around → Instantiation → Option ℕ → List Fault
instance_of text file a i None = at i.entity.start rule.UnitMissing
instance_of text file a i (Some n) =
    architecture_missing text file (word_in text i.entity) i.architecture ++ maps_faults text a (interface_at a.interfaces n) i

unfoldable pub instance_faults : List ℕ → List Named → Around → Instantiation → List Fault
instance_faults text file a i = instance_of text file a i (entity_for text i a)

-- ---- all events

unfoldable pub faults : List ℕ → List Named → Around → Event → List Fault
faults text file a (Event.Library tokens) = library_faults text tokens
faults text file a (Event.Uses u) = use_faults text u
faults text file a (Event.Entity name) = unit_twice (word_in text name) name.start a
faults text file a (Event.EndEntity name end) = end_faults text (Some name) end
faults text file a (Event.Architecture name entity is_bare) = architecture_faults text name entity a
faults text file a (Event.EndArchitecture name end) = end_faults text (Some name) end
faults text file a (Event.Enumeration d) = twice text a.regions d.name
faults text file a (Event.Subtyped d) = subtype_faults (subtype_here text a d.subtype) ++ twice text a.regions d.name
faults text file a (Event.Objects c names s initial) =
    objects_faults (objects_here text a s initial) names ++ objects_twice text c (type_or (subtype_here text a s).mark) names a
faults text file a (Event.Attributed s) = attribute_faults text a.architecture a.is_allowed s (expression text a s.value)
faults text file a (Event.Labelled token) = twice text a.regions token
faults text file a (Event.Sensitive names) = sensitivity_faults (map (name_here text a) names)
faults text file a (Event.Process is_listed) = []
faults text file a (Event.EndProcess name end) = end_faults text name end
faults text file a (Event.Assigned target d waveform alternatives condition) =
    signal_assignment_faults (name_here text a target) (reject text a d) (waveforms text a waveform alternatives) (conditions text a alternatives condition)
faults text file a (Event.AssignedVariable target value) = variable_assignment_faults (name_here text a target) (expression text a value)
faults text file a (Event.Waits w) = wait_faults a.is_listed (wait_here text a w)
faults text file a (Event.Asserted x) = tested (expression text a x.condition) ++ severity_faults text x.severity
faults text file a (Event.Reported x) = severity_faults text x.severity
faults text file a (Event.Tested e) = tested (expression text a e)
faults text file a (Event.EndIf name end) = end_faults text name end
faults text file a (Event.Chosen e) = subject_faults (expression text a e)
faults text file a (Event.Arm is_last choices) = arm_faults (subject a.subjects) is_last (map (choice_here text a) choices)
faults text file a (Event.EndCase name end) = end_faults text name end
faults text file a (Event.Looped label s) = loop_faults text a s
faults text file a (Event.EndLoop s name end) = end_faults text name end
faults text file a (Event.Jumped j) = jump_faults (is_in_loop text j.label a.loops) (jump_place j j.label) (optional text a j.condition)
faults text file a (Event.Instance i) = instance_faults text file a i
