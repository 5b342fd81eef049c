-- What holds of each event of a design file: where no rule is broken at it, it has a meaning (IEEE Std 1076-2008, clauses 3 to 11).
use Rattle.std.specs.Option.{is_some}
use Rattle.std.specs.Prelude.{Bool, List, None, Option, [], true, ℕ, ◌&&◌, ◌≡◌}
use Rattle.vhdl_names_checker.specs.After.{after, entity_number}
use Rattle.vhdl_names_checker.specs.Around.{Around}
use Rattle.vhdl_names_checker.specs.Events.{Event}
use Rattle.vhdl_names_checker.specs.Faults.{faults, subject}
use Rattle.vhdl_names_checker.specs.Telling.{seen_here}
use Rattle.vhdl_names_laws.specs.KnownParts.{known_assertion, known_assignment, known_choices, known_concurrent_assignment, known_declaration, known_instance, known_jump, known_objects, known_scheme, known_sensitivity, known_wait}
use Rattle.vhdl_names_laws.specs.Known.{known_value}
use Rattle.vhdl_names_meaning.specs.Names.{target_of}
use Rattle.vhdl_names_resolving.specs.Declarations.{attribute_resolved, enumeration_resolved, objects_resolved, subtyped_resolved}
use Rattle.vhdl_names_resolving.specs.Instances.{instance_resolved}
use Rattle.vhdl_names_resolving.specs.Statements.{assertion_resolved, assignment_resolved, choices_resolved, concurrent_resolved, jump_resolved, scheme_resolved, sensitivity_resolved, subject_resolved, target_type, wait_resolved}
use Rattle.vhdl_names_resolving.specs.Values.{denoted_here, value_at}
use Rattle.vhdl_names_scope.specs.Declarations.{Named}
use Rattle.vhdl_names_scope.specs.Names.{word_in}
use Rattle.vhdl_tokens.specs.declared.token.Token.{Token}
use Rattle.vhdl_tree.specs.declared.declarations.AttributeSpecification.{AttributeSpecification}
use Rattle.vhdl_tree.specs.declared.declarations.Subtype.{Subtype}
use Rattle.vhdl_tree.specs.declared.declarations.SubtypeDeclaration.{SubtypeDeclaration}
use Rattle.vhdl_tree.specs.declared.declarations.TypeDeclaration.{TypeDeclaration}
use Rattle.vhdl_tree.specs.declared.expressions.Choice.{Choice}
use Rattle.vhdl_tree.specs.declared.expressions.Expr.{Expr}
use Rattle.vhdl_tree.specs.declared.expressions.Name.{Name}
use Rattle.vhdl_tree.specs.declared.statements.Assertion.{Assertion}
use Rattle.vhdl_tree.specs.declared.statements.Jump.{Jump}
use Rattle.vhdl_tree.specs.declared.statements.Scheme.{Scheme}
use Rattle.vhdl_tree.specs.declared.statements.SignalAssignment.{SignalAssignment}
use Rattle.vhdl_tree.specs.declared.statements.Wait.{Wait}
use Rattle.vhdl_tree.specs.declared.units.ConcurrentAssignment.{ConcurrentAssignment}
use Rattle.vhdl_tree.specs.declared.units.Instantiation.{Instantiation}
use Rattle.vhdl_units.specs.declared.entry.Class.{Class}
use Rattle.vhdl_units.specs.declared.base_type.BaseType.TheVariants as base
use Rattle.vhdl_tree.specs.declared.units.Sensitivity.TheVariants as sensitivity

-- No rule is broken at an event, by what stands around it.
abbrev pub Unbroken : List ℕ → List Named → Around → Event → Type 0
Unbroken text file a e = faults text file a e ≡ []

-- ---- declarations

abbrev pub TypesAreKnown : Type 0
TypesAreKnown = (text : List ℕ) (a : Around) (d : TypeDeclaration) → known_declaration (enumeration_resolved text a d) ≡ true

abbrev pub SubtypesAreKnown : Type 0
SubtypesAreKnown = (text : List ℕ) (file : List Named) (a : Around) (d : SubtypeDeclaration) → Unbroken text file a (Event.Subtyped d) → known_declaration (subtyped_resolved text a d) ≡ true

abbrev pub ObjectsAreKnown : Type 0
ObjectsAreKnown = (text : List ℕ) (file : List Named) (a : Around) (c : Class) (names : List Token) (s : Subtype) (initial : Option Expr)
    → Unbroken text file a (Event.Objects c names s initial) → known_objects (objects_resolved text a c names s initial) ≡ true

abbrev pub AttributesAreKnown : Type 0
AttributesAreKnown = (text : List ℕ) (file : List Named) (a : Around) (s : AttributeSpecification) → Unbroken text file a (Event.Attributed s) → known_declaration (attribute_resolved text a s) ≡ true

-- ---- sequential statements

abbrev pub WaitsAreKnown : Type 0
WaitsAreKnown = (text : List ℕ) (file : List Named) (a : Around) (w : Wait) → Unbroken text file a (Event.Waits w) → known_wait (wait_resolved text a w) ≡ true

abbrev pub AssertionsAreKnown : Type 0
AssertionsAreKnown = (text : List ℕ) (file : List Named) (a : Around) (x : Assertion) → Unbroken text file a (Event.Asserted x) → known_assertion (assertion_resolved text a x) ≡ true

abbrev pub AssignmentsAreKnown : Type 0
AssignmentsAreKnown = (text : List ℕ) (file : List Named) (a : Around) (s : SignalAssignment)
    → Unbroken text file a (Event.Assigned s.target s.delay s.waveform [] None) → known_assignment (assignment_resolved text a s) ≡ true

-- the target of a variable assignment, and the value that is assigned to it
abbrev pub VariablesAreKnown : Type 0
VariablesAreKnown = (text : List ℕ) (file : List Named) (a : Around) (target : Name) (value : Expr) → Unbroken text file a (Event.AssignedVariable target value)
    → (known_value (target_of (denoted_here text a target)) && known_value (value_at text a (target_type (denoted_here text a target)) value)) ≡ true

abbrev pub ConditionsAreKnown : Type 0
ConditionsAreKnown = (text : List ℕ) (file : List Named) (a : Around) (e : Expr) → Unbroken text file a (Event.Tested e) → known_value (value_at text a base.Boolean e) ≡ true

-- what a case statement chooses by, in its arms, and that it has a type there
abbrev pub SubjectsAreKnown : Type 0
SubjectsAreKnown = (text : List ℕ) (file : List Named) (a : Around) (e : Expr) → Unbroken text file a (Event.Chosen e) → known_value (subject_resolved text (after text (Event.Chosen e) a) e) ≡ true

abbrev pub SubjectsHaveTypes : Type 0
SubjectsHaveTypes = (text : List ℕ) (file : List Named) (a : Around) (e : Expr) → Unbroken text file a (Event.Chosen e) → is_some (subject (after text (Event.Chosen e) a).subjects) ≡ true

abbrev pub ChoicesAreKnown : Type 0
ChoicesAreKnown = (text : List ℕ) (file : List Named) (a : Around) (is_last : Bool) (choices : List Choice) → is_some (subject a.subjects) ≡ true
    → Unbroken text file a (Event.Arm is_last choices) → known_choices (choices_resolved text a choices) ≡ true

abbrev pub LoopsAreKnown : Type 0
LoopsAreKnown = (text : List ℕ) (file : List Named) (a : Around) (label : Option Token) (s : Scheme) → Unbroken text file a (Event.Looped label s) → known_scheme (scheme_resolved text a s) ≡ true

abbrev pub JumpsAreKnown : Type 0
JumpsAreKnown = (text : List ℕ) (file : List Named) (a : Around) (j : Jump) → Unbroken text file a (Event.Jumped j) → known_jump (jump_resolved text a j) ≡ true

-- ---- concurrent statements and units

abbrev pub SensitivitiesAreKnown : Type 0
SensitivitiesAreKnown = (text : List ℕ) (file : List Named) (a : Around) (names : List Name) → Unbroken text file a (Event.Sensitive names)
    → known_sensitivity (sensitivity_resolved text a (sensitivity.Names names)) ≡ true

abbrev pub ConcurrentAssignmentsAreKnown : Type 0
ConcurrentAssignmentsAreKnown = (text : List ℕ) (file : List Named) (a : Around) (s : ConcurrentAssignment)
    → Unbroken text file a (Event.Assigned s.target s.delay s.waveform s.alternatives s.condition) → known_concurrent_assignment (concurrent_resolved text a s) ≡ true

abbrev pub InstancesAreKnown : Type 0
InstancesAreKnown = (text : List ℕ) (file : List Named) (a : Around) (i : Instantiation) → Unbroken text file a (Event.Instance i) → known_instance (instance_resolved text a i) ≡ true

-- the entity of an architecture
abbrev pub EntitiesAreKnown : Type 0
EntitiesAreKnown = (text : List ℕ) (file : List Named) (a : Around) (name entity : Token) (is_bare : Bool) → faults text file a (Event.Architecture name entity is_bare) ≡ []
    → is_some (entity_number (word_in text entity) a) ≡ true
