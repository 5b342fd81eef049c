-- Declarations, concurrent statements and design units mean something wherever no rule is broken along them.
use Rattle.std.proofs.Common.{◌≡◌, ℕ, true, Option, Some, List, [], ◌∷◌, ◌++◌, map, refl, ◌∙◌}
use Rattle.std.specs.List.{flat_map}
use Rattle.std.specs.Option.{is_some}
use Rattle.vhdl_names_checker.specs.After.{entity_number}
use Rattle.vhdl_names_checker.specs.Events.{Event}
use Rattle.vhdl_names_checker.specs.Progress.{Progress, walk}
use Rattle.vhdl_names_laws.specs.KnownUnits.{known_architecture, known_concurrent, known_concurrent_body, known_entity, known_process, known_statement, known_unit}
use Rattle.vhdl_names_laws.specs.KnownParts.{known_declaration, known_objects, known_sensitivity}
use Rattle.vhdl_names.specs.Parts.{Part, events_of}
use Rattle.vhdl_names.specs.Statements.{label_events, object_declaration, of_attribute, of_declaration, of_declarations, of_enumeration, of_objects, of_statement, of_statements, of_subtyped}
use Rattle.vhdl_names.specs.Units.{architecture_at, architecture_events, architecture_unit, entity_at, entity_events, entity_unit, is_bare, is_listed, of_architecture, of_assignment, of_body, of_concurrent, of_context, of_entity, of_generic, of_instance, of_library_unit, of_port, of_process, of_unit, of_units, process_at, process_body, process_events, sensitivity_events}
use Rattle.vhdl_names_laws.proofs.Induction.{statement_known}
use Rattle.vhdl_names_laws.proofs.KnowsUnits.{Each, Knows, Past, both, each_map, past_event, past_parts}
use Rattle.vhdl_names_laws.proofs.Instances.{architecture_known as entity_there}
use Rattle.vhdl_names_laws.proofs.Lawful.{attributes_are_known, concurrent_assignments_are_known, instances_are_known, objects_are_known, sensitivities_are_known, subtypes_are_known, types_are_known}
use Rattle.vhdl_names_laws.proofs.Unbroken.{Unbroken, unbroken_event, unbroken_rest}
use Rattle.vhdl_names_resolving.specs.Statements.{sensitivity_resolved}
use Rattle.vhdl_names_scope.specs.Names.{word_in}
use Rattle.vhdl_tokens.specs.declared.token.Token.{Token}
use Rattle.vhdl_tree.specs.declared.declarations.AttributeSpecification.{AttributeSpecification}
use Rattle.vhdl_tree.specs.declared.declarations.Declaration.{Declaration}
use Rattle.vhdl_tree.specs.declared.declarations.Subtype.{Subtype}
use Rattle.vhdl_tree.specs.declared.declarations.SubtypeDeclaration.{SubtypeDeclaration}
use Rattle.vhdl_tree.specs.declared.declarations.TypeDeclaration.{TypeDeclaration}
use Rattle.vhdl_tree.specs.declared.expressions.Expr.{Expr}
use Rattle.vhdl_tree.specs.declared.statements.Statement.{Statement}
use Rattle.vhdl_tree.specs.declared.units.Architecture.{Architecture}
use Rattle.vhdl_tree.specs.declared.units.Concurrent.{Concurrent}
use Rattle.vhdl_tree.specs.declared.units.ConcurrentBody.{ConcurrentBody}
use Rattle.vhdl_tree.specs.declared.units.DesignUnit.{DesignUnit}
use Rattle.vhdl_tree.specs.declared.units.Entity.{Entity}
use Rattle.vhdl_tree.specs.declared.units.Generic.{Generic}
use Rattle.vhdl_tree.specs.declared.units.LibraryUnit.{LibraryUnit}
use Rattle.vhdl_tree.specs.declared.units.Port.{Port}
use Rattle.vhdl_tree.specs.declared.units.Process.{Process}
use Rattle.vhdl_tree.specs.declared.units.Sensitivity.{Sensitivity}
use Rattle.vhdl_units.specs.declared.entry.Class.{Class}
use Rattle.vhdl_units.specs.declared.declarations.ResolvedObjects.{ResolvedObjects}
use Rattle.vhdl_units.specs.declared.entry.Class.TheVariants as class
use Rattle.vhdl_tree.specs.declared.units.ConcurrentBody.TheVariants as concurrent_body
use Rattle.vhdl_tree.specs.declared.declarations.Declaration.TheVariants as declaration
use Rattle.vhdl_tree.specs.declared.units.LibraryUnit.TheVariants as library_unit
use Rattle.vhdl_units.specs.declared.declarations.ResolvedDeclaration.TheVariants as resolved_declaration
use Rattle.vhdl_tree.specs.declared.units.Sensitivity.TheVariants as sensitivity

objects_declaration : (o : ResolvedObjects) → known_declaration (resolved_declaration.Objects o) ≡ known_objects o
unfolding known_declaration
objects_declaration o = refl

-- ---- declarations

objects_known : (c : Class) (names : List Token) (s : Subtype) (initial : Option Expr) → Knows known_objects (of_objects c names s initial)
unfolding of_objects
objects_known c names s initial = λ p u.
    objects_are_known p.text p.file p.around c names s initial (unbroken_event (Event.Objects c names s initial) [] p u)

object_known : (x : Part ResolvedObjects) → Knows known_objects x → Knows known_declaration (object_declaration x)
unfolding object_declaration
object_known x h = λ p u. objects_declaration (x.at p) ∙ h p u

enumeration_known : (d : TypeDeclaration) → Knows known_declaration (of_enumeration d)
unfolding of_enumeration
enumeration_known d = λ p u. types_are_known p.text p.around d

subtyped_known : (d : SubtypeDeclaration) → Knows known_declaration (of_subtyped d)
unfolding of_subtyped
subtyped_known d = λ p u. subtypes_are_known p.text p.file p.around d (unbroken_event (Event.Subtyped d) [] p u)

attribute_known : (s : AttributeSpecification) → Knows known_declaration (of_attribute s)
unfolding of_attribute
attribute_known s = λ p u. attributes_are_known p.text p.file p.around s (unbroken_event (Event.Attributed s) [] p u)

declaration_known : (d : Declaration) → Knows known_declaration (of_declaration d)
unfolding of_declaration
declaration_known (declaration.Type d) = enumeration_known d
declaration_known (declaration.Subtype d) = subtyped_known d
declaration_known (declaration.Constant d) = object_known _ (objects_known class.Constant d.names d.subtype (Some d.value))
declaration_known (declaration.Signal d) = object_known _ (objects_known class.Signal d.names d.subtype d.initial)
declaration_known (declaration.Variable d) = object_known _ (objects_known class.Variable d.names d.subtype d.initial)
declaration_known (declaration.Attribute s) = attribute_known s

declarations_known : (declarations : List Declaration) → Each (Knows known_declaration) (of_declarations declarations)
unfolding of_declarations
declarations_known declarations = each_map (Knows known_declaration) of_declaration declaration_known declarations

statements_known : (statements : List Statement) → Each (Knows known_statement) (of_statements statements)
unfolding of_statements
statements_known statements = each_map (Knows known_statement) of_statement (λ s. (statement_known s).means) statements

-- ---- processes

-- what a process is sensitive to, and what follows
sensitivity_known : (s : Sensitivity) (rest : List Event) (p : Progress) → Unbroken (sensitivity_events s ++ rest) p
    → Past (known_sensitivity (sensitivity_resolved p.text p.around s)) rest (walk (sensitivity_events s) p)
unfolding sensitivity_events walk known_sensitivity sensitivity_resolved
sensitivity_known sensitivity.Unlisted rest p u = record { is_known = refl; unbroken = u }
sensitivity_known sensitivity.All rest p u = record { is_known = refl; unbroken = u }
sensitivity_known (sensitivity.Names names) rest p u =
    past_event (known_sensitivity (sensitivity_resolved p.text p.around (sensitivity.Names names))) (Event.Sensitive names) rest p u (sensitivities_are_known p.text p.file p.around names)

process_known : (label : Option Token) (s : Process) → Knows known_process (of_process label s)
unfolding of_process process_events process_at known_process
process_known label s =
    let end = Event.EndProcess label s.end_name ∷ [] in
    let rest : List Event = events_of (of_statements s.statements) ++ end in
    let more : List Event = events_of (of_declarations s.declarations) ++ rest in
    λ p u.
    let a = sensitivity_known s.sensitivity (Event.Process (is_listed s.sensitivity) ∷ more) p u in
    let b = past_event true (Event.Process (is_listed s.sensitivity)) more _ a.unbroken (λ none. refl) in
    let c = past_parts known_declaration (of_declarations s.declarations) rest _ (declarations_known s.declarations) b.unbroken in
    let d = past_parts known_statement (of_statements s.statements) end _ (statements_known s.statements) c.unbroken in
    both a.is_known (both c.is_known d.is_known)

-- ---- concurrent statements

body_known : (label : Option Token) (s : ConcurrentBody) → Knows known_concurrent_body (of_body label s)
unfolding of_body process_body of_assignment of_instance known_concurrent_body
body_known label (concurrent_body.Process s) = process_known label s
body_known label (concurrent_body.Assignment s) = λ p u.
    concurrent_assignments_are_known p.text p.file p.around s (unbroken_event (Event.Assigned s.target s.delay s.waveform s.alternatives s.condition) [] p u)
body_known label (concurrent_body.Instance i) = λ p u.
    instances_are_known p.text p.file p.around i (unbroken_event (Event.Instance i) [] p u)

concurrent_known : (s : Concurrent) → Knows known_concurrent (of_concurrent s)
unfolding of_concurrent known_concurrent
concurrent_known s = λ p u.
    body_known s.label s.body (walk (label_events s.label) p)
    (unbroken_rest (label_events s.label) (of_body s.label s.body).events p u)

-- ---- units

generic_known : (g : Generic) → Knows known_objects (of_generic g)
unfolding of_generic
generic_known g = objects_known class.Generic g.names g.subtype g.default

port_known : (s : Port) → Knows known_objects (of_port s)
unfolding of_port
port_known s = objects_known (class.Port s.mode) s.names s.subtype s.default

entity_known : (e : Entity) → Knows known_entity (of_entity e)
unfolding of_entity entity_events entity_at known_entity
entity_known e =
    let end = Event.EndEntity e.name e.end_name ∷ [] in
    let rest : List Event = events_of (map of_port e.ports) ++ end in
    λ p u.
    let a = past_event true (Event.Entity e.name) (events_of (map of_generic e.generics) ++ rest) p u (λ none. refl) in
    let b = past_parts known_objects (map of_generic e.generics) rest _ (each_map (Knows known_objects) of_generic generic_known e.generics) a.unbroken in
    let c = past_parts known_objects (map of_port e.ports) end _ (each_map (Knows known_objects) of_port port_known e.ports) b.unbroken in
    both b.is_known c.is_known

architecture_known : (text : List ℕ) (s : Architecture) → Knows known_architecture (of_architecture text s)
unfolding of_architecture architecture_events architecture_at known_architecture
architecture_known text s =
    let end = Event.EndArchitecture s.name s.end_name ∷ [] in
    let rest : List Event = events_of (map of_concurrent s.statements) ++ end in
    let begin = Event.Architecture s.name s.entity (is_bare text s) in
    λ p u.
    let a = past_event (is_some (entity_number (word_in p.text s.entity) p.around)) begin (events_of (of_declarations s.declarations) ++ rest) p u
    (entity_there p.text p.file p.around s.name s.entity (is_bare text s)) in
    let b = past_parts known_declaration (of_declarations s.declarations) rest _ (declarations_known s.declarations) a.unbroken in
    let c = past_parts known_concurrent (map of_concurrent s.statements) end _ (each_map (Knows known_concurrent) of_concurrent concurrent_known s.statements) b.unbroken in
    both a.is_known (both b.is_known c.is_known)

library_unit_known : (text : List ℕ) (s : LibraryUnit) → Knows known_unit (of_library_unit text s)
unfolding of_library_unit entity_unit architecture_unit known_unit
library_unit_known text (library_unit.Entity e) = entity_known e
library_unit_known text (library_unit.Architecture s) = architecture_known text s

unit_known : (text : List ℕ) (u : DesignUnit) → Knows known_unit (of_unit text u)
unfolding of_unit
unit_known text s =
    let context = flat_map of_context s.context in
    λ p u.
    library_unit_known text s.unit (walk context p)
    (unbroken_rest context (of_library_unit text s.unit).events p u)

pub units_known : (text : List ℕ) (units : List DesignUnit) → Each (Knows known_unit) (of_units text units)
unfolding of_units
units_known text units = each_map (Knows known_unit) (of_unit text) (unit_known text) units
