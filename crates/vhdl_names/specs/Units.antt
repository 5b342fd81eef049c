-- Design units and concurrent statements: their events, in the order of their text, and what they mean (IEEE Std
-- 1076-2008, clauses 3, 11, 13).
use Rattle.std.specs.List.{flat_map, list_all}
use Rattle.std.specs.Prelude.{Bool, List, Option, [], codes, false, length, map, true, ℕ, ◌&&◌, ◌++◌, ◌==◌, ◌∷◌}
use Rattle.vhdl_names_checker.specs.After.{architecture_key, entity_number}
use Rattle.vhdl_names_checker.specs.Events.{Event}
use Rattle.vhdl_names_checker.specs.Progress.{Progress, setting_out, step, walk}
use Rattle.vhdl_names.specs.Parts.{Part, all_at, events_of}
use Rattle.vhdl_names.specs.Statements.{label_events, of_declarations, of_objects, of_statements}
use Rattle.vhdl_names_resolving.specs.Declarations.{label_here}
use Rattle.vhdl_names_resolving.specs.Instances.{instance_resolved}
use Rattle.vhdl_names_resolving.specs.Statements.{concurrent_resolved, sensitivity_resolved}
use Rattle.vhdl_names_rules.specs.Units.{is_word}
use Rattle.vhdl_names_scope.specs.Declarations.{Named}
use Rattle.vhdl_names_scope.specs.Names.{word_in}
use Rattle.vhdl_tokens.specs.Meaning.{span}
use Rattle.vhdl_tokens.specs.declared.token.Token.{Token}
use Rattle.vhdl_tree.specs.declared.declarations.Declaration.{Declaration}
use Rattle.vhdl_tree.specs.declared.units.Architecture.{Architecture}
use Rattle.vhdl_tree.specs.declared.units.Concurrent.{Concurrent}
use Rattle.vhdl_tree.specs.declared.units.ConcurrentAssignment.{ConcurrentAssignment}
use Rattle.vhdl_tree.specs.declared.units.ConcurrentBody.{ConcurrentBody}
use Rattle.vhdl_tree.specs.declared.units.ContextClause.{ContextClause}
use Rattle.vhdl_tree.specs.declared.units.DesignFile.{DesignFile}
use Rattle.vhdl_tree.specs.declared.units.DesignUnit.{DesignUnit}
use Rattle.vhdl_tree.specs.declared.units.Entity.{Entity}
use Rattle.vhdl_tree.specs.declared.units.Generic.{Generic}
use Rattle.vhdl_tree.specs.declared.units.Instantiation.{Instantiation}
use Rattle.vhdl_tree.specs.declared.units.LibraryUnit.{LibraryUnit}
use Rattle.vhdl_tree.specs.declared.units.Port.{Port}
use Rattle.vhdl_tree.specs.declared.units.Process.{Process}
use Rattle.vhdl_tree.specs.declared.units.Sensitivity.{Sensitivity}
use Rattle.vhdl_units.specs.declared.declarations.ResolvedDeclaration.{ResolvedDeclaration}
use Rattle.vhdl_units.specs.declared.declarations.ResolvedObjects.{ResolvedObjects}
use Rattle.vhdl_units.specs.declared.statements.ResolvedStatement.{ResolvedStatement}
use Rattle.vhdl_units.specs.declared.units.ResolvedArchitecture.{ResolvedArchitecture}
use Rattle.vhdl_units.specs.declared.units.ResolvedConcurrent.{ResolvedConcurrent}
use Rattle.vhdl_units.specs.declared.units.ResolvedConcurrentBody.{ResolvedConcurrentBody}
use Rattle.vhdl_units.specs.declared.units.ResolvedEntity.{ResolvedEntity}
use Rattle.vhdl_units.specs.declared.units.ResolvedProcess.{ResolvedProcess}
use Rattle.vhdl_units.specs.declared.units.ResolvedSensitivity.{ResolvedSensitivity}
use Rattle.vhdl_units.specs.declared.units.ResolvedUnit.{ResolvedUnit}
use Rattle.vhdl_units.specs.declared.units.Units.{Units}
use Rattle.vhdl_units.specs.declared.entry.Class.TheVariants as class
use Rattle.vhdl_tree.specs.declared.units.ConcurrentBody.TheVariants as concurrent_body
use Rattle.vhdl_tree.specs.declared.units.ContextClause.TheVariants as context_clause
use Rattle.vhdl_tree.specs.declared.declarations.Declaration.TheVariants as declaration
use Rattle.vhdl_units.specs.declared.entry.Entry.TheVariants as entry
use Rattle.vhdl_tree.specs.declared.units.LibraryUnit.TheVariants as library_unit
use Rattle.vhdl_units.specs.declared.units.ResolvedConcurrentBody.TheVariants as resolved
use Rattle.vhdl_units.specs.declared.units.ResolvedUnit.TheVariants as resolved_unit
use Rattle.vhdl_tree.specs.declared.units.Sensitivity.TheVariants as sensitivity

-- ---- processes

unfoldable pub is_listed : Sensitivity → Bool
is_listed sensitivity.Unlisted = false
is_listed _ = true

unfoldable pub sensitivity_events : Sensitivity → List Event
sensitivity_events (sensitivity.Names names) = Event.Sensitive names ∷ []
sensitivity_events _ = []

unfoldable pub of_sensitivity : Sensitivity → Part ResolvedSensitivity
of_sensitivity s = record { events = sensitivity_events s; at = λ p. sensitivity_resolved p.text p.around s }

unfoldable pub process_events : Option Token → Process → List Event
process_events label s =
    sensitivity_events s.sensitivity ++ (Event.Process (is_listed s.sensitivity) ∷ (events_of (of_declarations s.declarations) ++
    (events_of (of_statements s.statements) ++ Event.EndProcess label s.end_name ∷ [])))

-- a process whose sensitivity is known, behind its beginning
unfoldable pub process_at : Bool → ResolvedSensitivity → List (Part ResolvedDeclaration) → List (Part ResolvedStatement) → Progress → ResolvedProcess
process_at postponed list declarations statements p = record {
  postponed = postponed;
  sensitivity = list;
  declarations = all_at declarations p;
  statements = all_at statements (walk (events_of declarations) p);
}

unfoldable pub of_process : Option Token → Process → Part ResolvedProcess
of_process label s = record {
  events = process_events label s;
  at = λ p. process_at s.postponed (sensitivity_resolved p.text p.around s.sensitivity) (of_declarations s.declarations) (of_statements s.statements)
      (step (Event.Process (is_listed s.sensitivity)) (walk (sensitivity_events s.sensitivity) p));
}

-- ---- concurrent statements

unfoldable pub process_body : Part ResolvedProcess → Part ResolvedConcurrentBody
process_body x = record { events = x.events; at = λ p. resolved.Process (x.at p) }

unfoldable pub of_assignment : ConcurrentAssignment → Part ResolvedConcurrentBody
of_assignment s = record {
  events = Event.Assigned s.target s.delay s.waveform s.alternatives s.condition ∷ [];
  at = λ p. resolved.Assignment (concurrent_resolved p.text p.around s);
}

unfoldable pub of_instance : Instantiation → Part ResolvedConcurrentBody
of_instance i = record { events = Event.Instance i ∷ []; at = λ p. resolved.Instance (instance_resolved p.text p.around i) }

unfoldable pub of_body : Option Token → ConcurrentBody → Part ResolvedConcurrentBody
of_body label (concurrent_body.Process s) = process_body (of_process label s)
of_body label (concurrent_body.Assignment s) = of_assignment s
of_body label (concurrent_body.Instance i) = of_instance i

unfoldable pub of_concurrent : Concurrent → Part ResolvedConcurrent
of_concurrent s = record {
  events = label_events s.label ++ (of_body s.label s.body).events;
  at = λ p. record { line = s.line; label = label_here p.text p.around s.label; body = (of_body s.label s.body).at (walk (label_events s.label) p) };
}

-- ---- units

unfoldable pub of_generic : Generic → Part ResolvedObjects
of_generic g = of_objects class.Generic g.names g.subtype g.default

unfoldable pub of_port : Port → Part ResolvedObjects
of_port s = of_objects (class.Port s.mode) s.names s.subtype s.default

unfoldable pub entity_events : Entity → List Event
entity_events e = Event.Entity e.name ∷ (events_of (map of_generic e.generics) ++ (events_of (map of_port e.ports) ++ Event.EndEntity e.name e.end_name ∷ []))

-- an entity behind its beginning
unfoldable pub entity_at : ℕ → List ℕ → List (Part ResolvedObjects) → List (Part ResolvedObjects) → Progress → ResolvedEntity
entity_at line name generics ports p = record { line = line; name = name; generics = all_at generics p; ports = all_at ports (walk (events_of generics) p) }

unfoldable pub of_entity : Entity → Part ResolvedEntity
of_entity e = record {
  events = entity_events e;
  at = λ p. entity_at e.line (span p.text e.name) (map of_generic e.generics) (map of_port e.ports) (step (Event.Entity e.name) p);
}

-- the specification of FOREIGN, which the rules of this attribute speak of
unfoldable pub is_foreign : List ℕ → Declaration → Bool
is_foreign text (declaration.Attribute s) = is_word text s.attribute (codes "foreign")
is_foreign text _ = false

-- nothing stands in it but FOREIGN
unfoldable pub is_bare : List ℕ → Architecture → Bool
is_bare text a = list_all (is_foreign text) a.declarations && length a.statements == 0

unfoldable pub architecture_events : List ℕ → Architecture → List Event
architecture_events text a = Event.Architecture a.name a.entity (is_bare text a) ∷
    (events_of (of_declarations a.declarations) ++ (events_of (map of_concurrent a.statements) ++ Event.EndArchitecture a.name a.end_name ∷ []))

-- an architecture behind its beginning
unfoldable pub architecture_at : ℕ → List ℕ → Option ℕ → List (Part ResolvedDeclaration) → List (Part ResolvedConcurrent) → Progress → ResolvedArchitecture
architecture_at line name entity declarations statements p = record {
  line = line;
  name = name;
  entity = entity;
  declarations = all_at declarations p;
  statements = all_at statements (walk (events_of declarations) p);
}

unfoldable pub of_architecture : List ℕ → Architecture → Part ResolvedArchitecture
of_architecture text a = record {
  events = architecture_events text a;
  at = λ p. architecture_at a.line (span p.text a.name) (entity_number (word_in p.text a.entity) p.around) (of_declarations a.declarations) (map of_concurrent a.statements)
      (step (Event.Architecture a.name a.entity (is_bare text a)) p);
}

unfoldable pub of_context : ContextClause → List Event
of_context (context_clause.Library tokens) = Event.Library tokens ∷ []
of_context (context_clause.Use u) = Event.Uses u ∷ []

unfoldable pub entity_unit : Part ResolvedEntity → Part ResolvedUnit
entity_unit x = record { events = x.events; at = λ p. resolved_unit.Entity (x.at p) }

unfoldable pub architecture_unit : Part ResolvedArchitecture → Part ResolvedUnit
architecture_unit x = record { events = x.events; at = λ p. resolved_unit.Architecture (x.at p) }

unfoldable pub of_library_unit : List ℕ → LibraryUnit → Part ResolvedUnit
of_library_unit text (library_unit.Entity e) = entity_unit (of_entity e)
of_library_unit text (library_unit.Architecture a) = architecture_unit (of_architecture text a)

unfoldable pub of_unit : List ℕ → DesignUnit → Part ResolvedUnit
of_unit text u = record {
  events = flat_map of_context u.context ++ (of_library_unit text u.unit).events;
  at = λ p. (of_library_unit text u.unit).at (walk (flat_map of_context u.context) p);
}

unfoldable pub of_units : List ℕ → List DesignUnit → List (Part ResolvedUnit)
of_units text units = map (of_unit text) units

-- the events of a file
unfoldable pub of_file : List ℕ → DesignFile → List Event
of_file text file = events_of (of_units text file.units)

-- ---- the architectures of the whole file

unfoldable pub architecture_named : List ℕ → LibraryUnit → List Named
architecture_named text (library_unit.Entity e) = []
architecture_named text (library_unit.Architecture a) = (record { name = architecture_key (word_in text a.entity) (word_in text a.name); entry = entry.Label 0 }) ∷ []

unfoldable pub architectures : List ℕ → DesignFile → List Named
architectures text file = flat_map (λ u. architecture_named text u.unit) file.units

-- ---- the units of a file: what each of its parts means

unfoldable pub units_of : List ℕ → DesignFile → Units
units_of text file = record { units = all_at (of_units text file.units) (setting_out text (architectures text file)) }
