-- Parts of design units with a meaning: nothing in them is unknown or missing (IEEE Std 1076-2008, clauses 5 to 11).
use Rattle.std.specs.List.{list_all}
use Rattle.std.specs.Prelude.{Bool, List, None, Option, Some, is_some, true, ◌&&◌}
use Rattle.vhdl_names_laws.specs.Known.{known_choice, known_option, known_range, known_value}
use Rattle.vhdl_units.specs.declared.declarations.ResolvedConstraint.{ResolvedConstraint}
use Rattle.vhdl_units.specs.declared.declarations.ResolvedDeclaration.{ResolvedDeclaration}
use Rattle.vhdl_units.specs.declared.declarations.ResolvedObjects.{ResolvedObjects}
use Rattle.vhdl_units.specs.declared.declarations.ResolvedSubtype.{ResolvedSubtype}
use Rattle.vhdl_units.specs.declared.statements.ResolvedAssertion.{ResolvedAssertion}
use Rattle.vhdl_units.specs.declared.statements.ResolvedAssignment.{ResolvedAssignment}
use Rattle.vhdl_units.specs.declared.statements.ResolvedDelay.{ResolvedDelay}
use Rattle.vhdl_units.specs.declared.statements.ResolvedElement.{ResolvedElement}
use Rattle.vhdl_units.specs.declared.statements.ResolvedJump.{ResolvedJump}
use Rattle.vhdl_units.specs.declared.statements.ResolvedScheme.{ResolvedScheme}
use Rattle.vhdl_units.specs.declared.statements.ResolvedWait.{ResolvedWait}
use Rattle.vhdl_units.specs.declared.units.ResolvedActual.{ResolvedActual}
use Rattle.vhdl_units.specs.declared.units.ResolvedAlternative.{ResolvedAlternative}
use Rattle.vhdl_units.specs.declared.units.ResolvedAssociation.{ResolvedAssociation}
use Rattle.vhdl_units.specs.declared.units.ResolvedConcurrentAssignment.{ResolvedConcurrentAssignment}
use Rattle.vhdl_units.specs.declared.units.ResolvedInstance.{ResolvedInstance}
use Rattle.vhdl_units.specs.declared.units.ResolvedSensitivity.{ResolvedSensitivity}
use Rattle.vhdl_units.specs.declared.values.ChoiceValue.{ChoiceValue}
use Rattle.vhdl_units.specs.declared.values.Value.{Value}
use Rattle.vhdl_units.specs.declared.units.ResolvedActual.TheVariants as actual
use Rattle.vhdl_units.specs.declared.declarations.ResolvedConstraint.TheVariants as constraint
use Rattle.vhdl_units.specs.declared.declarations.ResolvedDeclaration.TheVariants as declaration
use Rattle.vhdl_units.specs.declared.statements.ResolvedDelay.TheVariants as delay
use Rattle.vhdl_units.specs.declared.statements.ResolvedScheme.TheVariants as scheme
use Rattle.vhdl_units.specs.declared.units.ResolvedSensitivity.TheVariants as sensitivity

-- ---- declarations

unfoldable pub known_constraint : ResolvedConstraint → Bool
known_constraint (constraint.Range r) = known_range r
known_constraint (constraint.Index r) = known_range r

unfoldable pub known_bounds : Option ResolvedConstraint → Bool
known_bounds None = true
known_bounds (Some c) = known_constraint c

-- its type is there
unfoldable pub known_subtype : ResolvedSubtype → Bool
known_subtype s = is_some s.mark && known_bounds s.constraint

unfoldable pub known_objects : ResolvedObjects → Bool
known_objects o = known_subtype o.subtype && known_option o.initial

unfoldable pub known_declaration : ResolvedDeclaration → Bool
known_declaration (declaration.Type t) = true
known_declaration (declaration.Subtype d s) = known_subtype s
known_declaration (declaration.Objects o) = known_objects o
known_declaration (declaration.Foreign v) = known_value v

-- ---- sequential statements

unfoldable pub known_wait : ResolvedWait → Bool
known_wait w = list_all known_value w.on && (known_option w.until && known_option w.time)

unfoldable pub known_assertion : ResolvedAssertion → Bool
known_assertion x = known_value x.condition

unfoldable pub known_delay : ResolvedDelay → Bool
known_delay delay.Inertial = true
known_delay (delay.Reject v) = known_value v
known_delay delay.Transport = true

unfoldable pub known_element : ResolvedElement → Bool
known_element e = known_value e.value && known_option e.after

unfoldable pub known_waveform : List ResolvedElement → Bool
known_waveform elements = list_all known_element elements

unfoldable pub known_assignment : ResolvedAssignment → Bool
known_assignment s = known_value s.target && (known_delay s.delay && known_waveform s.waveform)

unfoldable pub known_jump : ResolvedJump → Bool
known_jump j = known_option j.condition

unfoldable pub known_scheme : ResolvedScheme → Bool
known_scheme scheme.Forever = true
known_scheme (scheme.While v) = known_value v
known_scheme (scheme.For d t r) = known_range r

unfoldable pub known_choices : List ChoiceValue → Bool
known_choices choices = list_all known_choice choices

-- ---- concurrent statements

unfoldable pub known_sensitivity : ResolvedSensitivity → Bool
known_sensitivity sensitivity.Unlisted = true
known_sensitivity sensitivity.All = true
known_sensitivity (sensitivity.Names names) = list_all known_value names

unfoldable pub known_alternative : ResolvedAlternative → Bool
known_alternative x = known_value x.condition && known_waveform x.otherwise

unfoldable pub known_concurrent_assignment : ResolvedConcurrentAssignment → Bool
known_concurrent_assignment s =
    known_value s.target && (known_delay s.delay && (known_waveform s.waveform && (list_all known_alternative s.alternatives && known_option s.condition)))

-- ---- instances

unfoldable pub known_actual : ResolvedActual → Bool
known_actual (actual.Value v) = known_value v
known_actual actual.Open = true

-- its formal is there
unfoldable pub known_association : ResolvedAssociation → Bool
known_association x = is_some x.formal && known_actual x.actual

unfoldable pub known_associations : List ResolvedAssociation → Bool
known_associations associations = list_all known_association associations

-- its entity is there
unfoldable pub known_instance : ResolvedInstance → Bool
known_instance i = is_some i.entity && (known_associations i.generics && known_associations i.ports)
