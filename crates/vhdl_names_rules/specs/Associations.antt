-- Generic and port maps (IEEE Std 1076-2008, clauses 6.5.6 and 6.5.7).
use Rattle.std.specs.List.{list_any}
use Rattle.std.specs.Prelude.{Bool, List, None, Option, Some, [], false, if◌then◌else◌, not, suc, true, zero, ℕ, ◌++◌, ◌+◌, ◌==◌, ◌||◌, ◌∷◌}
use Rattle.vhdl_names_rules.specs.Statements.{is_static_signal}
use Rattle.vhdl_names_rules.specs.Values.{valued}
use Rattle.vhdl_names_rules.specs.declared.told.ActualTold.{ActualTold}
use Rattle.vhdl_names_rules.specs.declared.told.AssociationTold.{AssociationTold}
use Rattle.vhdl_names_rules.specs.declared.told.FormalTold.{FormalTold}
use Rattle.vhdl_units.specs.declared.entry.Class.{Class}
use Rattle.vhdl_units.specs.declared.entry.Object.{Object}
use Rattle.vhdl_units.specs.declared.fault.Fault.{Fault}
use Rattle.vhdl_names_typing.specs.Faults.{break_if}
use Rattle.vhdl_names_typing.specs.declared.told.Form.{Form}
use Rattle.vhdl_names_typing.specs.declared.told.Told.{Told}
use Rattle.vhdl_names_rules.specs.declared.told.ActualTold.TheVariants as actual_told
use Rattle.vhdl_units.specs.declared.entry.Class.TheVariants as class
use Rattle.vhdl_names_typing.specs.declared.told.Form.TheVariants as form
use Rattle.vhdl_names_rules.specs.declared.told.FormalTold.TheVariants as formal_told
use Rattle.vhdl_tree.specs.declared.declarations.Mode.TheVariants as mode
use Rattle.vhdl_units.specs.declared.fault.Rule.TheVariants as rule

-- ---- which formal an actual is for

-- what the associations before one have used
pub record Matching : Type 0 where
  pub position : ℕ  -- how many positional ones there were
  pub is_named : Bool  -- whether there was a named one
  pub used : List ℕ  -- the formals that have an actual, by the numbers of their declarations

unfoldable pub unmatched : Matching
unmatched = record { position = 0; is_named = false; used = [] }

unfoldable pub unless : Bool → Option Object → Option Object
unless true o = None
unless false o = o

unfoldable pub is_used : List ℕ → ℕ → Bool
is_used used number = list_any (λ n. n == number) used

unfoldable pub unless_used : List ℕ → Option Object → Option Object
unless_used used (Some o) = unless (is_used used o.number) (Some o)
unless_used used None = None

unfoldable pub nth : List Object → ℕ → Option Object
nth [] n = None
nth (o ∷ formals) zero = Some o
nth (o ∷ formals) (suc n) = nth formals n

-- No positional one follows a named one, no more of them than formals, and no formal comes twice.
unfoldable pub formal_for : List Object → Matching → FormalTold → Option Object
formal_for formals m formal_told.Positional = unless m.is_named (nth formals m.position)
formal_for formals m (formal_told.Named place o) = unless_used m.used o

unfoldable pub used_with : List ℕ → Option Object → List ℕ
used_with used (Some o) = used ++ o.number ∷ []
used_with used None = used

unfoldable pub is_named_formal : FormalTold → Bool
is_named_formal (formal_told.Named place o) = true
is_named_formal formal_told.Positional = false

unfoldable pub matched : List Object → Matching → FormalTold → Matching
matched formals m f = record {
  position = m.position + (if is_named_formal f then 0 else 1);
  is_named = m.is_named || is_named_formal f;
  used = used_with m.used (formal_for formals m f);
}

-- ---- actuals

unfoldable pub actual_place : ActualTold → ℕ
actual_place (actual_told.Value told) = told.place
actual_place (actual_told.Open place) = place

unfoldable pub actual_names : ActualTold → List Fault
actual_names (actual_told.Value told) = told.names
actual_names (actual_told.Open place) = []

unfoldable pub formal_place_of : FormalTold → ℕ → ℕ
formal_place_of formal_told.Positional place = place
formal_place_of (formal_told.Named at_name o) place = at_name

unfoldable pub formal_place : AssociationTold → ℕ
formal_place a = formal_place_of a.formal (actual_place a.actual)

-- of an actual without a formal the names alone are tested
unfoldable pub without_formal : AssociationTold → List Fault
without_formal a = actual_names a.actual ++ break_if true (actual_names a.actual) (formal_place a) rule.Association

unfoldable pub generic_actual : Object → Told → List Fault
generic_actual formal told = valued (Some formal.base) true told ++ break_if told.reads told.names told.place rule.ReadsObject

-- the name of a signal that is static
unfoldable pub is_static_signal_name : Form → Bool
is_static_signal_name (form.Object o) = is_static_signal o
is_static_signal_name _ = false

-- An in port may be given a value that is globally static.
unfoldable pub is_actual_for : Class → Told → Bool
is_actual_for (class.Port mode.In) told = is_static_signal_name told.form || told.is_static
is_actual_for _ told = is_static_signal_name told.form

-- What is only read isn't driven, and what is only driven isn't read.
unfoldable pub is_class_for : Class → Class → Bool
is_class_for (class.Port mode.Out) (class.Port mode.In) = false
is_class_for (class.Port mode.Inout) (class.Port mode.In) = false
is_class_for (class.Port mode.Inout) (class.Port mode.Out) = false
is_class_for _ _ = true

unfoldable pub is_mode_for : Class → Form → Bool
is_mode_for formal (form.Object o) = is_class_for formal o.object.class
is_mode_for formal _ = true

unfoldable pub port_actual : Object → Told → List Fault
port_actual formal told = valued (Some formal.base) true told ++
    (break_if (not (is_actual_for formal.class told)) told.names told.place rule.Actual ++
    break_if (not (is_mode_for formal.class told.form)) told.names told.place rule.Mode)

unfoldable pub is_generic : Class → Bool
is_generic class.Generic = true
is_generic _ = false

unfoldable pub value_for : Object → Told → List Fault
value_for formal told = if is_generic formal.class then generic_actual formal told else port_actual formal told

unfoldable pub actual_for : Object → ActualTold → List Fault
actual_for formal (actual_told.Value told) = value_for formal told
actual_for formal (actual_told.Open place) = []

-- ---- associations

unfoldable pub association_for : Option Object → AssociationTold → List Fault
association_for (Some formal) a = actual_for formal a.actual
association_for None a = without_formal a

unfoldable pub association_faults : List Object → Matching → AssociationTold → List Fault
association_faults formals m a = association_for (formal_for formals m a.formal) a

-- all of a map, in the order of the text
unfoldable pub map_from : List Object → Matching → List AssociationTold → List Fault
map_from formals m [] = []
map_from formals m (a ∷ associations) = association_faults formals m a ++ map_from formals (matched formals m a.formal) associations

unfoldable pub map_faults : List Object → List AssociationTold → List Fault
map_faults formals associations = map_from formals unmatched associations
