-- What stands around a place behind an event.
use Rattle.std.specs.Prelude.{Bool, List, None, Option, Some, [], drop, false, length, slice_index_or, slice_set, ℕ, ◌++◌, ◌∷◌}
use Rattle.vhdl_names_checker.specs.Around.{Around, no_interface}
use Rattle.vhdl_names_checker.specs.Declaring.{enumeration_declared, label_declared, next_number, object_numbered, objects_declared, subtype_declared, type_or}
use Rattle.vhdl_names_checker.specs.Events.{Event}
use Rattle.vhdl_names_checker.specs.Telling.{bounds_here, expression, subtype_here}
use Rattle.vhdl_names_rules.specs.Cases.{subject_type}
use Rattle.vhdl_names_rules.specs.Subtypes.{loop_type}
use Rattle.vhdl_names_scope.specs.Declarations.{Named, own}
use Rattle.vhdl_names_scope.specs.Names.{word_in}
use Rattle.vhdl_names_scope.specs.Nesting.{closed, loop_closed, loop_opened, opened}
use Rattle.vhdl_tokens.specs.declared.token.Token.{Token}
use Rattle.vhdl_tree.specs.declared.statements.Scheme.{Scheme}
use Rattle.vhdl_units.specs.declared.base_type.BaseType.{BaseType}
use Rattle.vhdl_units.specs.declared.entry.Entry.{Entry}
use Rattle.vhdl_units.specs.declared.base_type.BaseType.TheVariants as base
use Rattle.vhdl_units.specs.declared.entry.Class.TheVariants as class
use Rattle.vhdl_units.specs.declared.entry.Entry.TheVariants as entry
use Rattle.vhdl_tree.specs.declared.statements.Scheme.TheVariants as scheme

-- `entity.architecture`: no identifier has a dot
unfoldable pub architecture_key : List ℕ → List ℕ → List ℕ
architecture_key entity architecture = entity ++ 46 ∷ architecture

-- The units of the library are kept as labels with numbers: an entity's is that of its interface, an architecture's 0.
unfoldable pub unit_number : List Entry → Option ℕ
unit_number (entry.Label n ∷ entries) = Some n
unit_number _ = None

-- the number of an entity that stands before
unfoldable pub entity_number : List ℕ → Around → Option ℕ
entity_number word a = unit_number (own word a.library)

unfoldable pub in_library : List ℕ → ℕ → Around → Around
in_library word number a = record a { library = a.library ++ (record { name = word; entry = entry.Label number }) ∷ [] }

-- ---- entities

unfoldable pub entity_begun : Around → Around
entity_begun a = record a { regions = opened [] a.regions; interface = no_interface }

-- its region goes on an empty one, so what it declares is the whole of it
unfoldable pub entity_ended : List ℕ → Around → Around
entity_ended word a = in_library word (length a.interfaces) (record a {
  regions = closed a.regions;
  interfaces = a.interfaces ++ a.interface ∷ [];
  bases = a.bases ++ a.regions.inner.region.more ∷ [];
  interface = no_interface;
})

-- ---- architectures

-- An entity and its architecture are one declarative region (12.1), so the architecture goes on in the entity's. That is lent to it, and an
-- empty one stands in its place until it is given back as it was: nothing looks there meanwhile, and the region has one owner.
unfoldable pub lent : Option ℕ → List (List Named) → List Named
lent (Some n) bases = slice_index_or bases n []
lent None bases = []

unfoldable pub without_base : Option ℕ → List (List Named) → List (List Named)
without_base (Some n) bases = slice_set bases n []
without_base None bases = bases

unfoldable pub given_back : Option ℕ → List Named → List (List Named) → List (List Named)
given_back (Some n) base bases = slice_set bases n base
given_back None base bases = bases

unfoldable pub architecture_of : Option ℕ → List ℕ → List ℕ → Bool → Around → Around
architecture_of number entity name is_bare a = in_library (architecture_key entity name) 0 (record a {
  regions = opened (lent number a.bases) a.regions;
  bases = without_base number a.bases;
  entity = number;
  architecture = name;
  is_allowed = is_bare;
})

unfoldable pub architecture_begun : List ℕ → List ℕ → Bool → Around → Around
architecture_begun entity name is_bare a = architecture_of (entity_number entity a) entity name is_bare a

unfoldable pub architecture_ended : Around → Around
architecture_ended a = record a {
  regions = closed a.regions;
  bases = given_back a.entity a.regions.inner.region.base a.bases;
  entity = None;
}

-- ---- processes and loops

unfoldable pub label_word : List ℕ → Option Token → Option (List ℕ)
label_word text None = None
label_word text (Some token) = Some (word_in text token)

unfoldable pub parameter : ℕ → Option BaseType → Entry
parameter number (Some t) = entry.Object (object_numbered number class.Parameter t)
parameter number None = entry.Object (object_numbered number class.Parameter base.Integer)

unfoldable pub with_parameter : List ℕ → Entry → Around → Around
with_parameter word e a = record a { regions = loop_opened (record { name = word; entry = e }) a.regions; declarations = a.declarations ++ e ∷ [] }

unfoldable pub in_loop : Option (List ℕ) → Around → Around
in_loop label a = record a { loops = label ∷ a.loops }

unfoldable pub loop_begun : List ℕ → Scheme → Around → Around
loop_begun text (scheme.For token b) a = with_parameter (word_in text token) (parameter (next_number a) (loop_type (bounds_here text a b))) a
loop_begun text _ a = a

unfoldable pub loop_left : Scheme → Around → Around
loop_left (scheme.For token b) a = record a { regions = loop_closed a.regions; loops = drop 1 a.loops }
loop_left _ a = record a { loops = drop 1 a.loops }

-- ---- all events

unfoldable pub after : List ℕ → Event → Around → Around
after text (Event.Entity name) a = entity_begun a
after text (Event.EndEntity name end) a = entity_ended (word_in text name) a
after text (Event.Architecture name entity is_bare) a = architecture_begun (word_in text entity) (word_in text name) is_bare a
after text (Event.EndArchitecture name end) a = architecture_ended a
after text (Event.Enumeration d) a = enumeration_declared text d a
after text (Event.Subtyped d) a = subtype_declared text d.name (subtype_here text a d.subtype).mark a
after text (Event.Objects c names s initial) a = objects_declared text c (type_or (subtype_here text a s).mark) names a
after text (Event.Attributed s) a = record a { is_allowed = false }
after text (Event.Labelled token) a = label_declared text token a
after text (Event.Process is_listed) a = record a { regions = opened [] a.regions; is_listed = is_listed }
after text (Event.EndProcess name end) a = record a { regions = closed a.regions }
after text (Event.Chosen e) a = record a { subjects = subject_type (expression text a e) ∷ a.subjects }
after text (Event.EndCase name end) a = record a { subjects = drop 1 a.subjects }
after text (Event.Looped label s) a = in_loop (label_word text label) (loop_begun text s a)
after text (Event.EndLoop s label end) a = loop_left s a
after text _ a = a
