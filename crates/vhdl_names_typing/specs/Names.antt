-- What names denote (IEEE Std 1076-2008, clauses 8 and 12): an identifier, and part by part what follows it.
use Rattle.std.specs.Prelude.{Bool, List, None, Option, Some, [], false, if◌then◌else◌, not, true, ℕ, ◌&&◌, ◌++◌, ◌||◌, ◌∷◌}
use Rattle.vhdl_names_overloads.specs.Literals.{literal_types}
use Rattle.vhdl_tokens.specs.declared.token.Token.{Token}
use Rattle.vhdl_units.specs.Faults.{at}
use Rattle.vhdl_units.specs.Types.{element, is_enumeration}
use Rattle.vhdl_units.specs.declared.base_type.BaseType.{BaseType}
use Rattle.vhdl_units.specs.declared.entry.Entry.{Entry}
use Rattle.vhdl_units.specs.declared.entry.Function.{Function}
use Rattle.vhdl_units.specs.declared.entry.Object.{Object}
use Rattle.vhdl_units.specs.declared.fault.Fault.{Fault}
use Rattle.vhdl_names_typing.specs.Attributes.{attribute_of, has_bounds, is_array_type, is_read, is_signal, is_static_class}
use Rattle.vhdl_names_typing.specs.Faults.{asks, break_if, typing_of}
use Rattle.vhdl_names_typing.specs.declared.told.Attribute.{Attribute}
use Rattle.vhdl_names_typing.specs.declared.told.Denotes.{Denotes}
use Rattle.vhdl_names_typing.specs.declared.told.Form.{Form}
use Rattle.vhdl_names_typing.specs.declared.told.NameTold.{NameTold}
use Rattle.vhdl_names_typing.specs.declared.told.ObjectName.{ObjectName}
use Rattle.vhdl_names_typing.specs.declared.told.PartTold.{PartTold}
use Rattle.vhdl_names_typing.specs.declared.told.Told.{Told}
use Rattle.vhdl_names_typing.specs.declared.told.TypeAttribute.{TypeAttribute}
use Rattle.vhdl_units.specs.declared.values.ObjectAttribute.{ObjectAttribute}
use Rattle.vhdl_names_typing.specs.declared.told.Attribute.TheVariants as attribute
use Rattle.vhdl_units.specs.declared.base_type.BaseType.TheVariants as base
use Rattle.vhdl_names_typing.specs.declared.told.Denotes.TheVariants as denotes
use Rattle.vhdl_units.specs.declared.entry.Entry.TheVariants as entry
use Rattle.vhdl_names_typing.specs.declared.told.Form.TheVariants as form
use Rattle.vhdl_units.specs.declared.entry.Function.TheVariants as function
use Rattle.vhdl_names_typing.specs.declared.told.PartTold.TheVariants as part_told
use Rattle.vhdl_units.specs.declared.fault.Rule.TheVariants as rule
use Rattle.vhdl_names_typing.specs.declared.told.TypeAttribute.TheVariants as type_attribute
use Rattle.vhdl_units.specs.declared.values.ObjectAttribute.TheVariants as of_object

-- ---- the identifier

unfoldable pub object_name : Object → ObjectName
object_name o = record { object = o; base = Some o.base; is_static = true; has_static_bounds = true }

unfoldable pub denoted : Entry → Denotes
denoted (entry.Subtype mark) = denotes.Subtype mark
denoted (entry.Object o) = denotes.Object (object_name o)
denoted (entry.Literal t position) = denotes.Value
denoted (entry.Function function.Now) = denotes.Now
denoted (entry.Function f) = denotes.Function f
denoted (entry.Unit u) = denotes.Unit
denoted (entry.Label n) = denotes.Label

unfoldable pub is_static_entry : Entry → Bool
is_static_entry (entry.Object o) = is_static_class o.class
is_static_entry (entry.Literal t position) = true
is_static_entry _ = false

unfoldable pub is_read_entry : Entry → Bool
is_read_entry (entry.Object o) = is_read o.class
is_read_entry _ = false

-- an identifier that isn't declared
unfoldable pub undeclared : ℕ → NameTold
undeclared place = record {
  place = place;
  names = at place rule.Undeclared;
  typing = [];
  denotes = denotes.Unknown;
  types = [];
  is_static = false;
  reads = false;
  is_misfit = false;
}

unfoldable pub declared : ℕ → Entry → List BaseType → NameTold
declared place e types = record {
  place = place;
  names = [];
  typing = [];
  denotes = denoted e;
  types = types;
  is_static = is_static_entry e;
  reads = is_read_entry e;
  is_misfit = false;
}

-- what an identifier tells by the entries that it denotes: one, or several literals
unfoldable pub begun : ℕ → List Entry → NameTold
begun place [] = undeclared place
begun place (e ∷ entries) = declared place e (literal_types (e ∷ entries))

-- ---- what follows

-- nothing of this kind may be followed so
unfoldable pub wrong_kind : NameTold → NameTold
wrong_kind n = record n { names = n.names ++ at n.place rule.WrongKind; denotes = denotes.Unknown; types = [] }

unfoldable pub becomes_value : List BaseType → NameTold → NameTold
becomes_value types n = record n { denotes = denotes.Value; types = types; is_static = false }

unfoldable pub with_denoted : Denotes → NameTold → NameTold
with_denoted d n = record n { denotes = d }

unfoldable pub with_typing : List Fault → NameTold → NameTold
with_typing faults n = record n { typing = n.typing ++ faults }

unfoldable pub with_names : List Fault → NameTold → NameTold
with_names faults n = record n { names = n.names ++ faults }

-- what an index, a bound of a slice or an argument adds
unfoldable pub takes : NameTold → Told → NameTold
takes n told = record n {
  names = n.names ++ told.names;
  typing = n.typing ++ typing_of told;
  is_static = n.is_static && told.is_static;
  reads = n.reads || told.reads;
}

-- an index or slice on a scalar
unfoldable pub misfits : Denotes → NameTold → NameTold
misfits d n = record n { denotes = d; types = []; is_misfit = true }

unfoldable pub part_of : ObjectName → Option BaseType → Bool → ObjectName
part_of o t is_static = record o { base = t; is_static = o.is_static && is_static; has_static_bounds = is_static }

unfoldable pub element_of : Option BaseType → Option BaseType
element_of None = None
element_of (Some t) = element t

-- an element of an object, or an index on a scalar object
unfoldable pub element_named : ObjectName → Option BaseType → Told → NameTold → NameTold
element_named o (Some e) told n = with_typing (asks base.Integer told) (with_denoted (denotes.Object (part_of o (Some e) told.is_static)) n)
element_named o None told n = misfits (denotes.Object (part_of o None told.is_static)) n

-- the argument of rising_edge and falling_edge is the name of a signal
unfoldable pub is_no_signal : Form → Bool
is_no_signal (form.Object o) = not (is_signal o)
is_no_signal form.Unknown = false
is_no_signal _ = true

unfoldable pub signal_wanted : Told → List Fault
signal_wanted told = if is_no_signal told.form then at told.place rule.WrongKind else []

unfoldable pub edge_of : Told → NameTold → NameTold
edge_of told n = becomes_value (base.Boolean ∷ []) (with_typing (asks base.StdUlogic told) (with_names (signal_wanted told) n))

unfoldable pub called : Function → Told → NameTold → NameTold
called function.RisingEdge told n = edge_of told n
called function.FallingEdge told n = edge_of told n
called function.ToX01 told n = becomes_value (base.StdUlogic ∷ []) (with_typing (asks base.StdUlogic told) n)
called function.Now told n = wrong_kind n

unfoldable pub of_type : TypeAttribute → BaseType → Told → NameTold → NameTold
of_type type_attribute.Pos t told n = becomes_value (base.Integer ∷ []) (with_typing (asks t told) n)
of_type type_attribute.Val t told n = becomes_value (t ∷ []) (with_typing (asks base.Integer told) n)

-- ( expr )
unfoldable pub indexed_as : Denotes → Told → NameTold → NameTold
indexed_as denotes.Unknown told n = n
indexed_as (denotes.Object o) told n = element_named o (element_of o.base) told n
indexed_as denotes.Value told n = misfits denotes.Value n
indexed_as (denotes.Function f) told n = called f told n
indexed_as (denotes.TypeAttribute a t) told n = of_type a t told n
indexed_as _ told n = wrong_kind n

unfoldable pub indexed : NameTold → Told → NameTold
indexed n told = indexed_as n.denotes told (takes n told)

-- ( simple dir simple )
unfoldable pub slice_named : ObjectName → Bool → Told → Told → NameTold → NameTold
slice_named o true left right n = with_typing (asks base.Integer left ++ asks base.Integer right)
    (with_denoted (denotes.Object (part_of o o.base (left.is_static && right.is_static))) n)
slice_named o false left right n = misfits (denotes.Object (part_of o None (left.is_static && right.is_static))) n

unfoldable pub sliced_as : Denotes → Told → Told → NameTold → NameTold
sliced_as denotes.Unknown left right n = n
sliced_as (denotes.Object o) left right n = slice_named o (is_array_type o.base) left right n
sliced_as denotes.Value left right n = misfits denotes.Value n
sliced_as denotes.Now left right n = misfits denotes.Value n
sliced_as _ left right n = wrong_kind n

unfoldable pub sliced : NameTold → Told → Told → NameTold
sliced n left right = sliced_as n.denotes left right (takes (takes n left) right)

-- ' id and ' range
unfoldable pub has_no_such : ℕ → NameTold → NameTold
has_no_such place n = record n { names = n.names ++ at place rule.Attribute; denotes = denotes.Unknown; types = [] }

unfoldable pub option_types : Option BaseType → List BaseType
option_types None = []
option_types (Some t) = t ∷ []

-- the numbers of an array's bounds hang on no value
unfoldable pub bound_of : NameTold → NameTold
bound_of n = record n { denotes = denotes.Value; types = base.Integer ∷ []; is_static = true; reads = false }

unfoldable pub range_of : NameTold → NameTold
range_of n = record n { denotes = denotes.Range; is_static = true; reads = false }

-- whether a signal changed
unfoldable pub change_of : ObjectName → ℕ → NameTold → NameTold
change_of o place n = if is_signal o then becomes_value (base.Boolean ∷ []) n else has_no_such place n

unfoldable pub last_value_of : ObjectName → ℕ → NameTold → NameTold
last_value_of o place n =
    if is_signal o && not (is_array_type o.base) then becomes_value (option_types o.base) n else has_no_such place n

unfoldable pub object_attribute : ObjectAttribute → ObjectName → ℕ → NameTold → NameTold
object_attribute of_object.Event o place n = change_of o place n
object_attribute of_object.Active o place n = change_of o place n
object_attribute of_object.LastValue o place n = last_value_of o place n
object_attribute _ o place n = if has_bounds o then bound_of n else has_no_such place n

unfoldable pub object_attributed : Attribute → ObjectName → ℕ → NameTold → NameTold
object_attributed (attribute.Object a) o place n = object_attribute a o place n
object_attributed attribute.Range o place n = if has_bounds o then range_of n else has_no_such place n
object_attributed (attribute.Type a) o place n = has_no_such place n

-- an attribute of an enumeration type
unfoldable pub with_argument : TypeAttribute → BaseType → ℕ → NameTold → NameTold
with_argument a t place n = if is_enumeration t then with_denoted (denotes.TypeAttribute a t) n else has_no_such place n

unfoldable pub type_attributed : Attribute → BaseType → ℕ → NameTold → NameTold
type_attributed (attribute.Type a) t place n = with_argument a t place n
type_attributed _ t place n = has_no_such place n

unfoldable pub attributed_as : Denotes → Option Attribute → ℕ → NameTold → NameTold
attributed_as denotes.Unknown a place n = n
attributed_as (denotes.Object o) (Some a) place n = object_attributed a o place n
attributed_as (denotes.Subtype mark) (Some a) place n = type_attributed a mark.base place n
attributed_as _ a place n = has_no_such place n

unfoldable pub attributed : List ℕ → NameTold → Token → NameTold
attributed text n word = attributed_as n.denotes (attribute_of text word) word.start n

unfoldable pub extended : List ℕ → NameTold → PartTold → NameTold
extended text n (part_told.Index told) = indexed n told
extended text n (part_told.Slice left right) = sliced n left right
extended text n (part_told.Attribute word) = attributed text n word

unfoldable pub extended_by : List ℕ → NameTold → List PartTold → NameTold
extended_by text n [] = n
extended_by text n (p ∷ parts) = extended_by text (extended text n p) parts

-- ---- the whole name

-- An index or slice on a scalar is tested of the whole name.
unfoldable pub finished : NameTold → NameTold
finished n = record n { typing = n.typing ++ break_if n.is_misfit n.names n.place rule.Type }

unfoldable pub name_told : List ℕ → ℕ → List Entry → List PartTold → NameTold
name_told text place entries parts = finished (extended_by text (begun place entries) parts)

-- ---- a name as a value

unfoldable pub told_as : Form → List BaseType → NameTold → Told
told_as f types n = record {
  place = n.place;
  names = n.names;
  typing = n.typing;
  types = types;
  is_static = n.is_static;
  reads = n.reads;
  form = f;
}

unfoldable pub no_value : NameTold → Told
no_value n = record {
  place = n.place;
  names = n.names ++ at n.place rule.WrongKind;
  typing = n.typing;
  types = [];
  is_static = n.is_static;
  reads = n.reads;
  form = form.Unknown;
}

unfoldable pub value_as : Denotes → NameTold → Told
value_as denotes.Unknown n = told_as form.Unknown [] n
value_as (denotes.Object o) n = told_as (form.Object o) (option_types o.base) n
value_as denotes.Value n = told_as form.Value n.types n
value_as denotes.Now n = told_as form.Value (base.Time ∷ []) n
value_as _ n = no_value n

unfoldable pub value_of : NameTold → Told
value_of n = value_as n.denotes n
