-- Attributes (IEEE Std 1076-2008, clause 16.2): which there are, and which prefixes have them.
use Rattle.std.specs.Char.{to_ascii_lowercase}
use Rattle.std.specs.Prelude.{Bool, List, None, Option, Some, bytes_eq, codes, false, if◌then◌else◌, map, true, ℕ, ◌&&◌}
use Rattle.vhdl_tokens.specs.Meaning.{span}
use Rattle.vhdl_tokens.specs.declared.token.Token.{Token}
use Rattle.vhdl_units.specs.Types.{is_array}
use Rattle.vhdl_units.specs.declared.base_type.BaseType.{BaseType}
use Rattle.vhdl_units.specs.declared.entry.Class.{Class}
use Rattle.vhdl_names_typing.specs.declared.told.Attribute.{Attribute}
use Rattle.vhdl_names_typing.specs.declared.told.ObjectName.{ObjectName}
use Rattle.vhdl_names_typing.specs.declared.told.Attribute.TheVariants as attribute
use Rattle.vhdl_units.specs.declared.entry.Class.TheVariants as class
use Rattle.vhdl_names_typing.specs.declared.told.TypeAttribute.TheVariants as type_attribute
use Rattle.vhdl_units.specs.declared.values.ObjectAttribute.TheVariants as of_object

-- the attribute that a word names, in lower case
unfoldable pub attribute_named : List ℕ → Option Attribute
attribute_named word =
    if bytes_eq word (codes "event") then Some (attribute.Object of_object.Event) else
    if bytes_eq word (codes "active") then Some (attribute.Object of_object.Active) else
    if bytes_eq word (codes "last_value") then Some (attribute.Object of_object.LastValue) else
    if bytes_eq word (codes "left") then Some (attribute.Object of_object.Left) else
    if bytes_eq word (codes "right") then Some (attribute.Object of_object.Right) else
    if bytes_eq word (codes "high") then Some (attribute.Object of_object.High) else
    if bytes_eq word (codes "low") then Some (attribute.Object of_object.Low) else
    if bytes_eq word (codes "length") then Some (attribute.Object of_object.Length) else
    if bytes_eq word (codes "range") then Some attribute.Range else
    if bytes_eq word (codes "pos") then Some (attribute.Type type_attribute.Pos) else
    if bytes_eq word (codes "val") then Some (attribute.Type type_attribute.Val) else None

unfoldable pub attribute_of : List ℕ → Token → Option Attribute
attribute_of text token = attribute_named (map to_ascii_lowercase (span text token))

-- ---- prefixes

unfoldable pub is_signal_class : Class → Bool
is_signal_class class.Signal = true
is_signal_class (class.Port mode) = true
is_signal_class _ = false

-- what a value hangs on in the run: signals and variables
unfoldable pub is_read : Class → Bool
is_read class.Variable = true
is_read c = is_signal_class c

unfoldable pub is_static_class : Class → Bool
is_static_class class.Constant = true
is_static_class class.Generic = true
is_static_class _ = false

unfoldable pub is_signal : ObjectName → Bool
is_signal o = is_signal_class o.object.class

-- an array, or a slice of one with static bounds
unfoldable pub is_array_type : Option BaseType → Bool
is_array_type (Some t) = is_array t
is_array_type None = false

unfoldable pub has_bounds : ObjectName → Bool
has_bounds o = is_array_type o.base && o.is_static
