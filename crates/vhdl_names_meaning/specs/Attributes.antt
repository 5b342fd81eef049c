-- Attributes of objects (IEEE Std 1076-2008, clause 16.2): of which type they are, and which hang on no value.
use Rattle.std.specs.Prelude.{Bool, false, true}
use Rattle.vhdl_units.specs.declared.base_type.BaseType.{BaseType}
use Rattle.vhdl_units.specs.declared.values.ObjectAttribute.{ObjectAttribute}
use Rattle.vhdl_units.specs.declared.base_type.BaseType.TheVariants as base
use Rattle.vhdl_units.specs.declared.values.ObjectAttribute.TheVariants as attribute

-- the type of an attribute of an object of this type
unfoldable pub attribute_type : ObjectAttribute → BaseType → BaseType
attribute_type attribute.Event t = base.Boolean
attribute_type attribute.Active t = base.Boolean
attribute_type attribute.LastValue t = t
attribute_type _ t = base.Integer

-- a number of an array's bounds, which hangs on no value
unfoldable pub is_bound : ObjectAttribute → Bool
is_bound attribute.Event = false
is_bound attribute.Active = false
is_bound attribute.LastValue = false
is_bound _ = true
