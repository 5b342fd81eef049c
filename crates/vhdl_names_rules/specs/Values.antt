-- What a place asks of the value that stands there.
use Rattle.std.specs.Prelude.{Bool, List, None, Option, Some, [], ◌++◌}
use Rattle.vhdl_units.specs.declared.base_type.BaseType.{BaseType}
use Rattle.vhdl_units.specs.declared.fault.Fault.{Fault}
use Rattle.vhdl_names_typing.specs.Faults.{asks, typing_of, with_bounds}
use Rattle.vhdl_names_typing.specs.declared.told.Told.{Told}
use Rattle.vhdl_units.specs.declared.base_type.BaseType.TheVariants as base

-- that it has this type, if it is known which
unfoldable pub asks_if_known : Option BaseType → Told → List Fault
asks_if_known (Some t) told = asks t told
asks_if_known None told = []

-- a value at a place that gives no bounds
unfoldable pub asked : Option BaseType → Told → List Fault
asked t told = told.names ++ (typing_of told ++ asks_if_known t told)

-- a value for an object whose bounds are known, and globally static or not
unfoldable pub valued : Option BaseType → Bool → Told → List Fault
valued t is_static told = told.names ++ (told.typing ++ (with_bounds is_static told ++ asks_if_known t told))

unfoldable pub asked_optional : BaseType → Option Told → List Fault
asked_optional t (Some told) = asked (Some t) told
asked_optional t None = []

unfoldable pub optional_names : Option Told → List Fault
optional_names (Some told) = told.names
optional_names None = []

-- conditions
unfoldable pub tested : Told → List Fault
tested told = asked (Some base.Boolean) told
