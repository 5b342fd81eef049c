-- Discrete ranges (IEEE Std 1076-2008, clause 5.2.1): two bounds, or the range of an array.
-- Only the range of an array is a name in the place of a range.
use Rattle.std.specs.Prelude.{List, ◌++◌}
use Rattle.vhdl_units.specs.declared.fault.Fault.{Fault}
use Rattle.vhdl_names_typing.specs.Names.{wrong_kind}
use Rattle.vhdl_names_typing.specs.declared.told.BoundsTold.{BoundsTold}
use Rattle.vhdl_names_typing.specs.declared.told.Denotes.{Denotes}
use Rattle.vhdl_names_typing.specs.declared.told.NameTold.{NameTold}
use Rattle.vhdl_names_typing.specs.declared.told.BoundsTold.TheVariants as bounds_told
use Rattle.vhdl_names_typing.specs.declared.told.Denotes.TheVariants as denotes

unfoldable pub range_as : Denotes → NameTold → NameTold
range_as denotes.Range n = n
range_as denotes.Unknown n = n
range_as _ n = wrong_kind n

unfoldable pub range_name : NameTold → NameTold
range_name n = range_as n.denotes n

unfoldable pub bounds_names : BoundsTold → List Fault
bounds_names (bounds_told.Range left right) = left.names ++ right.names
bounds_names (bounds_told.Name n) = n.names
