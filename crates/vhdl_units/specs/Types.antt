-- Types (IEEE Std 1076-2008, clause 5).
use Rattle.std.specs.Prelude.{Bool, true, false, ◌==◌, Option, Some, None}
use Rattle.vhdl_units.specs.declared.base_type.BaseType.{BaseType}
use Rattle.vhdl_units.specs.declared.base_type.BaseType.TheVariants as base

abbrev pub same : BaseType → BaseType → Bool
same base.Boolean base.Boolean = true
same base.Bit base.Bit = true
same base.Character base.Character = true
same base.StdUlogic base.StdUlogic = true
same (base.Own a) (base.Own b) = a == b
same base.Integer base.Integer = true
same base.Time base.Time = true
same base.BitVector base.BitVector = true
same base.StdUlogicVector base.StdUlogicVector = true
same base.String base.String = true
same base.IntegerVector base.IntegerVector = true
same _ _ = false

-- the type of an array's elements
abbrev pub element : BaseType → Option BaseType
element base.BitVector = Some base.Bit
element base.StdUlogicVector = Some base.StdUlogic
element base.String = Some base.Character
element base.IntegerVector = Some base.Integer
element _ = None

abbrev pub is_array_with : Option BaseType → Bool
is_array_with (Some e) = true
is_array_with None = false

abbrev pub is_array : BaseType → Bool
is_array t = is_array_with (element t)

abbrev pub is_enumeration : BaseType → Bool
is_enumeration base.Boolean = true
is_enumeration base.Bit = true
is_enumeration base.Character = true
is_enumeration base.StdUlogic = true
is_enumeration (base.Own n) = true
is_enumeration _ = false

abbrev pub is_discrete : BaseType → Bool
is_discrete base.Integer = true
is_discrete t = is_enumeration t
