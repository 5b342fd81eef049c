-- Sets of types: what an expression can have before its place says which (IEEE Std 1076-2008, clause 12.5). A set
-- is a list without repeats.
use Rattle.std.specs.Prelude.{Bool, true, ◌&&◌, not, List, [], ◌∷◌}
use Rattle.std.specs.List.{list_any}
use Rattle.vhdl_units.specs.declared.base_type.BaseType.{BaseType}
use Rattle.vhdl_units.specs.declared.base_type.BaseType.TheVariants as base
use Rattle.vhdl_units.specs.Types.{same}

-- whether t is one of the types
unfoldable pub has : List BaseType → BaseType → Bool
has types t = list_any (same t) types

-- whether no type stands twice
unfoldable pub is_set : List BaseType → Bool
is_set [] = true
is_set (t ∷ types) = not (has types t) && is_set types

-- the types that are always visible
abbrev pub predefined : List BaseType
predefined =
    base.Boolean ∷ base.Bit ∷ base.Character ∷ base.StdUlogic ∷ base.Integer ∷ base.Time ∷ base.BitVector ∷ base.StdUlogicVector ∷ base.String ∷ base.IntegerVector ∷ []

-- the array types
abbrev pub arrays : List BaseType
arrays = base.BitVector ∷ base.StdUlogicVector ∷ base.String ∷ base.IntegerVector ∷ []
