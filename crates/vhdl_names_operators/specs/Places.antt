-- What a place asks of the types that an expression there can have (IEEE Std 1076-2008, clause 12.5): that exactly
-- one of them fits.
use Rattle.std.specs.List.{list_all}
use Rattle.std.specs.Prelude.{ℕ, Bool, ◌&&◌, Option, Some, None, List, [], ◌∷◌, filter, slice_get, if◌then◌else◌}
use Rattle.vhdl_units.specs.declared.base_type.BaseType.{BaseType}
use Rattle.vhdl_units.specs.Types.{is_discrete, same}
use Rattle.vhdl_names_operators.specs.Sets.{has}

-- a place of the type asked: as no type stands twice, exactly one fits where this is one of them
unfoldable pub fits_alone : BaseType → List BaseType → Bool
fits_alone asked types = has types asked

unfoldable pub only : List BaseType → Option BaseType
only (t ∷ []) = Some t
only _ = None

-- two bounds of a discrete range
unfoldable pub is_common_discrete : List BaseType → BaseType → Bool
is_common_discrete types t = is_discrete t && has types t

-- the type in a list that has no other
unfoldable pub sole : List BaseType → Option BaseType
sole [] = None
sole (t ∷ types) = if list_all (same t) types then Some t else None

unfoldable pub common_discrete : List BaseType → List BaseType → Option BaseType
common_discrete ls rs = sole (filter (is_common_discrete rs) ls)

-- ---- how it is found

-- the type at a place, where it passes a test
unfoldable pub if_passes : (BaseType → Bool) → Option BaseType → Option BaseType
if_passes p (Some t) = if p t then Some t else None
if_passes p None = None

unfoldable pub passing_at : (BaseType → Bool) → List BaseType → ℕ → Option BaseType
passing_at p types place = if_passes p (slice_get types place)
