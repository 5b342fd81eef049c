use Rattle.std.specs.Prelude.{◌≡◌, List, length, ℤ, ◌≤ℤ◌, All, replicate}
use Rattle.std.specs.Int.{int_min, int_max}
use Rattle.vhpi_values.specs.Types.{Subtype, element_count}

-- the lesser and the greater bound of the scalar subtype; the direction of a scalar range isn't kept
abbrev pub lowest : Subtype → ℤ
lowest ty = int_min ty.left ty.right

abbrev pub highest : Subtype → ℤ
highest ty = int_max ty.left ty.right

-- the number lies in the scalar subtype
pub record IsWithin (ty : Subtype) (n : ℤ) : Type 0 where
  pub low : lowest ty ≤ℤ n
  pub high : n ≤ℤ highest ty

-- the list is a value of the subtype: a number for each element, each within the scalar subtype
pub record Fits (ty : Subtype) (value : List ℤ) : Type 0 where
  pub count : length value ≡ element_count ty
  pub within : All (IsWithin ty) value

-- the default value has the leftmost value in each place
abbrev pub default_value : Subtype → List ℤ
default_value ty = replicate (element_count ty) ty.left
