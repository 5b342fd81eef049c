-- Elements and slices of objects (IEEE Std 1076-2008, clauses 8.4 and 8.5).
use Rattle.std.specs.Prelude.{ℕ, ◌+◌, Bool, ◌&&◌, not, List, [], ◌∷◌, ℤ, int_le, ◌-ℤ◌, unsigned_abs, Option, Some, None, Result, Ok, Err, if◌then◌else◌}
use Rattle.std.specs.Option.{option_map_or}
use Rattle.vhpi_values.specs.Types.{range_length}
use Rattle.vhpi_values.specs.declared.types.IndexRange.{IndexRange}
use Rattle.sim_operators.specs.declared.fault.Fault.{Fault}
use Rattle.sim_operators.specs.declared.fault.Fault.TheVariants as fault
use Rattle.sim_operators.specs.Outcomes.{and_then}
use Rattle.sim_eval.specs.declared.locating.Located.{Located}

-- the whole object
abbrev pub whole : Option IndexRange → Located
whole range = record { first = 0; range = range }

-- how many elements are named
abbrev pub count_of : Located → ℕ
count_of at = option_map_or range_length at.range 1

abbrev pub is_between : ℤ → ℤ → ℤ → Bool
is_between low high n = int_le low n && int_le n high

-- the number is an index of the range
abbrev pub is_inside : IndexRange → ℤ → Bool
is_inside range n = if range.is_ascending then is_between range.left range.right n else is_between range.right range.left n

-- how far an index stands behind the left bound
abbrev pub place_of : IndexRange → ℤ → ℕ
place_of range n = unsigned_abs (n -ℤ range.left)

-- an element: an index outside the array is a fault
abbrev pub indexed_in : IndexRange → ℕ → ℤ → Result Located Fault
indexed_in range first n = if is_inside range n then Ok (record { first = first + place_of range n; range = None }) else Err (fault.Index n)

abbrev pub indexed : Located → ℤ → Result Located Fault
indexed at n = option_map_or (λ range. indexed_in range at.first n) at.range (Err (fault.Index n))

-- the ends of a slice have a direction, and an element between them
abbrev pub goes : Bool → ℤ → ℤ → Bool
goes is_ascending left right = if is_ascending then int_le left right else int_le right left

abbrev pub same_direction : Bool → Bool → Bool
same_direction a b = if a then b else not b

-- a slice: an end outside the array is a fault, and then another direction and no element are, with the left end
abbrev pub sliced_in : IndexRange → ℕ → ℤ → Bool → ℤ → Result Located Fault
sliced_in range first left is_ascending right =
    if not (is_inside range left) then Err (fault.Index left)
    else (if not (is_inside range right) then Err (fault.Index right)
    else (if same_direction range.is_ascending is_ascending && goes is_ascending left right then Ok (record { first = first + place_of range left; range = Some (record { left = left; right = right; is_ascending = is_ascending }) })
    else Err (fault.Index left)))

abbrev pub sliced : Located → ℤ → Bool → ℤ → Result Located Fault
sliced at left is_ascending right = option_map_or (λ range. sliced_in range at.first left is_ascending right) at.range (Err (fault.Index left))

-- what an index or slice makes of the elements that are named so far
abbrev pub Move : Type 0
Move = Located → Result Located Fault

-- one part after the other
abbrev pub moved_by : Located → List Move → Result Located Fault
moved_by at [] = Ok at
moved_by at (move ∷ moves) = and_then (move at) (λ next. moved_by next moves)
