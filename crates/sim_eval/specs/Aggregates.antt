-- Aggregates (IEEE Std 1076-2008, clause 9.3.3).
use Rattle.std.specs.Prelude.{ℕ, zero, suc, Bool, true, false, List, [], ◌∷◌, ◌++◌, ℤ, pos, ◌+ℤ◌, ◌-ℤ◌, Option, Some, None, Result, Ok, if◌then◌else◌}
use Rattle.std.specs.List.{list_any}
use Rattle.std.specs.Option.{option_map_or}
use Rattle.std.specs.Int.{int_min, int_max}
use Rattle.vhpi_values.specs.Types.{at_least_none, range_length}
use Rattle.vhpi_values.specs.declared.types.IndexRange.{IndexRange}
use Rattle.sim_operators.specs.declared.fault.Fault.{Fault}
use Rattle.sim_operators.specs.Outcomes.{Outcome, and_then}
use Rattle.sim_operators.specs.Operators.{are_equal}
use Rattle.std.specs.Ordering.{int_eq}
use Rattle.vhpi_values.specs.Formats.{first}
use Rattle.sim_eval.specs.Located.{is_between}
use Rattle.sim_eval.specs.declared.aggregates.Chosen.{Chosen}
use Rattle.sim_eval.specs.declared.aggregates.Chosen.TheVariants as chosen
use Rattle.sim_eval.specs.declared.aggregates.Element.{Element}
use Rattle.sim_eval.specs.declared.aggregates.Run.{Run}
use Rattle.sim_eval.specs.declared.aggregates.Extent.{Extent}

-- the items of an aggregate by position, one after the other
abbrev pub joined_by : List ℤ → List Outcome → Outcome
joined_by so_far [] = Ok so_far
joined_by so_far (item ∷ items) = and_then item (λ value. joined_by (so_far ++ value) items)

-- results one after the other
abbrev pub collected_by : {T : Type 0} → List T → List (Result T Fault) → Result (List T) Fault
collected_by so_far [] = Ok so_far
collected_by so_far (result ∷ results) = and_then result (λ member. collected_by (so_far ++ member ∷ []) results)

-- a choice of an index or of the indices between two
abbrev pub between : ℤ → Bool → ℤ → Chosen
between left is_ascending right = if is_ascending then chosen.Range left right else chosen.Range right left

abbrev pub is_number : List ℤ → ℤ → Bool
is_number value n = int_eq (first value) n

-- the choice is one of this index
abbrev pub chooses : ℤ → Chosen → Bool
chooses n (chosen.Value value) = is_number value n
chooses n (chosen.Range low high) = is_between low high n
chooses n chosen.Others = false

abbrev pub is_others : Chosen → Bool
is_others chosen.Others = true
is_others _ = false

-- the choice of a case statement is one of this value
abbrev pub is_chosen : List ℤ → Chosen → Bool
is_chosen value (chosen.Value choice) = are_equal value choice
is_chosen value (chosen.Range low high) = is_between low high (first value)
is_chosen value chosen.Others = true

abbrev pub has_index : ℤ → Element → Bool
has_index n element = list_any (chooses n) element.choices

abbrev pub has_others : Element → Bool
has_others element = list_any is_others element.choices

-- the number for the indices that no choice names
abbrev pub other_number : List Element → ℤ
other_number [] = pos 0
other_number (element ∷ elements) = if has_others element then element.number else other_number elements

-- the number of the first element with this index, else the one that is given
abbrev pub number_or : ℤ → ℤ → List Element → ℤ
number_or other n [] = other
number_or other n (element ∷ elements) = if has_index n element then element.number else number_or other n elements

abbrev pub number_at : List Element → ℤ → ℤ
number_at elements n = number_or (other_number elements) n elements

-- the least and the greatest index, with those of a choice more
abbrev pub widened_to : Option Extent → ℤ → ℤ → Option Extent
widened_to None low high = Some (record { low = low; high = high })
widened_to (Some extent) low high = Some (record { low = int_min extent.low low; high = int_max extent.high high })

abbrev pub widened : Option Extent → Chosen → Option Extent
widened extent (chosen.Value value) = widened_to extent (first value) (first value)
widened extent (chosen.Range low high) = widened_to extent low high
widened extent chosen.Others = extent

abbrev pub widened_by : Option Extent → List Chosen → Option Extent
widened_by extent [] = extent
widened_by extent (choice ∷ choices) = widened_by (widened extent choice) choices

-- how many numbers there are from one to another
abbrev pub count_up : ℤ → ℤ → ℕ
count_up low high = at_least_none (high -ℤ low +ℤ pos 1)

abbrev pub run_over : Bool → Extent → Run
run_over is_ascending extent = record { left = if is_ascending then extent.low else extent.high; is_ascending = is_ascending; count = count_up extent.low extent.high }

abbrev pub run_of : IndexRange → Run
run_of range = record { left = range.left; is_ascending = range.is_ascending; count = range_length range }

abbrev pub no_run : Run
no_run = record { left = pos 0; is_ascending = true; count = 0 }

-- the extent of all choices
abbrev pub extent_by : Option Extent → List Element → Option Extent
extent_by extent [] = extent
extent_by extent (element ∷ elements) = extent_by (widened_by extent element.choices) elements

-- the direction of the place, or upwards
abbrev pub direction_at : Option IndexRange → Bool
direction_at place = option_map_or (λ range. range.is_ascending) place true

-- with `others` the indices are those of the place; else they run from the least choice to the greatest, in the direction of the place, or upwards where it has none
abbrev pub run_for : Option IndexRange → List Element → Run
run_for place elements =
    if list_any has_others elements then option_map_or run_of place no_run
    else option_map_or (run_over (direction_at place)) (extent_by None elements) no_run

abbrev pub index_at : Run → ℕ → ℤ
index_at run n = if run.is_ascending then run.left +ℤ pos n else run.left -ℤ pos n

-- the numbers at the first indices of a run, from left to right
abbrev pub numbers_over : ℕ → Run → List Element → List ℤ
numbers_over zero run elements = []
numbers_over (suc n) run elements = numbers_over n run elements ++ number_at elements (index_at run n) ∷ []

-- an aggregate with choices
abbrev pub assembled : Option IndexRange → List Element → List ℤ
assembled place elements = numbers_over (run_for place elements).count (run_for place elements) elements
