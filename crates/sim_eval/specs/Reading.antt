-- Values, states and bounds of named elements.
use Rattle.std.specs.Prelude.{ℕ, ◌+◌, Bool, ◌&&◌, List, [], map, take, drop, ℤ, pos, Option, slice_get}
use Rattle.std.specs.List.{list_any}
use Rattle.std.specs.Option.{option_map_or}
use Rattle.std.specs.Int.{int_min, int_max}
use Rattle.std.specs.Ordering.{int_eq}
use Rattle.vhpi_values.specs.Types.{range_length}
use Rattle.vhpi_values.specs.declared.types.IndexRange.{IndexRange}
use Rattle.sim_elaborated.specs.declared.states.ElementState.{ElementState}
use Rattle.sim_elaborated.specs.declared.expressions.Object.{Object}
use Rattle.sim_elaborated.specs.declared.expressions.Object.TheVariants as object
use Rattle.sim_elaborated.specs.declared.expressions.SignalAttribute.{SignalAttribute}
use Rattle.sim_elaborated.specs.declared.expressions.SignalAttribute.TheVariants as signal
use Rattle.sim_elaborated.specs.declared.expressions.BoundAttribute.{BoundAttribute}
use Rattle.sim_elaborated.specs.declared.expressions.BoundAttribute.TheVariants as bound
use Rattle.sim_elaborated.specs.declared.expressions.Edge.{Edge}
use Rattle.sim_elaborated.specs.declared.expressions.Edge.TheVariants as edge
use Rattle.sim_operators.specs.Logic.{x01_at}
use Rattle.sim_operators.specs.Operators.{only, of_truth}
use Rattle.sim_eval.specs.declared.locating.Located.{Located}
use Rattle.sim_eval.specs.Located.{count_of}
use Rattle.sim_eval.specs.Objects.{Objects}

-- the members of a list from a place on
abbrev pub part_of : {X : Type 0} → List X → ℕ → ℕ → List X
part_of xs first count = take count (drop first xs)

-- the states of the named elements of a net of the instance
abbrev pub states_of : Objects → ℕ → Located → List ElementState
states_of env n at = option_map_or (λ net. part_of env.elements (net.first_element + at.first) (count_of at)) (slice_get env.nets n) []

-- the states of the named elements, where the object is a net
abbrev pub states_at : Objects → Object → Located → List ElementState
states_at env (object.Net n) at = states_of env n at
states_at env _ at = []

-- the values of the named elements
abbrev pub read : Objects → Object → Located → List ℤ
read env (object.Generic n) at = option_map_or (λ g. part_of g.value at.first (count_of at)) (slice_get env.generics n) []
read env (object.Constant n) at = option_map_or (λ c. part_of c.value at.first (count_of at)) (slice_get env.constants n) []
read env (object.Net n) at = map (λ e. e.current) (states_of env n at)
read env (object.Variable n) at = option_map_or (λ v. part_of v at.first (count_of at)) (slice_get env.values n) []
read env (object.Parameter n) at = option_map_or only (slice_get env.parameters n) []

-- an attribute of a signal: of an array `'event` and `'active` are those of any element
abbrev pub attribute_of : SignalAttribute → List ElementState → List ℤ
attribute_of signal.Event states = of_truth (list_any (λ e. e.has_event) states)
attribute_of signal.Active states = of_truth (list_any (λ e. e.is_active) states)
attribute_of signal.LastValue states = map (λ e. e.last) states

-- an event from '0' to '1' or the other way, strength aside: '0' and '1' stand at the positions 2 and 3 of STD_ULOGIC
abbrev pub is_edge : Edge → ElementState → Bool
is_edge edge.Rising e = e.has_event && int_eq (x01_at e.current) (pos 3) && int_eq (x01_at e.last) (pos 2)
is_edge edge.Falling e = e.has_event && int_eq (x01_at e.current) (pos 2) && int_eq (x01_at e.last) (pos 3)

abbrev pub bound_in : BoundAttribute → IndexRange → ℤ
bound_in bound.Left range = range.left
bound_in bound.Right range = range.right
bound_in bound.High range = int_max range.left range.right
bound_in bound.Low range = int_min range.left range.right
bound_in bound.Length range = pos (range_length range)

abbrev pub bound_of : BoundAttribute → Option IndexRange → ℤ
bound_of bound range = option_map_or (bound_in bound) range (pos 0)
