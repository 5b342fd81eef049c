-- What an expression means: a fold, in which each operand is already what it means (IEEE Std 1076-2008, clauses 8 and 9). The order of evaluation, and which fault comes first, are the nesting of `and_then`.
use Rattle.std.specs.Prelude.{ℕ, ◌-◌, ◌^◌, min, List, [], ◌∷◌, map, ℤ, pos, Option, Some, None, Result, Ok}
use Rattle.std.specs.List.{list_any}
use Rattle.std.specs.Option.{option_map_or}
use Rattle.vhpi_values.specs.Formats.{first}
use Rattle.vhpi_values.specs.declared.types.IndexRange.{IndexRange}
use Rattle.sim_elaborated.specs.declared.expressions.Object.{Object}
use Rattle.sim_elaborated.specs.declared.expressions.Operator.{Operator}
use Rattle.sim_elaborated.specs.declared.expressions.AggregateBounds.{AggregateBounds}
use Rattle.sim_elaborated.specs.declared.expressions.Choice.{Choice}
use Rattle.sim_elaborated.specs.declared.expressions.Expr.{Expr}
use Rattle.sim_elaborated.specs.declared.expressions.Part.{Part}
use Rattle.sim_elaborated.specs.declared.expressions.Association.{Association}
use Rattle.sim_elaborated.specs.declared.expressions.Link.{Link}
use Rattle.sim_elaborated.specs.declared.expressions.Name.{Name}
use Rattle.sim_elaborated.specs.declared.expressions.AggregateBounds.TheOpen.{AggregateBounds-F, Choice-F, Expr-F, Part-F, Association-F, Link-F, Name-F}  -- keep
use Rattle.sim_elaborated.specs.declared.expressions.AggregateBounds.TheFolds.{fold-AggregateBounds, fold-Choice, fold-Expr, fold-Part, fold-Association, fold-Link, fold-Name}  -- keep
use Rattle.sim_operators.specs.declared.fault.Fault.{Fault}
use Rattle.sim_operators.specs.Outcomes.{Outcome, and_then}
use Rattle.sim_operators.specs.Operators.{only, of_truth, decided, applied, applied_unary}
use Rattle.sim_eval.specs.Objects.{Objects, range_of}
use Rattle.sim_eval.specs.Located.{Move, whole, indexed, sliced, moved_by}
use Rattle.sim_eval.specs.Reading.{read, states_at, attribute_of, is_edge, bound_of}
use Rattle.sim_eval.specs.Aggregates.{joined_by, collected_by, between, assembled}
use Rattle.sim_eval.specs.declared.locating.Located.{Located}
use Rattle.sim_eval.specs.declared.aggregates.Chosen.{Chosen}
use Rattle.sim_eval.specs.declared.aggregates.Chosen.TheVariants as chosen
use Rattle.sim_eval.specs.declared.aggregates.Element.{Element}

-- a name: the object, and which of its elements are named
pub record Named : Type 0 where
  pub object : Object
  pub located : Result Located Fault

-- an operator on a left operand: the right one is evaluated only where the left one doesn't decide
abbrev pub Linked : Type 0
Linked = List ℤ → Outcome

abbrev pub joined : Operator → Outcome → Linked
joined operator right left = option_map_or (λ value. Ok value) (decided operator left) (and_then right (λ value. applied operator left value))

-- operators from left to right
abbrev pub linked_by : List ℤ → List Linked → Outcome
linked_by left [] = Ok left
linked_by left (link ∷ links) = and_then (link left) (λ value. linked_by value links)

-- the time, which never passes TIME'HIGH
abbrev pub time_of : Objects → ℕ
time_of env = min env.time (2 ^ 63 - 1)

-- the number of a scalar
abbrev pub number : Outcome → Result ℤ Fault
number outcome = and_then outcome (λ value. Ok (first value))

module _ (env : Objects) where
  abbrev pub bounds_step : AggregateBounds-F (Result (Option IndexRange) Fault) (Result Chosen Fault) Outcome Move (Result Element Fault) Linked Named → Result (Option IndexRange) Fault
  bounds_step AggregateBounds-F.Unknown = Ok None
  bounds_step (AggregateBounds-F.Known range) = Ok (Some range)
  bounds_step (AggregateBounds-F.Of name) = and_then name.located (λ at. Ok at.range)

  abbrev pub choice_step : Choice-F (Result (Option IndexRange) Fault) (Result Chosen Fault) Outcome Move (Result Element Fault) Linked Named → Result Chosen Fault
  choice_step (Choice-F.Value value) = and_then value (λ v. Ok (chosen.Value v))
  choice_step (Choice-F.Range left is_ascending right) = and_then (number left) (λ from. and_then (number right) (λ to. Ok (between from is_ascending to)))
  choice_step Choice-F.Others = Ok chosen.Others

  abbrev pub expr_step : Expr-F (Result (Option IndexRange) Fault) (Result Chosen Fault) Outcome Move (Result Element Fault) Linked Named → Outcome
  expr_step (Expr-F.Number n) = Ok (only n)
  expr_step (Expr-F.Text positions) = Ok (map pos positions)
  expr_step (Expr-F.Name name) = and_then name.located (λ at. Ok (read env name.object at))
  expr_step (Expr-F.Signal attribute name) = and_then name.located (λ at. Ok (attribute_of attribute (states_at env name.object at)))
  expr_step (Expr-F.Bound bound name) = and_then name.located (λ at. Ok (only (bound_of bound at.range)))
  expr_step (Expr-F.Edge edge name) = and_then name.located (λ at. Ok (of_truth (list_any (is_edge edge) (states_at env name.object at))))
  expr_step Expr-F.Now = Ok (only (pos (time_of env)))
  expr_step (Expr-F.Unary operator operand) = and_then operand (λ value. applied_unary operator value)
  expr_step (Expr-F.Chain first links) = and_then first (λ value. linked_by value links)
  expr_step (Expr-F.Positional items) = joined_by [] items
  expr_step (Expr-F.Named bounds associations) = and_then bounds (λ place. and_then (collected_by [] associations) (λ elements. Ok (assembled place elements)))

  abbrev pub part_step : Part-F (Result (Option IndexRange) Fault) (Result Chosen Fault) Outcome Move (Result Element Fault) Linked Named → Move
  part_step (Part-F.Index index) at = and_then (number index) (λ n. indexed at n)
  part_step (Part-F.Slice left is_ascending right) at = and_then (number left) (λ from. and_then (number right) (λ to. sliced at from is_ascending to))

  abbrev pub association_step : Association-F (Result (Option IndexRange) Fault) (Result Chosen Fault) Outcome Move (Result Element Fault) Linked Named → Result Element Fault
  association_step association = and_then (collected_by [] association.choices) (λ choices. and_then (number association.value) (λ n. Ok (record { choices = choices; number = n })))

  abbrev pub link_step : Link-F (Result (Option IndexRange) Fault) (Result Chosen Fault) Outcome Move (Result Element Fault) Linked Named → Linked
  link_step link = joined link.operator link.right

  abbrev pub name_step : Name-F (Result (Option IndexRange) Fault) (Result Chosen Fault) Outcome Move (Result Element Fault) Linked Named → Named
  name_step name = record { object = name.object; located = moved_by (whole (range_of env name.object)) name.parts }

  -- the value of an expression, or its first fault
  abbrev pub meaning : Expr → Outcome
  meaning = fold-Expr (Result (Option IndexRange) Fault) (Result Chosen Fault) Outcome Move (Result Element Fault) Linked Named bounds_step choice_step expr_step part_step association_step link_step name_step

  abbrev pub named : Name → Named
  named = fold-Name (Result (Option IndexRange) Fault) (Result Chosen Fault) Outcome Move (Result Element Fault) Linked Named bounds_step choice_step expr_step part_step association_step link_step name_step

  abbrev pub part_meaning : Part → Move
  part_meaning = fold-Part (Result (Option IndexRange) Fault) (Result Chosen Fault) Outcome Move (Result Element Fault) Linked Named bounds_step choice_step expr_step part_step association_step link_step name_step

  abbrev pub link_meaning : Link → Linked
  link_meaning = fold-Link (Result (Option IndexRange) Fault) (Result Chosen Fault) Outcome Move (Result Element Fault) Linked Named bounds_step choice_step expr_step part_step association_step link_step name_step

  abbrev pub choice_meaning : Choice → Result Chosen Fault
  choice_meaning = fold-Choice (Result (Option IndexRange) Fault) (Result Chosen Fault) Outcome Move (Result Element Fault) Linked Named bounds_step choice_step expr_step part_step association_step link_step name_step

  abbrev pub association_meaning : Association → Result Element Fault
  association_meaning = fold-Association (Result (Option IndexRange) Fault) (Result Chosen Fault) Outcome Move (Result Element Fault) Linked Named bounds_step choice_step expr_step part_step association_step link_step name_step

  abbrev pub bounds_meaning : AggregateBounds → Result (Option IndexRange) Fault
  bounds_meaning = fold-AggregateBounds (Result (Option IndexRange) Fault) (Result Chosen Fault) Outcome Move (Result Element Fault) Linked Named bounds_step choice_step expr_step part_step association_step link_step name_step
