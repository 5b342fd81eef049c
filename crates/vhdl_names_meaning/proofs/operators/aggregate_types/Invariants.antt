use Rattle.std.proofs.Common.{◌≡◌, map, drop}
use Rattle.std.specs.Prelude.{fold}
use Rattle.vhdl_names_meaning.specs.Operators.{item_types}
use Rattle.vhdl_names_operators.specs.Literals.{aggregates, narrowed}
use Rattle.vhdl_names_meaning.proofs.operators.aggregate_types.Given as goal

abbrev pub invariant-loop-item : goal.invariant-loop-item
invariant-loop-item l = fold narrowed l.types (map item_types (drop l.item-index l.items)) ≡ aggregates (map item_types l.items)
