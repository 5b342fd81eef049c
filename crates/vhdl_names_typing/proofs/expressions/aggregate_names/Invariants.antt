use Rattle.std.proofs.Common.{◌≡◌, ◌++◌, drop}
use Rattle.std.specs.List.{flat_map}
use Rattle.vhdl_names_typing.specs.Expressions.{item_names}
use Rattle.vhdl_names_typing.proofs.expressions.aggregate_names.Given as goal

abbrev pub invariant-loop-item : goal.invariant-loop-item
invariant-loop-item l = l.faults ++ flat_map item_names (drop l.item-index l.items) ≡ flat_map item_names l.items
