use Rattle.std.proofs.Common.{◌≡◌, ◌++◌, drop}
use Rattle.std.specs.List.{flat_map}
use Rattle.vhdl_names_typing.specs.Expressions.{item_typing}
use Rattle.vhdl_names_typing.proofs.expressions.items_typing.Given as goal

abbrev pub invariant-loop-item : goal.invariant-loop-item
invariant-loop-item l = l.faults ++ flat_map item_typing (drop l.item-index l.items) ≡ flat_map item_typing l.items
