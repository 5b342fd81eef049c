use Rattle.std.proofs.Common.{◌≡◌, ◌++◌, drop}
use Rattle.vhdl_names_overloads.proofs.table.Table.copy.Given as goal

abbrev pub invariant-loop-entry : goal.invariant-loop-entry
invariant-loop-entry l = l.table ++ drop l.entry-index l.entry-items ≡ l.entry-items
