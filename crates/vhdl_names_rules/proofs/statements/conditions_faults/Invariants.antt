use Rattle.std.proofs.Common.{◌≡◌, ◌++◌, length, reverse}
use Rattle.std.specs.List.{flat_map}
use Rattle.vhdl_names_rules.specs.Values.{tested}
use Rattle.vhdl_names_rules.proofs.statements.conditions_faults.Given as goal

abbrev pub invariant-loop-condition : goal.invariant-loop-condition
invariant-loop-condition l = l.faults ++ flat_map tested (reverse l.rest) ≡ flat_map tested l.fn.conditions

abbrev pub decreases-loop-condition : goal.decreases-loop-condition
decreases-loop-condition l = length l.rest
