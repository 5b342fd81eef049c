use Rattle.std.proofs.Common.{◌≡◌, ◌++◌, length, reverse}
use Rattle.std.specs.List.{flat_map}
use Rattle.vhdl_names_rules.specs.Statements.{sensitive_faults}
use Rattle.vhdl_names_rules.proofs.statements.sensitivity_faults.Given as goal

abbrev pub invariant-loop-name : goal.invariant-loop-name
invariant-loop-name l = l.faults ++ flat_map sensitive_faults (reverse l.rest) ≡ flat_map sensitive_faults l.fn.names

abbrev pub decreases-loop-name : goal.decreases-loop-name
decreases-loop-name l = length l.rest
