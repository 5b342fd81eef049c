-- The walk so far goes on along the rest.
use Rattle.std.proofs.Common.{drop, map}
use Rattle.vhdl_names.specs.Parts.{with_last}
use Rattle.vhdl_names.specs.Statements.{of_arm, of_elsif, of_statement}
use Rattle.vhdl_names.proofs.Walks.{Reaches}
use Rattle.vhdl_names.proofs.statements.+statement.Given as goal

abbrev pub invariant-check_statements-loop-statement : goal.invariant-check_statements-loop-statement
invariant-check_statements-loop-statement l =
    Reaches l.resolved (map of_statement (drop l.statement-index l.statements)) l.checker (map of_statement l.statements) l.initial.checker

abbrev pub invariant-check_elsifs-loop-elsif : goal.invariant-check_elsifs-loop-elsif
invariant-check_elsifs-loop-elsif l =
    Reaches l.resolved (map of_elsif (drop l.elsif-index l.elsifs)) l.checker (map of_elsif l.elsifs) l.initial.checker

abbrev pub invariant-check_arms-loop-position : goal.invariant-check_arms-loop-position
invariant-check_arms-loop-position l =
    Reaches l.resolved (with_last (map of_arm (drop l.position l.arms))) l.checker (with_last (map of_arm l.arms)) l.initial.checker
