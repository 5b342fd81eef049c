-- The walk so far goes on along the rest.
use Rattle.std.proofs.Common.{drop, map}
use Rattle.vhdl_names.specs.Units.{of_concurrent}
use Rattle.vhdl_names.proofs.Walks.{Reaches}
use Rattle.vhdl_names.proofs.units.check_concurrent_statements.Given as goal

abbrev pub invariant-loop-statement : goal.invariant-loop-statement
invariant-loop-statement l = Reaches l.resolved (map of_concurrent (drop l.statement-index l.statements)) l.checker (map of_concurrent l.statements) l.initial.checker
