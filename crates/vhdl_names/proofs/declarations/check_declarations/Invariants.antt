-- The walk so far goes on along the rest.
use Rattle.std.proofs.Common.{drop, map}
use Rattle.vhdl_names.specs.Statements.{of_declaration}
use Rattle.vhdl_names.proofs.Walks.{Reaches}
use Rattle.vhdl_names.proofs.declarations.check_declarations.Given as goal

abbrev pub invariant-loop-declaration : goal.invariant-loop-declaration
invariant-loop-declaration l = Reaches l.resolved (map of_declaration (drop l.declaration-index l.declarations)) l.checker (map of_declaration l.declarations) l.initial.checker
