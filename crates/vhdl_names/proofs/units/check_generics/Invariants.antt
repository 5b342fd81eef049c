-- The walk so far goes on along the rest.
use Rattle.std.proofs.Common.{drop, map}
use Rattle.vhdl_names.specs.Units.{of_generic}
use Rattle.vhdl_names.proofs.Walks.{Reaches}
use Rattle.vhdl_names.proofs.units.check_generics.Given as goal

abbrev pub invariant-loop-generic : goal.invariant-loop-generic
invariant-loop-generic l = Reaches l.resolved (map of_generic (drop l.generic-index l.generics)) l.checker (map of_generic l.generics) l.initial.checker
