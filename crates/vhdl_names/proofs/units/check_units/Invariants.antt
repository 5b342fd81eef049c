-- The walk so far goes on along the rest.
use Rattle.std.proofs.Common.{drop, map}
use Rattle.vhdl_names.specs.Units.{of_unit}
use Rattle.vhdl_names.proofs.Walks.{Reaches}
use Rattle.vhdl_names.proofs.units.check_units.Given as goal

abbrev pub invariant-loop-unit : goal.invariant-loop-unit
invariant-loop-unit l = Reaches l.resolved (map (of_unit l.fn.text) (drop l.unit-index l.units)) l.checker (map (of_unit l.fn.text) l.units) l.initial.checker
