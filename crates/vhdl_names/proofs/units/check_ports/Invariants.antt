-- The walk so far goes on along the rest.
use Rattle.std.proofs.Common.{drop, map}
use Rattle.vhdl_names.specs.Units.{of_port}
use Rattle.vhdl_names.proofs.Walks.{Reaches}
use Rattle.vhdl_names.proofs.units.check_ports.Given as goal

abbrev pub invariant-loop-port : goal.invariant-loop-port
invariant-loop-port l = Reaches l.resolved (map of_port (drop l.port-index l.ports)) l.checker (map of_port l.ports) l.initial.checker
