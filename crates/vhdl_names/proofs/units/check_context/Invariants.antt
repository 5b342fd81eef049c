-- The walk so far goes on along the rest.
use Rattle.std.proofs.Common.{◌≡◌, drop}
use Rattle.std.specs.List.{flat_map}
use Rattle.vhdl_names_checker.specs.Progress.{walk}
use Rattle.vhdl_names.specs.Units.{of_context}
use Rattle.vhdl_names.proofs.units.check_context.Given as goal

abbrev pub invariant-loop-clause : goal.invariant-loop-clause
invariant-loop-clause l = walk (flat_map of_context (drop l.clause-index l.context)) l.checker ≡ walk (flat_map of_context l.context) l.initial.checker
