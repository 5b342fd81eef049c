-- What is added so far, and what the rest adds.
use Rattle.std.proofs.Common.{◌≡◌, ◌++◌, drop}
use Rattle.std.specs.List.{flat_map}
use Rattle.vhdl_names.specs.Units.{architecture_named}
use Rattle.vhdl_names.proofs.architectures.add_architectures.Given as goal

abbrev pub invariant-loop-unit : goal.invariant-loop-unit
invariant-loop-unit l =
    l.region ++ flat_map (λ u. architecture_named l.text u.unit) (drop l.unit-index l.units) ≡ l.initial.region ++ flat_map (λ u. architecture_named l.text u.unit) l.units
