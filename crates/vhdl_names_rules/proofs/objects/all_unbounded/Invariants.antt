use Rattle.std.proofs.Common.{◌≡◌, ◌++◌, drop}
use Rattle.std.specs.List.{flat_map}
use Rattle.vhdl_names_rules.specs.Objects.{unbounded}
use Rattle.vhdl_names_rules.proofs.objects.all_unbounded.Given as goal

abbrev pub invariant-loop-name : goal.invariant-loop-name
invariant-loop-name l = l.faults ++ flat_map unbounded (drop l.name-index l.names) ≡ flat_map unbounded l.names
