use Rattle.std.proofs.Common.{◌≡◌, ◌++◌, drop}
use Rattle.std.specs.List.{flat_map}
use Rattle.vhdl_names_rules.specs.Units.{library_fault}
use Rattle.vhdl_names_rules.proofs.units.library_faults.Given as goal

abbrev pub invariant-loop-token : goal.invariant-loop-token
invariant-loop-token l = l.faults ++ flat_map (library_fault l.text) (drop l.token-index l.tokens) ≡ flat_map (library_fault l.text) l.tokens
