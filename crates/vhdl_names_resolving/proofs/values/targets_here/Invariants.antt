-- What is found so far, with what the rest gives, is what all give.
use Rattle.std.proofs.Common.{◌≡◌, ◌++◌, map, drop}
use Rattle.vhdl_names_resolving.specs.Values.{target_here}
use Rattle.vhdl_names_resolving.proofs.values.targets_here.Given as goal

abbrev pub invariant-loop-name : goal.invariant-loop-name
invariant-loop-name l = l.targets ++ map (target_here l.text l.around) (drop l.name-index l.names) ≡ map (target_here l.text l.around) l.names
