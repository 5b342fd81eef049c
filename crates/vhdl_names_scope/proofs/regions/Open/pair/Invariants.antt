use Rattle.std.proofs.Common.{take, reverse}
use Rattle.std.specs.Prelude.{map}
use Rattle.vhdl_names_scope.specs.Nesting.{single}
use Rattle.vhdl_names_scope.specs.Pairs.{BothSeen}
use Rattle.vhdl_names_scope.proofs.regions.Open.pair.Given as goal

abbrev pub invariant-loop-parameter : goal.invariant-loop-parameter
invariant-loop-parameter l = BothSeen l.left l.right (map single (reverse (take l.parameter-index l.parameter-items))) l.initial.all l.all
