use Rattle.std.proofs.Common.{take, reverse}
use Rattle.std.specs.List.{flat_map}
use Rattle.vhdl_names_scope.specs.Nesting.{regions_in}
use Rattle.vhdl_names_scope.specs.Pairs.{BothSeen}
use Rattle.vhdl_names_scope.proofs.regions.Regions.shared.Given as goal

abbrev pub invariant-loop-region : goal.invariant-loop-region
invariant-loop-region l = BothSeen l.left l.right (flat_map regions_in (reverse (take l.region-index l.region-items))) l.initial.pair l.pair
