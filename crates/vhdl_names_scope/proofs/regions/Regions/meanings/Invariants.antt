use Rattle.std.proofs.Common.{◌≡◌, [], take, reverse}
use Rattle.std.specs.List.{flat_map}
use Rattle.vhdl_names_scope.specs.Hiding.{seen}
use Rattle.vhdl_names_scope.specs.Nesting.{regions_in}
use Rattle.vhdl_names_scope.proofs.regions.Regions.meanings.Given as goal

abbrev pub invariant-loop-region : goal.invariant-loop-region
invariant-loop-region l = l.found ≡ seen l.name (flat_map regions_in (reverse (take l.region-index l.region-items))) []
