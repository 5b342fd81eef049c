use Rattle.std.proofs.Common.{◌≡◌, take, reverse}
use Rattle.std.specs.Prelude.{map}
use Rattle.vhdl_names_scope.specs.Hiding.{seen}
use Rattle.vhdl_names_scope.specs.Nesting.{single}
use Rattle.vhdl_names_scope.proofs.regions.Open.seen.Given as goal

abbrev pub invariant-loop-parameter : goal.invariant-loop-parameter
invariant-loop-parameter l = l.all ≡ seen l.name (map single (reverse (take l.parameter-index l.parameter-items))) l.initial.all
