use Rattle.std.proofs.Common.{drop}
use Rattle.vhdl_names_overloads.specs.Blocks.{Apart}
use Rattle.vhdl_names_overloads.specs.Finds.{flat}
use Rattle.vhdl_names_overloads.proofs.shared.are_apart.Given as goal

abbrev pub invariant-loop-other : goal.invariant-loop-other
invariant-loop-other l = Apart l.block (flat (drop l.other-index l.others)) → Apart l.block (flat l.others)
