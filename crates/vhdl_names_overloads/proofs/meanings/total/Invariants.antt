use Rattle.std.proofs.Common.{◌≡◌, ◌+◌, length, drop}
use Rattle.vhdl_names_overloads.specs.Finds.{flat}
use Rattle.vhdl_names_overloads.proofs.meanings.total.Given as goal

abbrev pub invariant-loop-segment : goal.invariant-loop-segment
invariant-loop-segment l = l.len + length (flat (drop l.segment-index l.segments)) ≡ length (flat l.segments)
