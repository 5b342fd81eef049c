use Rattle.std.proofs.Common.{◌≡◌, ◌++◌, drop}
use Rattle.vhdl_names_overloads.specs.Finds.{flat}
use Rattle.vhdl_names_overloads.proofs.meanings.share_behind.Given as goal

abbrev pub invariant-loop-segment : goal.invariant-loop-segment
invariant-loop-segment l = flat l.segments.items ++ flat (drop l.segment-index l.more) ≡ flat l.initial.segments.items ++ flat l.more
