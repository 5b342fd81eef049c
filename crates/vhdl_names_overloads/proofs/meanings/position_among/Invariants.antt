use Rattle.std.proofs.Common.{◌≡◌, drop}
use Rattle.vhdl_names_overloads.specs.Finds.{flat}
use Rattle.vhdl_names_overloads.specs.Literals.{position_of}
use Rattle.vhdl_names_overloads.proofs.meanings.position_among.Given as goal

abbrev pub invariant-loop-segment : goal.invariant-loop-segment
invariant-loop-segment l = position_of l.base (flat (drop l.segment-index l.segments)) ≡ position_of l.base (flat l.segments)
