-- The loops that are left stand outside of all that were counted.
use Rattle.std.proofs.Common.{◌≡◌, ◌+◌, length, reverse}
use Rattle.vhdl_names_checker.specs.Faults.{loops_within}
use Rattle.vhdl_names_checker.proofs.surroundings.count_within.Given as goal

abbrev pub invariant-loop-rest : goal.invariant-loop-rest
invariant-loop-rest l = record {
  counted : l.count + loops_within l.label (reverse l.rest) ≡ loops_within l.label (reverse l.loops);
  lengths : l.count + length l.rest ≡ length l.loops;
}

abbrev pub decreases-loop-rest : goal.decreases-loop-rest
decreases-loop-rest l = length l.rest
