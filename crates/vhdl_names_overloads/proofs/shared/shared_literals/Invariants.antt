use Rattle.std.proofs.Common.{◌≡◌, drop}
use Rattle.vhdl_names_overloads.specs.Finds.{flat}
use Rattle.vhdl_names_overloads.specs.Sharing.{with_entries}
use Rattle.vhdl_names_overloads.proofs.shared.shared_literals.Given as goal

abbrev pub invariant-loop-segment : goal.invariant-loop-segment
invariant-loop-segment l = with_entries (flat l.others) l.shared (flat (drop l.segment-index l.own)) ≡ with_entries (flat l.others) l.initial.shared (flat l.own)
