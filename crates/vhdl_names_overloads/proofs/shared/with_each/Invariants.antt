use Rattle.std.proofs.Common.{◌≡◌, ◌≤◌, drop}
use Rattle.vhdl_names_overloads.specs.Finds.{flat}
use Rattle.vhdl_names_overloads.specs.Sharing.{with_entries}
use Rattle.vhdl_names_overloads.proofs.shared.with_each.Given as goal

abbrev pub invariant-loop-place : goal.invariant-loop-place
invariant-loop-place l = (l.place ≤ l.end) × (with_entries (flat l.others) l.now (drop l.place l.entries) ≡ with_entries (flat l.others) l.initial.now (drop l.start l.entries))
