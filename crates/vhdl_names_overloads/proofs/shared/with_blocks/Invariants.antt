use Rattle.std.proofs.Common.{◌≡◌, drop}
use Rattle.vhdl_names_overloads.specs.Blocks.{Covers}
use Rattle.vhdl_names_overloads.specs.Finds.{flat}
use Rattle.vhdl_names_overloads.specs.Sharing.{with_entries}
use Rattle.vhdl_names_overloads.proofs.shared.with_blocks.Given as goal

abbrev pub invariant-loop-run : goal.invariant-loop-run
invariant-loop-run l =
    Covers l.start (drop l.run-index l.blocks.closed.items) l.blocks.current l.entries
    × (with_entries (flat l.others) l.now (drop l.start l.entries) ≡ with_entries (flat l.others) l.initial.now l.entries)
