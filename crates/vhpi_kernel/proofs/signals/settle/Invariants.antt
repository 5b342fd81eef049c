use Rattle.std.proofs.Common.{◌≡◌, ◌++◌}
use Rattle.vhpi_kernel.specs.State.{table}
use Rattle.vhpi_kernel.specs.Index.{updated_value_by, events_by}
use Rattle.vhpi_kernel.proofs.signals.settle.Given as goal

abbrev pub invariant-loop-net : goal.invariant-loop-net
invariant-loop-net l =
    (l.values.items ≡ table l.net (updated_value_by l.index l.active l.waves l.old))
    × (l.journal.items ≡ l.initial.journal.items ++ events_by l.net l.old (updated_value_by l.index l.active l.waves l.old))
