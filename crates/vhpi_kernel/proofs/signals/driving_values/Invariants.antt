use Rattle.std.proofs.Common.{◌≡◌}
use Rattle.vhpi_kernel.specs.State.{table}
use Rattle.vhpi_kernel.specs.Index.{indexed_value}
use Rattle.vhpi_kernel.proofs.signals.driving_values.Given as goal

abbrev pub invariant-loop-net : goal.invariant-loop-net
invariant-loop-net l = l.values.items ≡ table l.net (indexed_value l.nets l.index l.waves)
