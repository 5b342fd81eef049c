use Rattle.std.proofs.Common.{take}
use Rattle.vhpi_kernel.specs.Index.{IsIndex}
use Rattle.vhpi_kernel.proofs.index.index_drivers.Given as goal

abbrev pub invariant-loop-number : goal.invariant-loop-number
invariant-loop-number l = IsIndex l.index.items l.nets (take l.number l.processes)
