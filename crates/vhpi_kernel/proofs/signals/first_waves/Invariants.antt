use Rattle.std.proofs.Common.{◌≡◌, map, take}
use Rattle.vhpi_kernel.specs.State.{first_wave}
use Rattle.vhpi_kernel.proofs.signals.first_waves.Given as goal

abbrev pub invariant-loop-process : goal.invariant-loop-process
invariant-loop-process l = l.waves.items ≡ map (first_wave l.design) (take l.process-index l.process-items)
