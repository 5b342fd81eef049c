use Rattle.std.proofs.Common.{◌≡◌, drop}
use Rattle.vhpi_kernel.specs.State.{sooner, next_of}
use Rattle.vhpi_kernel.proofs.signals.next_time.Given as goal

abbrev pub invariant-loop-wave : goal.invariant-loop-wave
invariant-loop-wave l = sooner l.next (next_of (drop l.wave-index l.waves)) ≡ next_of l.waves
