use Rattle.std.proofs.Common.{◌≡◌, map, take}
use Rattle.sim_waves.specs.Waveform.{is_active}
use Rattle.vhpi_kernel.proofs.Parts.{advanced_part}
use Rattle.vhpi_kernel.proofs.signals.activate_all.Given as goal

abbrev pub invariant-loop-wave : goal.invariant-loop-wave
invariant-loop-wave l =
    (l.waves ≡ advanced_part l.now l.wave-index l.initial.waves)
    × (l.active.items ≡ map (is_active l.now) (take l.wave-index l.initial.waves))
