use Rattle.std.proofs.Common.{◌≡◌, drop, true}
use Rattle.std.specs.List.{list_all}
use Rattle.sim_design.specs.Design.{is_waveform}
use Rattle.vhpi_kernel.proofs.Parts.{ran_part}
use Rattle.vhpi_kernel.proofs.signals.run_all.Given as goal

abbrev pub invariant-loop-number : goal.invariant-loop-number
invariant-loop-number l =
    (l.waves ≡ ran_part l.now l.number l.processes l.initial.waves)
    × (list_all (λ p. is_waveform p.waveform) (drop l.number l.processes) ≡ true)
