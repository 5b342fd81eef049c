use Rattle.vhpi_kernel.proofs.Wired.{waveforms}
use Rattle.vhpi_kernel.proofs.steps.run_processes.Goals as goal

pub run_all-requires-clause-waveforms : goal.run_all-requires-clause-waveforms
run_all-requires-clause-waveforms c = rw c.as_slice.ensures (waveforms c.args.design.now c.requires.wired.sound)
