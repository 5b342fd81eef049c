use Rattle.vhpi_kernel.proofs.Waveforms.{rising_transactions}
use Rattle.vhpi_kernel.proofs.signals.run.Goals as goal

pub assign-requires-clause-rising : goal.assign-requires-clause-rising
assign-requires-clause-rising c = rw (c.deref.ensures.value, c.in_ok-new.ensures, c.as_slice-waveform.ensures) (rising_transactions c.args.now c.args.process.now.waveform c.requires.waveform)
