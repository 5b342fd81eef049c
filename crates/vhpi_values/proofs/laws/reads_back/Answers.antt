use Rattle.vhpi_values.proofs.BackAgain.{reads-back}
use Rattle.vhpi_values.proofs.laws.reads_back.Goals as goal

pub returns : goal.returns
returns c = reads-back
