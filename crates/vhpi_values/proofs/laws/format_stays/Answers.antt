use Rattle.vhpi_values.proofs.BackAgain.{format-stays}
use Rattle.vhpi_values.proofs.laws.format_stays.Goals as goal

pub returns : goal.returns
returns c = format-stays
