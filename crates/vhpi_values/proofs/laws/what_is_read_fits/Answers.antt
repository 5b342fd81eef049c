use Rattle.vhpi_values.proofs.Within.{reading-fits}
use Rattle.vhpi_values.proofs.laws.what_is_read_fits.Goals as goal

pub returns : goal.returns
returns c = reading-fits
