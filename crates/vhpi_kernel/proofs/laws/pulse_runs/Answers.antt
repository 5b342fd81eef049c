use Rattle.std.specs.Fmt.{digits}
use Rattle.std.proofs.Common.{refl}
use Rattle.vhpi_kernel.proofs.laws.pulse_runs.Goals as goal
use Rattle.vhpi_kernel.proofs.Worked.{whole, short}

pub returns : goal.returns
unfolding digits
returns c = (whole, short, refl)
