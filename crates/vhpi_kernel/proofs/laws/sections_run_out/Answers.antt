use Rattle.vhpi_kernel.proofs.Falls.{section_falls}
use Rattle.vhpi_kernel.proofs.laws.sections_run_out.Goals as goal

pub returns : goal.returns
returns c = section_falls
