use Rattle.vhpi_values.proofs.Misfits.{first-misfit}
use Rattle.vhpi_values.proofs.laws.refuses_at_first_misfit.Goals as goal

pub returns : goal.returns
returns c = λ ty from place e. first-misfit _ _ place e
