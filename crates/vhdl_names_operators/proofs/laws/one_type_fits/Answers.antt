use Rattle.vhdl_names_operators.proofs.Sharing.{one_fits}
use Rattle.vhdl_names_operators.proofs.laws.one_type_fits.Goals as goal

pub returns : goal.returns
returns c = one_fits
