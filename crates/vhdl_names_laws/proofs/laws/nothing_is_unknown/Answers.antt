use Rattle.vhdl_names_laws.proofs.DesignFiles.{design_known}
use Rattle.vhdl_names_laws.proofs.laws.nothing_is_unknown.Goals as goal

pub returns : goal.returns
returns c = design_known
