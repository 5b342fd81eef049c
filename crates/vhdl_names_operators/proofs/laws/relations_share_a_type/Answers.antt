use Rattle.vhdl_names_operators.proofs.Sharing.{shares}
use Rattle.vhdl_names_operators.proofs.laws.relations_share_a_type.Goals as goal

pub returns : goal.returns
returns c = shares
