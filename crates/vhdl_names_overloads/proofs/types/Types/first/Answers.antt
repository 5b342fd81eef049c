use Rattle.vhdl_names_overloads.proofs.Lists.{begins_with}
use Rattle.vhdl_names_overloads.proofs.types.Types.first.Goals as goal

pub returns : goal.returns
returns c = begins_with c.get.result c.args.self.now c.get.ensures
