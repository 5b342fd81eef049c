use Rattle.vhdl_names_overloads.proofs.Covered.{fresh}
use Rattle.vhdl_names_overloads.proofs.blocks.Blocks.new.Goals as goal

pub returns : goal.returns
returns c = fresh _ c.new-2.ensures.items
