use Rattle.vhdl_reader.proofs.Cut.{one_fault}
use Rattle.vhdl_reader.proofs.design.one_syntax_fault.Goals as goal

pub returns : goal.returns
returns c = one_fault
