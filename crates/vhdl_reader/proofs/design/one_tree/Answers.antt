use Rattle.vhdl_reader.proofs.Parsed.{one_sentence}
use Rattle.vhdl_reader.proofs.design.one_tree.Goals as goal

pub returns : goal.returns
returns c = one_sentence
