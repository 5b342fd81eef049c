use Rattle.vhdl_names_rules.proofs.Taking.{nothing_taken}
use Rattle.vhdl_names_rules.proofs.associations.none_taken.Goals as goal

pub returns : goal.returns
returns c = λ formals. nothing_taken formals c.new.result c.new.ensures.empty
