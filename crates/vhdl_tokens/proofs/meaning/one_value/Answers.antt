use Rattle.vhdl_tokens.proofs.Values.{one_text}
use Rattle.vhdl_tokens.proofs.meaning.one_value.Goals as goal

pub returns-clause-text : goal.returns-clause-text
returns-clause-text c = one_text
