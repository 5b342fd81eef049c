use Rattle.vhdl_tokens.proofs.Pieces.{only_list, only_fault}
use Rattle.vhdl_tokens.proofs.Spelled.{ok_spelled, ok_in_order}
use Rattle.vhdl_tokens.proofs.reading.tokens.Goals as goal

pub returns-clause-only_list : goal.returns-clause-only_list
returns-clause-only_list c = only_list (λ v. v.items) c.args.text.now c.read.result c.read.ensures.tokens c.read.ensures.refusal

pub returns-clause-only_fault : goal.returns-clause-only_fault
returns-clause-only_fault c = only_fault (λ v. v.items) c.args.text.now c.read.result c.read.ensures.tokens c.read.ensures.refusal

pub returns-clause-spelled : goal.returns-clause-spelled
returns-clause-spelled c = ok_spelled (λ v. v.items) c.args.text.now c.read.result c.read.ensures.tokens

pub returns-clause-in_order : goal.returns-clause-in_order
returns-clause-in_order c = ok_in_order (λ v. v.items) c.args.text.now c.read.result c.read.ensures.tokens
