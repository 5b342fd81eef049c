use Rattle.std.proofs.Common.{◌∙◌}
use Rattle.vhdl_reader_expressions.proofs.Lone.{several}
use Rattle.vhdl_reader_expressions.proofs.grammar.bracketed.Goals as goal

pub returns-then-len-ne1 : goal.returns-then-len-ne1
returns-then-len-ne1 c = several c.args.place c.args.items (λ e. c.if-len-ne1.true (c.len.ensures ∙ e))
