use Rattle.std.proofs.Common.{rules, arith}
use Rattle.std.proofs.lemmas.Grind.{common_steps}
use Rattle.vhdl_tree.specs.Expressions.{bracketed}
use Rattle.vhdl_reader_expressions.proofs.Lone.{lone_value, lone_aggregate}
use Rattle.vhdl_reader_expressions.proofs.grammar.lone.Goals as goal

pub returns-then-is_empty : goal.returns-then-is_empty
unfolding bracketed
returns-then-is_empty c = lone_value c.args.place c.args.item c.args.item.choices c.args.item.value (search rules)

pub returns : goal.returns
unfolding bracketed
returns c = first_of (search (rules, lone_aggregate), grind (arith, common_steps, lone_aggregate c.args.place c.args.item c.args.item.choices c.args.item.value (λ e. grind (arith, e, common_steps))))
