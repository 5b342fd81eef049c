use Rattle.std.proofs.Common.{rules, arith}
use Rattle.std.proofs.lemmas.Grind.{common_steps}
use Rattle.vhdl_reader_statements.specs.Reading.{statements_at}
use Rattle.vhdl_reader_statements.proofs.Turns.{deeper}
use Rattle.vhdl_reader_statements.proofs.sequence.+statements.Goals as goal

pub returns-then-depth-eq0 : goal.returns-then-depth-eq0
unfolding statements_at
returns-then-depth-eq0 t c = first_of (search rules, grind (arith, common_steps))

pub returns : goal.returns
returns t c = deeper c.args.bound c.args.depth c.args.tokens.now c.level.result c.level.new.tokens c.if-depth-eq0.false c.level.ensures
