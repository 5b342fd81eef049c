use Rattle.std.proofs.Common.{arith}
use Rattle.first_form.specs.Reading.{statement_in}
use Rattle.first_form.proofs.Each.{turns, stops, ends}
use Rattle.first_form.proofs.reading.assignments_in.Goals as goal

pub loop-statement-preserved : goal.loop-statement-preserved
loop-statement-preserved c =
    turns (statement_in c.args.text.now) c.args.statements.now _ _ _ _ _ c.loop-statement.invariant c.loop-statement-test.true c.statement-item.is c.in-Ok.ensures c.in_ok-push-in-Ok.ensures.ok

pub returns-in-Err : goal.returns-in-Err
returns-in-Err c = stops (statement_in c.args.text.now) c.args.statements.now _ _ _ c.in-Err.fault c.loop-statement.invariant c.loop-statement-test.true c.statement-item.is c.in-Err.ensures

pub returns : goal.returns
returns c = ends (statement_in c.args.text.now) c.args.statements.now _ _ c.loop-statement.invariant (omega arith)
