use Rattle.std.proofs.Common.{arith}
use Rattle.first_form.specs.Reading.{signal_in}
use Rattle.first_form.proofs.Each.{turns, stops, ends}
use Rattle.first_form.proofs.reading.signals_in.Goals as goal

pub loop-declaration-preserved : goal.loop-declaration-preserved
loop-declaration-preserved c =
    turns (signal_in c.args.text.now) c.args.declarations.now _ _ _ _ _ c.loop-declaration.invariant c.loop-declaration-test.true c.declaration-item.is c.in-Ok.ensures c.in_ok-push-in-Ok.ensures.ok

pub returns-in-Err : goal.returns-in-Err
returns-in-Err c = stops (signal_in c.args.text.now) c.args.declarations.now _ _ _ c.in-Err.fault c.loop-declaration.invariant c.loop-declaration-test.true c.declaration-item.is c.in-Err.ensures

pub returns : goal.returns
returns c = ends (signal_in c.args.text.now) c.args.declarations.now _ _ c.loop-declaration.invariant (omega arith)
