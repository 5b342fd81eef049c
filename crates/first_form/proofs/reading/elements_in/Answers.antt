use Rattle.std.proofs.Common.{arith}
use Rattle.first_form.specs.Reading.{element_in}
use Rattle.first_form.proofs.Each.{turns, stops, ends}
use Rattle.first_form.proofs.reading.elements_in.Goals as goal

pub loop-element-preserved : goal.loop-element-preserved
loop-element-preserved c =
    turns (element_in c.args.text.now) c.args.waveform.now _ _ _ _ _ c.loop-element.invariant c.loop-element-test.true c.element-item.is c.in-Ok.ensures c.in_ok-push-in-Ok.ensures.ok

pub returns-in-Err : goal.returns-in-Err
returns-in-Err c = stops (element_in c.args.text.now) c.args.waveform.now _ _ _ c.in-Err.fault c.loop-element.invariant c.loop-element-test.true c.element-item.is c.in-Err.ensures

pub returns : goal.returns
returns c = ends (element_in c.args.text.now) c.args.waveform.now _ _ c.loop-element.invariant (omega arith)
