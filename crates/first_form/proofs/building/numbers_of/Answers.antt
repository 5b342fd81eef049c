use Rattle.first_form.proofs.Names.{clashes, numbered}
use Rattle.first_form.proofs.building.numbers_of.Goals as goal

pub loop-number-preserved : goal.loop-number-preserved
loop-number-preserved c =
    numbered c.loop-number.numbers c.add_number.new.numbers _ _ _ c.loop-number-test.true (rw c.as_slice.ensures c.index-signals-number.is) c.loop-number.invariant c.in-Ok.ensures

pub returns-in-Err : goal.returns-in-Err
returns-in-Err c =
    clashes _ c.loop-number.numbers c.add_number.new.numbers _ _ _ c.loop-number-test.true (rw c.as_slice.ensures c.index-signals-number.is) c.loop-number.invariant c.in-Err.ensures
