use Rattle.vhdl_names_scope.proofs.Seen_pairs.{loop_more, loops_all}
use Rattle.vhdl_names_scope.proofs.regions.Open.pair.Goals as goal

pub loop-parameter-preserved : goal.loop-parameter-preserved
loop-parameter-preserved c =
    loop_more _ _ _ _ _ _ c.loop-parameter.all _ c.loop-parameter-test.true c.parameter-item.is c.loop-parameter.invariant c.in_ok-all-2.ensures

pub returns : goal.returns
returns c =
    rw (← c.self.view_is, ← c.deref-parameter-items.ensures.value)
    (loops_all _ _ _ _ _ c.args.around c.in_ok-all.all c.loop-parameter.all c.loop-parameter-test.false c.in_ok-all.ensures c.loop-parameter.invariant)
