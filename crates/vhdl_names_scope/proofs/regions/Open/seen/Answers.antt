use Rattle.vhdl_names_scope.proofs.Open_regions.{loops_seen}
use Rattle.vhdl_names_scope.proofs.regions.Open.seen.Goals as goal

pub returns : goal.returns
returns c =
    rw (← c.self.view_is, ← c.deref-parameter-items.ensures.value)
    (loops_seen _ _ _ _ _ _ _ c.loop-parameter-test.false c.in_ok-all.ensures c.loop-parameter.invariant)
