use Rattle.std.proofs.Common.{◌≡◌, List, subst}
use Rattle.std.specs.Prelude.{IfOk}
use Rattle.vhdl_units.specs.declared.entry.Entry.{Entry}
use Rattle.vhdl_names_scope.proofs.Open_regions.{one_more_seen, all_seen}
use Rattle.vhdl_names_scope.proofs.regions.Regions.meanings.Goals as goal

pub loop-region-preserved : goal.loop-region-preserved
loop-region-preserved c =
    one_more_seen _ _ _ _ _ _ c.loop-region-test.true c.region-item.is c.loop-region.invariant c.in_ok-found.ensures

pub returns : goal.returns
returns c =
    rw (← c.self.view_is, ← c.deref-region-items.ensures.value)
    (subst (λ (xs : List Entry). IfOk c.seen-2.result (λ v. v ≡ xs)) (all_seen _ _ _ c.self.inside.inner _ c.loop-region-test.false c.loop-region.invariant) c.seen-2.ensures)
