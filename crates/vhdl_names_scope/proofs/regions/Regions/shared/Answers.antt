use Rattle.std.proofs.Common.{◌∙◌, ap}
use Rattle.vhdl_names_overloads.specs.Sharing.{TypesOfTwo, shared}
use Rattle.vhdl_names_scope.proofs.Seen_pairs.{none_between, region_more, regions_all}
use Rattle.vhdl_names_scope.proofs.regions.Regions.shared.Goals as goal

pub loop-region-preserved : goal.loop-region-preserved
loop-region-preserved c =
    region_more _ _ _ _ _ _ c.loop-region.pair _ c.loop-region-test.true c.region-item.is c.loop-region.invariant c.in_ok-pair.ensures

pub returns : goal.returns
returns c =
    rw (← c.self.view_is, ← c.deref-region-items.ensures.value)
    (c.shared.ensures
    ∙ ap (λ (t : TypesOfTwo). shared t.left t.right)
    (regions_all _ _ _ _ c.self.inside.inner c.new-pair.result c.loop-region.pair c.in_ok-all.all c.loop-region-test.false c.new-pair.ensures c.loop-region.invariant c.in_ok-all.ensures))
