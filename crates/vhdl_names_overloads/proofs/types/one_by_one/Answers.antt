use Rattle.std.proofs.Common.{◌<◌, ◌≤◌, ◌∙◌, ap, subst}
use Rattle.vhdl_names_overloads.specs.Sharing.{if_passes, is_shared, shared}
use Rattle.vhdl_names_overloads.proofs.Together.{type_more, types_all}
use Rattle.vhdl_names_overloads.proofs.types.one_by_one.Goals as goal

pub loop-place-preserved : goal.loop-place-preserved
loop-place-preserved c =
    type_more (is_shared c.args.others.now) _ _ _ c.args.types.now c.loop-place.place (subst (λ n. c.loop-place.place < n) c.len-place-end.ensures c.loop-place-test.true)
    (c.with_type-now.ensures ∙ ap (if_passes (is_shared c.args.others.now) c.loop-place.now) c.get.ensures) c.loop-place.invariant

pub returns : goal.returns
unfolding shared
returns c =
    types_all (is_shared c.args.others.now) _ _ c.args.types.now c.loop-place.place (subst (λ n. n ≤ c.loop-place.place) c.len-place-end.ensures c.loop-place-test.false) c.loop-place.invariant
