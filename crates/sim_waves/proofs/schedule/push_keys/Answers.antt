use Rattle.std.proofs.Common.{◌∷◌, [], ◌∙◌, ap, ◌++◌, append_assoc, List, ℕ}
use Rattle.std.specs.BTreeSet.{contains}
use Rattle.sim_waves.specs.Calendar.{pair_cmp}
use Rattle.sim_waves.proofs.Keys.{push_step, push_end}
use Rattle.sim_waves.proofs.schedule.push_keys.Goals as goal

pub loop-from-preserved : goal.loop-from-preserved
loop-from-preserved c =
    let more = c.loop-from.invariant.1 in (
      push_step c.args.times.now (contains pair_cmp c.args.order.now) c.args.now c.loop-from.from c.in-Some.key c.loop-from.into.items c.push.new.self.items c.args.into.now.items c.requires c.in-Some.ensures c.in_ok-push.ensures.items c.loop-from.invariant.0,
      (more.0 ++ c.in-Some.key ∷ [], c.in_ok-push.ensures.items ∙ (ap (λ (l : List ℕ). l ++ c.in-Some.key ∷ []) more.1 ∙ append_assoc c.args.into.now.items more.0 (c.in-Some.key ∷ []))),
    )

pub returns-in_default-clause-ok : goal.returns-in_default-clause-ok
returns-in_default-clause-ok c = push_end c.args.times.now (contains pair_cmp c.args.order.now) c.args.now c.loop-from.from c.loop-from.into.items c.args.into.now.items c.requires c.in_default.ensures c.loop-from.invariant.0
