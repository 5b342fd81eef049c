use Rattle.std.proofs.Common.{sym, ap, drop, ◌∙◌, length}
use Rattle.sim_waves.proofs.Cuts.{assigned_by_cuts, rising_by_cuts}
use Rattle.sim_waves.proofs.edits.assign_behind.Goals as goal

pub returns-clause-rising : goal.returns-clause-rising
returns-clause-rising c = rising_by_cuts c.args.items.now.items c.args.new.now c.extend_from_slice.new.self.items c.split_at.result.1.now _ c.args.done c.len-before.result c.plan_cuts-cuts.result.from c.plan_cuts-cuts.result.to c.plan_cuts-cuts.result.kept c.remove_range.new.items.items c.remove_range-2.new.items.items
    (c.split_at.ensures.back ∙ ap (drop c.args.done) c.as_slice.ensures.value) c.requires.some c.requires.rising c.requires.new c.plan_cuts-cuts.ensures.order c.plan_cuts-cuts.ensures.earlier c.in_ok-extend_from_slice.ensures.items c.requires.done (c.len-before.ensures ∙ sym c.as_slice.ensures.len ∙ ap length c.as_slice.ensures.value) c.plan_cuts-cuts.ensures.kept c.remove_range.ensures c.remove_range-2.ensures

pub returns-clause-ok : goal.returns-clause-ok
returns-clause-ok c = assigned_by_cuts c.args.mode c.args.reject c.args.items.now.items c.args.new.now c.extend_from_slice.new.self.items c.split_at.result.1.now _ c.args.done c.len-before.result c.plan_cuts-cuts.result.from c.plan_cuts-cuts.result.to c.plan_cuts-cuts.result.kept c.remove_range.new.items.items c.remove_range-2.new.items.items
    (c.split_at.ensures.back ∙ ap (drop c.args.done) c.as_slice.ensures.value) c.requires.some c.plan_cuts-cuts.ensures.assigned c.in_ok-extend_from_slice.ensures.items c.requires.done (c.len-before.ensures ∙ sym c.as_slice.ensures.len ∙ ap length c.as_slice.ensures.value) c.plan_cuts-cuts.ensures.kept c.remove_range.ensures c.remove_range-2.ensures
