use Rattle.std.proofs.Common.{◌-◌, ◌∷◌}
use Rattle.sim_waves.proofs.Marks.{rising_take, earlier_at}
use Rattle.sim_waves.proofs.Cuts.{transport_cuts, inertial_cuts}
use Rattle.sim_waves.specs.Waveform.{earlier}
use Rattle.sim_waves.proofs.edits.plan_cuts.Goals as goal

pub unmarked_range-requires : goal.unmarked_range-requires
unmarked_range-requires c = rising_take c.count_earlier-kept.result c.args.pending.now c.requires.rising

pub returns-in-Transport-clause-assigned : goal.returns-in-Transport-clause-assigned
returns-in-Transport-clause-assigned c =
    λ ns. transport_cuts c.args.mode (c.args.first.time - c.args.reject) (earlier c.args.first.time c.args.pending.now) c.args.pending.now (c.args.first ∷ ns) c.count_earlier-kept.result c.in-Transport.is
    (earlier_at c.args.first.time c.args.pending.now c.count_earlier-kept.result c.count_earlier-kept.ensures.before c.count_earlier-kept.ensures.after)

pub returns-in-Inertial-clause-assigned : goal.returns-in-Inertial-clause-assigned
returns-in-Inertial-clause-assigned c =
    λ ns. inertial_cuts c.args.mode (c.args.first.time - c.args.reject) (earlier c.args.first.time c.args.pending.now) c.args.pending.now (c.args.first ∷ ns) c.count_earlier-kept.result c.unmarked_range.result.0 c.unmarked_range.result.1 c.in-Inertial.is
    (earlier_at c.args.first.time c.args.pending.now c.count_earlier-kept.result c.count_earlier-kept.ensures.before c.count_earlier-kept.ensures.after)
    c.unmarked_range.ensures.order c.unmarked_range.ensures.within (c.unmarked_range.ensures.marked ns)
