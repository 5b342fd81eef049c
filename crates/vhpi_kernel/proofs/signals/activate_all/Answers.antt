use Rattle.std.proofs.Common.{◌<◌, arith, length}
use Rattle.vhpi_kernel.proofs.Parts.{advanced_more, active_more, advanced_done}
use Rattle.vhpi_kernel.proofs.signals.activate_all.Goals as goal

pub loop-wave-preserved : goal.loop-wave-preserved
loop-wave-preserved c =
    let within : c.loop-wave.wave-index < length c.args.waves.now = omega arith in (
      advanced_more c.args.now c.loop-wave.wave-index c.args.waves.now c.loop-wave.waves c.wave-item.result c.activate.new.self within c.loop-wave.invariant.0 c.activate.ensures.changed,
      active_more c.args.now c.loop-wave.wave-index c.args.waves.now c.loop-wave.waves c.wave-item.result c.loop-wave.active.items c.push.new.self.items c.activate.result within c.loop-wave.invariant.0 c.activate.ensures.active c.loop-wave.invariant.1 c.in_ok-push.ensures.items,
    )

pub returns-clause-waves : goal.returns-clause-waves
returns-clause-waves c = advanced_done c.args.now c.loop-wave.wave-index c.args.waves.now c.loop-wave.waves (omega arith) c.loop-wave.invariant.0
