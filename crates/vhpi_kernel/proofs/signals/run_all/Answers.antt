use Rattle.std.proofs.Common.{◌<◌, length, arith, get_or, ◌∙◌, ap}
use Rattle.vhpi_kernel.specs.State.{ran}
use Rattle.vhpi_kernel.proofs.Parts.{ran_more, ran_done, rest_all}
use Rattle.vhpi_kernel.proofs.signals.run_all.Goals as goal

pub loop-number-preserved : goal.loop-number-preserved
loop-number-preserved c =
    let within : c.loop-number.number < length c.args.processes.now = c.loop-number-test.true in
    let inside : c.loop-number.number < length c.args.waves.now = omega (arith, c.requires.size) in (
      ran_more c.args.now c.loop-number.number c.args.processes.now c.args.waves.now c.loop-number.waves c.index-processes-number.result c.index-waves-number.result c.run.new.wave within inside c.loop-number.invariant.0 (c.in_ok-run.ensures ∙ ap (λ p. ran c.args.now p (get_or c.loop-number.waves c.loop-number.number c.index-waves-number.result)) c.index-processes-number.is),
      rest_all _ c.loop-number.number c.args.processes.now c.index-processes-number.result within c.loop-number.invariant.1,
    )

pub returns : goal.returns
returns c = ran_done c.args.now c.loop-number.number c.args.processes.now c.args.waves.now c.loop-number.waves c.requires.size (omega arith) c.loop-number.invariant.0
