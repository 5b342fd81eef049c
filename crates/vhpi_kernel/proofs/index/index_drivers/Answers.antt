use Rattle.std.proofs.Common.{◌∙◌, ap, sym, ◌<◌, ◌≡◌, length, arith}
use Rattle.vhpi_kernel.specs.Index.{noted_at}
use Rattle.vhpi_kernel.proofs.Sources.{driver_more}
use Rattle.vhpi_kernel.proofs.index.index_drivers.Goals as goal

pub loop-number-preserved : goal.loop-number-preserved
loop-number-preserved c =
    let size : length c.note_driver.new.index.items ≡ c.args.nets = c.note_driver.ensures.len ∙ c.loop-number.invariant.0 in (
      size,
      λ net within.
          let inside : net < length c.note_driver.new.index.items = omega (arith, size) in
          c.note_driver.ensures.noted net inside
          ∙ (ap (noted_at _ c.loop-number.number net) (c.loop-number.invariant.1 net within)
          ∙ sym (driver_more net c.args.processes.now c.loop-number.number c.index-processes-number.result c.loop-number-test.true)),
    )
