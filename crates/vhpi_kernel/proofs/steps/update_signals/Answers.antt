use Rattle.std.proofs.Common.{ap, length, ◌∙◌, ◌++◌, arith}
use Rattle.vhpi_kernel.specs.Index.{updated_value_by}
use Rattle.vhpi_kernel.proofs.Wired.{drivers_within, updated_same, events_same}
use Rattle.vhpi_kernel.proofs.Tables.{length-table}
use Rattle.vhpi_kernel.proofs.steps.update_signals.Goals as goal

pub settle-requires-clause-waves : goal.settle-requires-clause-waves
settle-requires-clause-waves c =
    drivers_within c.args.design.now c.args.index.now c.args.waves.now _ _ c.requires.wired c.requires.values (omega arith)

pub returns-clause-values : goal.returns-clause-values
returns-clause-values c =
    c.in_ok-settle.ensures.values
    ∙ updated_same c.args.design.now c.args.now c.args.index.now c.args.waves.now c.activate_all.new.waves c.as_slice.result.now c.args.old.now c.requires.wired c.in_ok-activate_all.ensures.waves (c.as_slice.ensures.value ∙ c.in_ok-activate_all.ensures.active) c.requires.values

pub returns-clause-len : goal.returns-clause-len
returns-clause-len c =
    ap length c.in_ok-settle.ensures.values ∙ (length-table _ _ ∙ c.requires.values)

pub returns-clause-journal : goal.returns-clause-journal
returns-clause-journal c =
    c.in_ok-settle.ensures.journal
    ∙ ap (λ es. c.args.journal.now.items ++ es) (events_same (length c.args.old.now) (length c.args.design.now.nets) c.args.old.now c.settle.new.values.items (updated_value_by c.args.index.now c.as_slice.result.now c.activate_all.new.waves c.args.old.now) c.requires.values c.in_ok-settle.ensures.values)
