use Rattle.std.proofs.Common.{refl, ap, length, ◌∙◌}
use Rattle.vhpi_kernel.specs.State.{table}
use Rattle.vhpi_kernel.specs.Index.{indexed_value}
use Rattle.vhpi_kernel.proofs.Wired.{drivers_within, driving_same}
use Rattle.vhpi_kernel.proofs.Tables.{length-table}
use Rattle.vhpi_kernel.proofs.steps.computed_values.Goals as goal

pub driving_values-requires-clause-within : goal.driving_values-requires-clause-within
driving_values-requires-clause-within c =
    drivers_within c.args.design.now c.args.index.now c.args.waves.now _ _ c.requires (ap length c.as_slice.ensures) refl

pub returns-clause-values : goal.returns-clause-values
returns-clause-values c =
    c.in_ok-values.ensures ∙ (ap (λ ns. table (length ns) (indexed_value ns c.args.index.now c.args.waves.now)) c.as_slice.ensures ∙ driving_same c.args.design.now c.args.index.now c.args.waves.now c.requires)

pub returns-clause-len : goal.returns-clause-len
returns-clause-len c =
    ap length c.in_ok-values.ensures ∙ (length-table _ _ ∙ ap length c.as_slice.ensures)
