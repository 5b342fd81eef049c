use Rattle.vhpi_values.proofs.Within.{reading-fits}
use Rattle.vhpi_values.proofs.reading.read_value.Goals as goal

pub returns-in-Ok-clause-fits : goal.returns-in-Ok-clause-fits
returns-in-Ok-clause-fits c =
    rw c.from_vec.ensures (reading-fits c.args.ty.now c.args.from.now _ c.in-Ok.ensures)
