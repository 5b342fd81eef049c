use Rattle.vhpi_kernel.specs.Simulation.{first_simulation}
use Rattle.vhpi_kernel.proofs.Moves.{goes_on}
use Rattle.vhpi_kernel.proofs.laws.every_design_runs.Goals as goal

pub returns : goal.returns
returns c = λ d plan. goes_on (first_simulation d plan)
