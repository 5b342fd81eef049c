use Rattle.vhpi_kernel.specs.State.{first_state}
use Rattle.vhpi_kernel.specs.Cycle.{initialization}
use Rattle.vhpi_kernel.proofs.Determined.{left_one}
use Rattle.vhpi_kernel.proofs.laws.one_journal.Goals as goal

pub returns : goal.returns
returns c = λ d plan es fs e f p q. left_one d plan initialization (first_state d) es fs e f p q
