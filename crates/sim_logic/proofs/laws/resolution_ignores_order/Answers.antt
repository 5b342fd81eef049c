use Rattle.sim_logic.proofs.Sources.{resolved-order}
use Rattle.sim_logic.proofs.laws.resolution_ignores_order.Goals as goal

pub returns : goal.returns
returns c = resolved-order
