use Rattle.sim_logic.proofs.Sources.{resolved-U, resolved-X}
use Rattle.sim_logic.proofs.laws.uninitialized_absorbs.Goals as goal

pub returns : goal.returns
returns c = record { u = resolved-U; x = resolved-X }
