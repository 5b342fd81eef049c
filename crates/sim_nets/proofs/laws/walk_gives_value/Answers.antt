use Rattle.sim_nets.proofs.Walks.{walked}
use Rattle.sim_nets.proofs.laws.walk_gives_value.Goals as goal

pub returns : goal.returns
returns c = walked
