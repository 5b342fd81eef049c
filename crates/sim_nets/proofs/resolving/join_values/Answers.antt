use Rattle.std.proofs.Common.{◌∙◌}
use Rattle.sim_nets.proofs.Tables.{from_z}
use Rattle.sim_nets.proofs.resolving.join_values.Goals as goal

pub returns : goal.returns
returns c = c.resolve.ensures ∙ from_z c.args.a c.args.b
