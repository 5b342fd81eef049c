use Rattle.std.proofs.Common.{rules}
use Rattle.sim_session.proofs.reading.built.Goals as goal

pub returns-in-Err-NotBuilt-clause-read : goal.returns-in-Err-NotBuilt-clause-read
returns-in-Err-NotBuilt-clause-read c = c.in-Err-NotBuilt.ensures.none (search rules)
