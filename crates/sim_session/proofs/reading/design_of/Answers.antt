use Rattle.sim_session.proofs.Refused.{built_is, unmet_is}
use Rattle.sim_session.proofs.reading.design_of.Goals as goal

pub returns-in-Ok-clause-read : goal.returns-in-Ok-clause-read
returns-in-Ok-clause-read c = built_is c.built.result c.args.text.now c.args.tree.now c.in-Ok.ensures c.built.ensures.read

pub returns-in-Err-clause-read : goal.returns-in-Err-clause-read
returns-in-Err-clause-read c = unmet_is c.in-Err.fault c.args.text.now c.args.tree.now c.in-Err.ensures
