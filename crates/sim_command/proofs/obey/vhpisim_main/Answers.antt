use Rattle.sim_command.proofs.Top.{run_is_done, refusal_is_said, refusal_yields}
use Rattle.sim_command.proofs.obey.vhpisim_main.Goals as goal

pub returns-clause-run_is_done : goal.returns-clause-run_is_done
returns-clause-run_is_done g c = run_is_done _ _ _ _ _ _ c.obey_and_settle.ensures

pub returns-clause-refusal_is_said : goal.returns-clause-refusal_is_said
returns-clause-refusal_is_said g c = refusal_is_said _ _ _ _ _ _ c.obey_and_settle.ensures

pub returns-clause-refusal_yields : goal.returns-clause-refusal_yields
returns-clause-refusal_yields g c = refusal_yields _ _ _ _ _ _ c.obey_and_settle.ensures
