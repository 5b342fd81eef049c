use Rattle.vhdl_names_laws.proofs.Lawful.{assertions_are_known, assignments_are_known, choices_are_known, conditions_are_known, jumps_are_known, loops_are_known, subjects_are_known, subjects_have_types, variables_are_known, waits_are_known}
use Rattle.vhdl_names_laws.proofs.laws.statements_have_meanings.Goals as goal

pub returns-clause-waits : goal.returns-clause-waits
returns-clause-waits c = waits_are_known

pub returns-clause-assertions : goal.returns-clause-assertions
returns-clause-assertions c = assertions_are_known

pub returns-clause-assignments : goal.returns-clause-assignments
returns-clause-assignments c = assignments_are_known

pub returns-clause-variables : goal.returns-clause-variables
returns-clause-variables c = variables_are_known

pub returns-clause-conditions : goal.returns-clause-conditions
returns-clause-conditions c = conditions_are_known

pub returns-clause-subjects : goal.returns-clause-subjects
returns-clause-subjects c = subjects_are_known

pub returns-clause-types : goal.returns-clause-types
returns-clause-types c = subjects_have_types

pub returns-clause-choices : goal.returns-clause-choices
returns-clause-choices c = choices_are_known

pub returns-clause-loops : goal.returns-clause-loops
returns-clause-loops c = loops_are_known

pub returns-clause-jumps : goal.returns-clause-jumps
returns-clause-jumps c = jumps_are_known
