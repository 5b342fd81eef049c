use Rattle.vhdl_names_laws.proofs.Instances.{architecture_known}
use Rattle.vhdl_names_laws.proofs.Lawful.{concurrent_assignments_are_known, instances_are_known, sensitivities_are_known}
use Rattle.vhdl_names_laws.proofs.laws.concurrent_statements_have_meanings.Goals as goal

pub returns-clause-sensitivities : goal.returns-clause-sensitivities
returns-clause-sensitivities c = sensitivities_are_known

pub returns-clause-assignments : goal.returns-clause-assignments
returns-clause-assignments c = concurrent_assignments_are_known

pub returns-clause-instances : goal.returns-clause-instances
returns-clause-instances c = instances_are_known

pub returns-clause-entities : goal.returns-clause-entities
returns-clause-entities c = architecture_known
