use Rattle.vhdl_names_laws.proofs.Lawful.{attributes_are_known, objects_are_known, subtypes_are_known, types_are_known}
use Rattle.vhdl_names_laws.proofs.laws.declarations_have_meanings.Goals as goal

pub returns-clause-types : goal.returns-clause-types
returns-clause-types c = types_are_known

pub returns-clause-subtypes : goal.returns-clause-subtypes
returns-clause-subtypes c = subtypes_are_known

pub returns-clause-objects : goal.returns-clause-objects
returns-clause-objects c = objects_are_known

pub returns-clause-attributes : goal.returns-clause-attributes
returns-clause-attributes c = attributes_are_known
