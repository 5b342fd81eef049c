use Rattle.vhdl_names_laws.proofs.Naming.{target_known, target_typed}
use Rattle.vhdl_names_laws.proofs.Whole.{flags_tested, has_meanings}
use Rattle.vhdl_names_laws.proofs.laws.expressions_have_meanings.Goals as goal

pub returns-clause-meanings : goal.returns-clause-meanings
returns-clause-meanings c = λ text look. has_meanings text look

pub returns-clause-targets : goal.returns-clause-targets
returns-clause-targets c = target_known

pub returns-clause-target_types : goal.returns-clause-target_types
returns-clause-target_types c = target_typed

pub returns-clause-flags : goal.returns-clause-flags
returns-clause-flags c = λ text look n. flags_tested text look n
