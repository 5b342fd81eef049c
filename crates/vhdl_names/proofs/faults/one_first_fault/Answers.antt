use Rattle.vhdl_names.proofs.Broken.{one_answer, some_answer}
use Rattle.vhdl_names.proofs.faults.one_first_fault.Goals as goal

pub returns-clause-some : goal.returns-clause-some
returns-clause-some c = some_answer

pub returns-clause-one : goal.returns-clause-one
returns-clause-one c = one_answer
