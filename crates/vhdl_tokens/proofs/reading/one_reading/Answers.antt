use Rattle.vhdl_tokens.proofs.FirstBytes.{first_bytes}
use Rattle.vhdl_tokens.proofs.Pieces.{one_list, list_or_fault, one_fault}
use Rattle.vhdl_tokens.proofs.Spelled.{some_reading}
use Rattle.vhdl_tokens.proofs.reading.one_reading.Goals as goal

pub returns-clause-one_list : goal.returns-clause-one_list
returns-clause-one_list c = one_list

pub returns-clause-list_or_fault : goal.returns-clause-list_or_fault
returns-clause-list_or_fault c = list_or_fault

pub returns-clause-one_fault : goal.returns-clause-one_fault
returns-clause-one_fault c = one_fault

pub returns-clause-some : goal.returns-clause-some
returns-clause-some c = some_reading

pub returns-clause-first_bytes : goal.returns-clause-first_bytes
returns-clause-first_bytes c = first_bytes
