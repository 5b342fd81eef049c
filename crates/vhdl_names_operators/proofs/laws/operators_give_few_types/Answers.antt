use Rattle.vhdl_names_operators.proofs.Given.{few_results, few_results_from}
use Rattle.vhdl_names_operators.proofs.laws.operators_give_few_types.Goals as goal

pub returns-clause-operators : goal.returns-clause-operators
returns-clause-operators c = few_results

pub returns-clause-unary_operators : goal.returns-clause-unary_operators
returns-clause-unary_operators c = few_results_from
