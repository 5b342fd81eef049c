use Rattle.vhdl_names_operators.proofs.Given.{has_results, has_results_from, has_of_string, has_aggregates}
use Rattle.vhdl_names_operators.proofs.laws.types_are_exact.Goals as goal

pub returns-clause-operators : goal.returns-clause-operators
returns-clause-operators c = has_results

pub returns-clause-unary_operators : goal.returns-clause-unary_operators
returns-clause-unary_operators c = has_results_from

pub returns-clause-strings : goal.returns-clause-strings
returns-clause-strings c = has_of_string

pub returns-clause-aggregates : goal.returns-clause-aggregates
returns-clause-aggregates c = has_aggregates
