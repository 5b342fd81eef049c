use Rattle.vhdl_names_operators.proofs.Given.{is_set_results, is_set_results_from, is_set_of_string, is_set_narrowed}
use Rattle.vhdl_names_operators.proofs.laws.types_are_sets.Goals as goal

pub returns-clause-operators : goal.returns-clause-operators
returns-clause-operators c = is_set_results

pub returns-clause-unary_operators : goal.returns-clause-unary_operators
returns-clause-unary_operators c = is_set_results_from

pub returns-clause-strings : goal.returns-clause-strings
returns-clause-strings c = is_set_of_string

pub returns-clause-aggregates : goal.returns-clause-aggregates
returns-clause-aggregates c = is_set_narrowed
