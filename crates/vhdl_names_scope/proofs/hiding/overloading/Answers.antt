use Rattle.vhdl_names_scope.specs.Declarations.{own}
use Rattle.vhdl_names_scope.specs.Hiding.{seen}
use Rattle.vhdl_names_scope.specs.Nesting.{regions}
use Rattle.vhdl_names_overloads.proofs.Lists.{met_other}
use Rattle.vhdl_names_scope.proofs.Lists.{seen_alone, met_keeps_literals, met_undeclared}
use Rattle.vhdl_names_scope.proofs.hiding.overloading.Goals as goal

pub returns-clause-alone : goal.returns-clause-alone
returns-clause-alone c = λ n name. seen_alone name (regions n)

pub returns-clause-hidden : goal.returns-clause-hidden
returns-clause-hidden c = λ name region around e h. met_other (own name region) (seen name around _) e h

pub returns-clause-literals : goal.returns-clause-literals
returns-clause-literals c = λ name region around h. met_keeps_literals (own name region) (seen name around _) h

pub returns-clause-undeclared : goal.returns-clause-undeclared
returns-clause-undeclared c = λ name region around h. met_undeclared (own name region) (seen name around _) h
