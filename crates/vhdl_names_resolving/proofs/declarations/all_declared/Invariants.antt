-- What is declared so far, with what the rest declares, is what all declare.
use Rattle.std.proofs.Common.{◌≡◌, ◌+◌, ◌++◌, drop}
use Rattle.vhdl_names_resolving.specs.Declarations.{all_declared}
use Rattle.vhdl_names_resolving.proofs.declarations.all_declared.Given as goal

abbrev pub invariant-loop-offset : goal.invariant-loop-offset
invariant-loop-offset l = l.all ++ all_declared l.text (l.first + l.offset) (drop l.offset l.tokens) ≡ all_declared l.text l.first l.tokens
