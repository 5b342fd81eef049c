-- What is declared so far, with the rest declared behind it, is all declared.
use Rattle.std.proofs.Common.{◌≡◌, drop}
use Rattle.vhdl_names_checker.specs.Declaring.{literals_declared}
use Rattle.vhdl_names_checker.proofs.declaring.literals_declared.Given as goal

abbrev pub invariant-loop-position : goal.invariant-loop-position
invariant-loop-position l = literals_declared l.text l.base l.position (drop l.position l.tokens) l.around ≡ literals_declared l.text l.base 0 l.tokens l.initial.around
