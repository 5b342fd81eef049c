-- What is declared so far, with the rest declared behind it, is all declared.
use Rattle.std.proofs.Common.{◌≡◌, ◌++◌, drop}
use Rattle.vhdl_names_checker.specs.Declaring.{objects_declared, objects_twice}
use Rattle.vhdl_names_checker.proofs.declaring.declare_objects.Given as goal

abbrev pub invariant-loop-token : goal.invariant-loop-token
invariant-loop-token l = record {
  declared : objects_declared l.text l.class l.base (drop l.token-index l.tokens) l.around ≡ objects_declared l.text l.class l.base l.tokens l.initial.around;
  twice : l.faults ++ objects_twice l.text l.class l.base (drop l.token-index l.tokens) l.around ≡ objects_twice l.text l.class l.base l.tokens l.initial.around;
}
