use Rattle.std.proofs.Common.{◌≡◌, take}
use Rattle.vhdl_names_overloads.specs.Finds.{flat}
use Rattle.vhdl_names_overloads.specs.Literals.{literal_types}
use Rattle.vhdl_names_overloads.specs.Sharing.{shared}
use Rattle.vhdl_names_overloads.proofs.pair.shared_with.Given as goal

abbrev pub invariant-loop-other : goal.invariant-loop-other
invariant-loop-other l = l.now ≡ shared (literal_types l.own) (literal_types (flat (take l.other-index l.others)))
