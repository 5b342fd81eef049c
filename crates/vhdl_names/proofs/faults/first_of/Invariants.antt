use Rattle.std.proofs.Common.{take}
use Rattle.vhdl_names.specs.First.{IsFirst}
use Rattle.vhdl_names.proofs.faults.first_of.Given as goal

abbrev pub invariant-loop-fault : goal.invariant-loop-fault
invariant-loop-fault l = IsFirst (take l.fault-index l.faults) l.first
