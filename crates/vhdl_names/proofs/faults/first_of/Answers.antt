use Rattle.std.proofs.Common.{arith}
use Rattle.vhdl_names.proofs.Order.{first_turn}
use Rattle.vhdl_names.proofs.faults.first_of.Goals as goal

pub loop-fault-preserved : goal.loop-fault-preserved
loop-fault-preserved c =
    first_turn c.args.faults.now c.loop-fault.fault-index _ _ c.loop-fault.first (omega arith) c.loop-fault.invariant c.earlier.ensures
