use Rattle.std.proofs.Common.{arith}
use Rattle.vhdl_names.specs.Units.{of_port}
use Rattle.vhdl_names.proofs.Walks.{part_end, part_turn, parts_begin}
use Rattle.vhdl_names.proofs.units.check_ports.Goals as goal

pub loop-port-init : goal.loop-port-init
loop-port-init c = parts_begin _ _ _ c.new-resolved.ensures

pub loop-port-preserved : goal.loop-port-preserved
loop-port-preserved c =
    part_turn of_port c.args.ports.now c.loop-port.port-index c.port-item.result _ _ _ c.loop-port.checker _ _
    (omega arith) (cc) c.loop-port.invariant c.in_ok-check_port.ensures.walk c.in_ok-check_port.ensures.meaning c.in_ok-push.ensures.ok

pub returns-clause-walk : goal.returns-clause-walk
returns-clause-walk c = (part_end of_port c.args.ports.now c.loop-port.port-index _ _ _ (omega arith) c.loop-port.invariant).0

pub returns-clause-meaning : goal.returns-clause-meaning
returns-clause-meaning c = (part_end of_port c.args.ports.now c.loop-port.port-index _ _ _ (omega arith) c.loop-port.invariant).1
