use Rattle.std.proofs.Common.{arith}
use Rattle.vhdl_names.specs.Units.{of_generic}
use Rattle.vhdl_names.proofs.Walks.{part_end, part_turn, parts_begin}
use Rattle.vhdl_names.proofs.units.check_generics.Goals as goal

pub loop-generic-init : goal.loop-generic-init
loop-generic-init c = parts_begin _ _ _ c.new-resolved.ensures

pub loop-generic-preserved : goal.loop-generic-preserved
loop-generic-preserved c =
    part_turn of_generic c.args.generics.now c.loop-generic.generic-index c.generic-item.result _ _ _ c.loop-generic.checker _ _
    (omega arith) (cc) c.loop-generic.invariant c.in_ok-check_generic.ensures.walk c.in_ok-check_generic.ensures.meaning c.in_ok-push.ensures.ok

pub returns-clause-walk : goal.returns-clause-walk
returns-clause-walk c = (part_end of_generic c.args.generics.now c.loop-generic.generic-index _ _ _ (omega arith) c.loop-generic.invariant).0

pub returns-clause-meaning : goal.returns-clause-meaning
returns-clause-meaning c = (part_end of_generic c.args.generics.now c.loop-generic.generic-index _ _ _ (omega arith) c.loop-generic.invariant).1
