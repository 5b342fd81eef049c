use Rattle.std.proofs.Common.{arith}
use Rattle.vhdl_names.specs.Units.{of_unit, of_units}
use Rattle.vhdl_names.proofs.Walks.{part_end, part_turn, parts_begin}
use Rattle.vhdl_names.proofs.units.check_units.Goals as goal

pub loop-unit-init : goal.loop-unit-init
loop-unit-init c = parts_begin _ _ _ c.new-resolved.ensures

pub loop-unit-preserved : goal.loop-unit-preserved
loop-unit-preserved c =
    part_turn (of_unit c.args.text.now) c.args.units.now c.loop-unit.unit-index c.unit-item.result _ _ _ c.loop-unit.checker _ _
    (omega arith) (cc) c.loop-unit.invariant c.in_ok-check_unit.ensures.walk c.in_ok-check_unit.ensures.meaning c.in_ok-push.ensures.ok

pub returns-clause-walk : goal.returns-clause-walk
unfolding of_units
returns-clause-walk c = (part_end (of_unit c.args.text.now) c.args.units.now c.loop-unit.unit-index _ _ _ (omega arith) c.loop-unit.invariant).0

pub returns-clause-meaning : goal.returns-clause-meaning
unfolding of_units
returns-clause-meaning c = (part_end (of_unit c.args.text.now) c.args.units.now c.loop-unit.unit-index _ _ _ (omega arith) c.loop-unit.invariant).1
