use Rattle.std.proofs.Common.{arith}
use Rattle.vhdl_names.specs.Units.{of_concurrent}
use Rattle.vhdl_names.proofs.Walks.{part_end, part_turn, parts_begin}
use Rattle.vhdl_names.proofs.units.check_concurrent_statements.Goals as goal

pub loop-statement-init : goal.loop-statement-init
loop-statement-init c = parts_begin _ _ _ c.new-resolved.ensures

pub loop-statement-preserved : goal.loop-statement-preserved
loop-statement-preserved c =
    part_turn of_concurrent c.args.statements.now c.loop-statement.statement-index c.statement-item.result _ _ _ c.loop-statement.checker _ _
    (omega arith) (cc) c.loop-statement.invariant c.in_ok-check_concurrent.ensures.walk c.in_ok-check_concurrent.ensures.meaning c.in_ok-push.ensures.ok

pub returns-clause-walk : goal.returns-clause-walk
returns-clause-walk c = (part_end of_concurrent c.args.statements.now c.loop-statement.statement-index _ _ _ (omega arith) c.loop-statement.invariant).0

pub returns-clause-meaning : goal.returns-clause-meaning
returns-clause-meaning c = (part_end of_concurrent c.args.statements.now c.loop-statement.statement-index _ _ _ (omega arith) c.loop-statement.invariant).1
