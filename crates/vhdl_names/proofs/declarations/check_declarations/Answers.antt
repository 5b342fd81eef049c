use Rattle.std.proofs.Common.{arith}
use Rattle.vhdl_names.specs.Statements.{of_declaration, of_declarations}
use Rattle.vhdl_names.proofs.Walks.{part_end, part_turn, parts_begin}
use Rattle.vhdl_names.proofs.declarations.check_declarations.Goals as goal

pub loop-declaration-init : goal.loop-declaration-init
loop-declaration-init c = parts_begin _ _ _ c.new-resolved.ensures

pub loop-declaration-preserved : goal.loop-declaration-preserved
loop-declaration-preserved c =
    part_turn of_declaration c.args.declarations.now c.loop-declaration.declaration-index c.declaration-item.result _ _ _ c.loop-declaration.checker _ _
    (omega arith) (cc) c.loop-declaration.invariant c.in_ok-check_declaration.ensures.walk c.in_ok-check_declaration.ensures.meaning c.in_ok-push.ensures.ok

pub returns-clause-walk : goal.returns-clause-walk
unfolding of_declarations
returns-clause-walk c = (part_end of_declaration c.args.declarations.now c.loop-declaration.declaration-index _ _ _ (omega arith) c.loop-declaration.invariant).0

pub returns-clause-meaning : goal.returns-clause-meaning
unfolding of_declarations
returns-clause-meaning c = (part_end of_declaration c.args.declarations.now c.loop-declaration.declaration-index _ _ _ (omega arith) c.loop-declaration.invariant).1
