use Rattle.std.proofs.Common.{arith}
use Rattle.vhdl_names.specs.Units.{of_context}
use Rattle.vhdl_names.proofs.Walks.{walk_turn, walk_end}
use Rattle.vhdl_names.proofs.units.check_context.Goals as goal

pub loop-clause-preserved : goal.loop-clause-preserved
loop-clause-preserved c =
    walk_turn of_context c.args.context.now c.loop-clause.clause-index c.clause-item.result c.loop-clause.checker _ _
    (omega arith) (cc) c.loop-clause.invariant c.in_ok-check_context_clause.ensures

pub returns : goal.returns
returns c = walk_end of_context c.args.context.now c.loop-clause.clause-index _ _ (omega arith) c.loop-clause.invariant
