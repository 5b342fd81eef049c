use Rattle.std.proofs.Common.{arith}
use Rattle.vhdl_names_overloads.proofs.Together.{each_more}
use Rattle.vhdl_names_overloads.proofs.shared.with_each.Goals as goal

pub loop-place-preserved : goal.loop-place-preserved
loop-place-preserved c =
    (omega (arith, c.loop-place-test.true), each_more _ _ _ _ c.args.entries.now _ _ (omega (arith, c.loop-place-test.true, c.requires.end)) c.with_entry-now.ensures c.loop-place.invariant.1)
