use Rattle.std.proofs.Common.{◌∙◌}
use Rattle.vhdl_names_overloads.proofs.Together.{run_ends, all_run}
use Rattle.vhdl_names_overloads.proofs.shared.with_blocks.Goals as goal

pub with_run-now-requires-clause-end : goal.with_run-now-requires-clause-end
with_run-now-requires-clause-end c = run_ends _ _ _ _ _ _ _ c.closed-run-items.ensures c.loop-run-test.true c.loop-run.invariant.0

pub returns : goal.returns
returns c = all_run _ _ _ c.args.entries.now (c.with_run.ensures ∙ c.loop-run.invariant.1)
