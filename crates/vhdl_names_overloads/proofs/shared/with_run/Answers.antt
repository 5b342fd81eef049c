use Rattle.vhdl_names_overloads.proofs.Together.{passed}
use Rattle.vhdl_names_overloads.proofs.shared.with_run.Goals as goal

pub returns-then-passes_over : goal.returns-then-passes_over
returns-then-passes_over c = passed _ _ _ _ _ _ c.requires.order c.requires.end c.requires.inside (c.passes_over.ensures c.if-passes_over.true)
