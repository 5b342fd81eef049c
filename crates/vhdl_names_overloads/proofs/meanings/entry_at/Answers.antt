use Rattle.std.proofs.Common.{◌∙◌}
use Rattle.vhdl_names_overloads.proofs.Lists.{entry_here, entry_behind}
use Rattle.vhdl_names_overloads.proofs.meanings.entry_at.Goals as goal

pub returns-then-rest-entries : goal.returns-then-rest-entries
returns-then-rest-entries c =
    c.entry_of.ensures
    ∙ entry_here _ _ _ _ _ _ c.loop-segment-test.true (c.entries-entries.ensures ∙ c.segment-item.is) c.if-rest-entries.true c.loop-segment.invariant

pub loop-segment-preserved : goal.loop-segment-preserved
loop-segment-preserved c =
    entry_behind _ _ _ _ _ _ c.loop-segment-test.true (c.entries-entries.ensures ∙ c.segment-item.is) c.if-rest-entries.false c.loop-segment.invariant
