use Rattle.std.proofs.Common.{◌∙◌}
use Rattle.vhdl_names_overloads.proofs.Both.{first_unseen, second_unseen, none_visible}
use Rattle.vhdl_names_overloads.proofs.table.Table.is_visible_apart.Goals as goal

pub returns-then-is_empty : goal.returns-then-is_empty
returns-then-is_empty c =
    rw (← c.self.view_is) (λ h. first_unseen c.self.inside.entries.items c.args.others.now (none_visible _ _ _ (c.as_slice.ensures.value ∙ c.self.invariant.indexed.visible_is) c.is_empty.ensures h))

pub returns-else-is_empty : goal.returns-else-is_empty
returns-else-is_empty c =
    rw (← c.others.view_is) (λ h. second_unseen c.args.self.now c.others.inside.entries.items (none_visible _ _ _ (c.as_slice-else-is_empty.ensures.value ∙ c.others.invariant.indexed.visible_is) c.is_empty-else-is_empty.ensures h))
