use Rattle.vhdl_names_overloads.proofs.Both.{below_apart, above_apart}
use Rattle.vhdl_names_overloads.proofs.table.Table.is_apart_from.Goals as goal

pub returns-then-is_below : goal.returns-then-is_below
returns-then-is_below c = λ h. below_apart c.args.self.now c.args.others.now (c.is_below.ensures c.if-is_below.true) (c.is_visible_apart.ensures c.if-not-is_visible_apart.false)

pub returns : goal.returns
returns c = λ h. above_apart c.args.self.now c.args.others.now (c.is_below-2.ensures h) (c.is_visible_apart.ensures c.if-not-is_visible_apart.false)
