use Rattle.std.proofs.Common.{sym, ◌∙◌, ap}
use Rattle.vhdl_names_overloads.specs.Literals.{position_of}
use Rattle.vhdl_names_overloads.proofs.Lists.{own_type, visible_position}
use Rattle.vhdl_names_overloads.proofs.table.Table.position.Goals as goal

pub returns-in-Some : goal.returns-in-Some
returns-in-Some c =
    rw (← c.self.view_is, own_type _ _ (sym c.in-Some.ensures)) (c.copied.ensures ∙ c.get.ensures.value ∙ c.self.invariant.indexed.own_is c.in-Some.number)

pub returns-in-None : goal.returns-in-None
returns-in-None c =
    rw (← c.self.view_is) (c.position_among.ensures ∙ ap (position_of c.args.base) (c.as_slice.ensures.value ∙ c.self.invariant.indexed.visible_is) ∙ visible_position _ _ (sym c.in-None.ensures))
