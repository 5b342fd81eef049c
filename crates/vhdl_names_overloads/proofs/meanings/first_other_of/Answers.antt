use Rattle.std.proofs.Common.{sym, ◌∙◌}
use Rattle.vhdl_names_overloads.specs.Literals.{is_other}
use Rattle.vhdl_names_overloads.proofs.Lists.{find_append, find_front}
use Rattle.vhdl_names_overloads.proofs.meanings.first_other_of.Goals as goal

pub returns-in-Some : goal.returns-in-Some
returns-in-Some c = sym (find_front is_other c.args.base.now c.args.more.now _ (sym c.in-Some.ensures))

pub returns-in-None : goal.returns-in-None
returns-in-None c =
    c.first_other-in-None.ensures ∙ sym (find_append is_other c.args.base.now c.args.more.now (sym c.in-None.ensures))
