use Rattle.std.proofs.Common.{sym, ◌++◌}
use Rattle.vhdl_names_overloads.proofs.Lists.{met_other, met_literals, all_literals}
use Rattle.vhdl_names_overloads.proofs.meanings.met.Goals as goal

pub overloaded-requires : goal.overloaded-requires
overloaded-requires c = all_literals (c.args.base.now ++ c.args.more.now) (sym c.in-None.ensures)

pub returns-in-Some : goal.returns-in-Some
returns-in-Some c =
    rw (met_other (c.args.base.now ++ c.args.more.now) c.args.found c.in-Some.entry (sym c.in-Some.ensures)) c.one.ensures

pub returns-in-None : goal.returns-in-None
returns-in-None c =
    rw (met_literals (c.args.base.now ++ c.args.more.now) c.args.found (sym c.in-None.ensures)) c.overloaded.ensures
