use Rattle.std.proofs.Common.{sym}
use Rattle.vhdl_names_overloads.proofs.Lists.{whether_first, no_literals}
use Rattle.vhdl_names_overloads.proofs.types.are_literals.Goals as goal

pub returns-in-Some : goal.returns-in-Some
returns-in-Some c = whether_first c.args.entries.now c.in-Some.entry c.is_literal.result (sym c.in-Some.ensures.entry) (sym c.is_literal.ensures) c.in-Some.ensures.alone

pub returns-in-None : goal.returns-in-None
returns-in-None c = no_literals c.args.entries.now (sym c.in-None.ensures.entry)
