use Rattle.vhdl_names_scope.proofs.Lists.{last_some}
use Rattle.vhdl_names_scope.proofs.further.last_of.Goals as goal

pub returns-in-Some : goal.returns-in-Some
returns-in-Some c = rw (← c.entries.ensures) (last_some c.args.before c.entries.result.now _ c.in-Some.ensures.value)
