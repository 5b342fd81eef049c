use Rattle.vhdl_names_rules.proofs.Taking.{used_some, used_none}
use Rattle.vhdl_names_rules.proofs.associations.use_formal.Goals as goal

pub returns-in_ok-insert-in-Some : goal.returns-in_ok-insert-in-Some
returns-in_ok-insert-in-Some c = λ numbers has.
    used_some c.args.used c.insert.new.self numbers c.args.formal c.in-Some.object c.in-Some.is c.in_ok-insert-in-Some.ensures.updates.0 has

pub returns-in-None : goal.returns-in-None
returns-in-None c = λ numbers has. used_none c.args.used numbers c.args.formal c.in-None.is has
