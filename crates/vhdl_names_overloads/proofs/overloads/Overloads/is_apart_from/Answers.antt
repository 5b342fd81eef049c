use Rattle.vhdl_names_overloads.specs.Literals.{literal_types}
use Rattle.vhdl_names_overloads.proofs.Both.{nothing_shared, shared_none}
use Rattle.vhdl_names_overloads.proofs.overloads.Overloads.is_apart_from.Goals as goal

pub returns-in_default : goal.returns-in_default
unfolding literal_types
returns-in_default c = rw (← c.others.view_is, c.in_default.is-1) (λ h. shared_none (literal_types c.args.self.now))

pub returns-in_default-2 : goal.returns-in_default-2
unfolding literal_types
returns-in_default-2 c = rw (← c.self.view_is, c.in_default.is-0) (λ h. nothing_shared (literal_types c.args.others.now))
