use Rattle.std.proofs.Common.{ap, sym, ◌∙◌}
use Rattle.vhdl_names_rules.specs.Associations.{formal_for}
use Rattle.vhdl_names_rules.proofs.Taking.{by_position}
use Rattle.vhdl_names_rules.proofs.associations.formal_for.Goals as goal

pub returns-in-Positional : goal.returns-in-Positional
returns-in-Positional c = λ m k.
    c.unless.ensures ∙ by_position c.args.formals.now c.args.taken.now m c.at_position.result c.at_position.ensures k
    ∙ ap (formal_for c.args.formals.now m) (sym c.in-Positional.is)
