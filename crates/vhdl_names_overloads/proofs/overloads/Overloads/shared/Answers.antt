use Rattle.std.proofs.Common.{◌∙◌}
use Rattle.vhdl_names_overloads.specs.Literals.{literal_types}
use Rattle.vhdl_names_overloads.proofs.Both.{shared_turned}
use Rattle.vhdl_names_overloads.proofs.overloads.Overloads.shared.Goals as goal

pub returns-then-entries : goal.returns-then-entries
returns-then-entries c = c.shared_of.ensures ∙ shared_turned (literal_types c.args.self.now) (literal_types c.args.others.now)
