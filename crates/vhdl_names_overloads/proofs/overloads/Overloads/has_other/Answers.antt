use Rattle.std.proofs.Common.{◌∙◌, ap}
use Rattle.std.specs.Prelude.{is_some}
use Rattle.vhdl_names_overloads.proofs.Lists.{some_other}
use Rattle.vhdl_names_overloads.proofs.overloads.Overloads.has_other.Goals as goal

pub returns : goal.returns
returns c = c.is_some.ensures ∙ ap is_some c.first_other.ensures ∙ some_other c.args.self.now
