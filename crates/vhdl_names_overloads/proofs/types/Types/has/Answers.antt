use Rattle.std.proofs.Common.{◌∙◌, ap}
use Rattle.std.specs.Prelude.{is_some}
use Rattle.vhdl_names_overloads.proofs.Lists.{has_literal}
use Rattle.vhdl_names_overloads.proofs.types.Types.has.Goals as goal

pub returns-in-Literals : goal.returns-in-Literals
returns-in-Literals c = rw (← c.self.view_is, c.in-Literals.is) (c.is_some.ensures ∙ ap is_some c.position.ensures ∙ has_literal _ _)
