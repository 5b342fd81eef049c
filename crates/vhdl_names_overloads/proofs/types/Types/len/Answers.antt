use Rattle.std.proofs.Common.{◌∙◌, subst}
use Rattle.vhdl_names_overloads.specs.Kinds.{AreOfLiterals}
use Rattle.vhdl_names_overloads.proofs.Lists.{types_counted}
use Rattle.vhdl_names_overloads.proofs.types.Types.len.Goals as goal

pub returns-in-Literals : goal.returns-in-Literals
returns-in-Literals c =
    rw (← c.self.view_is, c.in-Literals.is) (c.len-in-Literals.ensures ∙ types_counted _ (subst (λ k. AreOfLiterals k) c.in-Literals.is c.self.invariant))
