use Rattle.std.proofs.Common.{◌∙◌, ap, subst}
use Rattle.vhdl_names_overloads.specs.Kinds.{type_of, AreOfLiterals}
use Rattle.vhdl_names_overloads.proofs.Lists.{type_at}
use Rattle.vhdl_names_overloads.proofs.types.Types.get.Goals as goal

pub returns-in-Literals : goal.returns-in-Literals
returns-in-Literals c =
    rw (← c.self.view_is, c.in-Literals.is) (c.type_of.ensures ∙ ap type_of c.get-in-Literals.ensures.entry ∙ type_at _ _ (subst (λ k. AreOfLiterals k) c.in-Literals.is c.self.invariant))
