use Rattle.std.proofs.Common.{subst}
use Rattle.vhdl_units.specs.Entries.{is_literal}
use Rattle.vhdl_names_overloads.specs.Finds.{flat, AreLiterals}
use Rattle.vhdl_names_overloads.proofs.Lists.{filter_all}
use Rattle.vhdl_names_overloads.proofs.meanings.Meanings.share_literals.Goals as goal

pub returns-in-Literals : goal.returns-in-Literals
returns-in-Literals c =
    rw (← c.self.view_is, c.in-Literals.is, filter_all is_literal (flat c.in-Literals.shared.items) (subst (λ f. AreLiterals f) c.in-Literals.is c.self.invariant.literals), ← c.deref.ensures.value) c.share_behind.ensures
