use Rattle.std.proofs.Common.{sym, ◌∙◌}
use Rattle.vhdl_names_scope.proofs.Kept.{still_shares}
use Rattle.vhdl_names_scope.proofs.region.forget.Goals as goal

pub returns-else-is_literal-clause-added : goal.returns-else-is_literal-clause-added
returns-else-is_literal-clause-added c region name = still_shares c.args.sharings.now region (record { name = name; entry = c.args.entry }) (sym c.is_literal.ensures ∙ c.if-is_literal.false)
