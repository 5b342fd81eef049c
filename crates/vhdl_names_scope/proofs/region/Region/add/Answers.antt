use Rattle.std.proofs.Common.{sym, subst, string_bytes}
use Rattle.vhdl_names_scope.specs.Tables.{Shares}
use Rattle.vhdl_names_scope.proofs.region.Region.add.Goals as goal
use Rattle.vhdl_names_scope.proofs.region.Region.add.Goals.{in-Ok, in-Err}

pub invariant_of-self : goal.invariant_of-self
invariant_of-self c = elim c.match-add.branch [
  | in-Ok w ↦
      subst (λ r. Shares c.forget.new.sharings r) (sym w.in-Ok.ensures.ok) (c.forget.ensures.added c.self.inside.declarations (string_bytes c.args.name) c.self.invariant)
  | in-Err w ↦ subst (λ r. Shares c.forget.new.sharings r) (sym w.in-Err.ensures.err) (c.forget.ensures.stays c.self.inside.declarations c.self.invariant)
]
