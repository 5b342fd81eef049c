use Rattle.std.proofs.Common.{ap, sym, ◌∙◌, string_bytes}
use Rattle.vhdl_names_scope.specs.Tables.{own_shared}
use Rattle.vhdl_names_scope.proofs.Kept.{one_shares}
use Rattle.vhdl_names_scope.proofs.region.Region.keep_shared.Goals as goal

pub invariant_of-self : goal.invariant_of-self
invariant_of-self c = one_shares _ _ _ c.self.inside.sharings c.keep.new.sharings c.self.inside.declarations c.keep.ensures
    (c.shared-shared.ensures ∙ ap (own_shared c.args.left.now c.args.right.now) (sym c.self.view_is)
    ∙ ap (λ l. own_shared l c.args.right.now c.self.inside.declarations) (sym c.in_ok-left.ensures.ok)
    ∙ ap (λ r. own_shared (string_bytes c.in_ok-left.left) r c.self.inside.declarations) (sym c.in_ok-right.ensures.ok))
    c.self.invariant
