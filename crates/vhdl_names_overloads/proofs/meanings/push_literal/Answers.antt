use Rattle.std.proofs.Common.{sym, ◌∙◌, ap, ◌++◌, ◌∷◌, []}
use Rattle.vhdl_names_overloads.proofs.Lists.{literal_pushed}
use Rattle.vhdl_names_overloads.proofs.meanings.push_literal.Goals as goal

pub returns-in_ok-push-2 : goal.returns-in_ok-push-2
returns-in_ok-push-2 c =
    literal_pushed _ _ _ c.args.entry (sym c.is_literal.ensures ∙ c.if-is_literal.true) (c.in_ok-push.ensures.ok ∙ ap (λ xs. xs ++ c.args.entry ∷ []) c.new-literal.ensures) c.in_ok-push-2.ensures.items
