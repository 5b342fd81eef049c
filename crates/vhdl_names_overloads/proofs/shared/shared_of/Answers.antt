use Rattle.std.proofs.Common.{◌∙◌, ap, append-nil}
use Rattle.vhdl_names_overloads.specs.Finds.{flat}
use Rattle.vhdl_names_overloads.specs.Literals.{literal_types}
use Rattle.vhdl_names_overloads.proofs.Together.{shared_among}
use Rattle.vhdl_names_overloads.proofs.shared.shared_of.Goals as goal

pub returns : goal.returns
returns c =
    shared_among _ _ _ (flat c.from_ref.result.now) (flat c.from_ref-2.result.now)
    (ap (λ xs. literal_types (flat xs)) c.from_ref.ensures.value ∙ ap literal_types (append-nil c.args.one.now))
    (ap (λ xs. literal_types (flat xs)) c.from_ref-2.ensures.value ∙ ap literal_types (append-nil c.args.others.now))
    c.shared_literals.ensures
