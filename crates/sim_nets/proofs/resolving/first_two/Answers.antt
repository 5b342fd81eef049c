use Rattle.std.proofs.Common.{◌≡◌, ◌∙◌, ap, rules, FitsSigned, w64}
use Rattle.sim_logic.specs.declared.Logic9.{Logic9}
use Rattle.sim_logic.specs.declared.Logic9.TheVariants.{Z}
use Rattle.std.proofs.lemmas.Int.{to_z-of_z}
use Rattle.sim_logic.specs.Logic.{resolution}
use Rattle.sim_nets.specs.Resolving.{logic_of}
use Rattle.sim_nets.proofs.resolving.first_two.Goals as goal

pub returns : goal.returns
returns c =
    let f : FitsSigned w64 c.args.first = search rules in
    let g : FitsSigned w64 c.args.second = search rules in
    let first : c.logic_at.result ≡ logic_of c.args.first = c.logic_at.ensures ∙ ap logic_of (to_z-of_z w64 c.args.first f) in
    let second : c.logic_at-2.result ≡ logic_of c.args.second = c.logic_at-2.ensures ∙ ap logic_of (to_z-of_z w64 c.args.second g) in
    c.join_values-2.ensures
    ∙ (ap (λ (x : Logic9). resolution x c.logic_at-2.result) c.join_values.ensures
    ∙ (ap (λ (x : Logic9). resolution (resolution Z x) c.logic_at-2.result) first
    ∙ ap (λ (y : Logic9). resolution (resolution Z (logic_of c.args.first)) y) second))
