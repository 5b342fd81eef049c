use Rattle.std.proofs.Common.{◌≡◌, ◌∙◌, ap, rules, to_z, of_z, w64, FitsSigned, ℤ}
use Rattle.sim_logic.specs.declared.Logic9.TheVariants.{Z}
use Rattle.std.proofs.lemmas.Int.{to_z-of_z}
use Rattle.sim_logic.specs.Logic.{resolution}
use Rattle.sim_nets.specs.Resolving.{logic_of}
use Rattle.sim_nets.specs.declared.resolving.Sources.TheVariants as sources
use Rattle.sim_nets.proofs.resolving.Sources.with.Goals as goal

pub returns-in-One : goal.returns-in-One
returns-in-One c =
    let fits : FitsSigned w64 c.in-One.first = search rules in
    let g : FitsSigned w64 c.args.value = search rules in
    let first : c.first_two.result ≡ resolution (resolution Z (logic_of c.in-One.first)) (logic_of c.args.value) =
    c.first_two.ensures ∙ (ap (λ (x : ℤ). resolution (resolution Z (logic_of x)) (logic_of (to_z w64 (of_z w64 c.args.value)))) (to_z-of_z w64 c.in-One.first fits) ∙ ap (λ (y : ℤ). resolution (resolution Z (logic_of c.in-One.first)) (logic_of y)) (to_z-of_z w64 c.args.value g)) in
    rw c.in-One.is (ap sources.Folded first)
