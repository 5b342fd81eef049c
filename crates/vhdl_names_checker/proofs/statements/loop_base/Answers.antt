use Rattle.std.proofs.Common.{◌∙◌, ◌≡◌, Some, ap, sym, subst, string_bytes}
use Rattle.vhdl_names_operators.specs.Places.{common_discrete}
use Rattle.vhdl_names_rules.specs.Subtypes.{loop_type}
use Rattle.vhdl_names_scope.specs.Nesting.{Nested}
use Rattle.vhdl_names_typing.specs.Named.{literal_names, types_of}
use Rattle.vhdl_names_checker.specs.Around.{Around}
use Rattle.vhdl_names_checker.proofs.Loop_types.{literal_loop_type}
use Rattle.vhdl_names_checker.proofs.statements.loop_base.Goals as goal

pub returns-in_ok-common-in-Some-clause-base : goal.returns-in_ok-common-in-Some-clause-base
returns-in_ok-common-in-Some-clause-base c =
    literal_loop_type c.args.text.now c.args.around.now c.args.bounds.now (string_bytes c.in-Some.names.left) (string_bytes c.in-Some.names.right) _
    (subst (λ (r : Nested). literal_names c.args.text.now r c.args.bounds.now ≡ Some (string_bytes c.in-Some.names.left, string_bytes c.in-Some.names.right)) c.regions.ensures
    (sym (rw c.in-Some.is at c.in_ok-names.ensures)))
    (c.in_ok-common-in-Some.ensures
    ∙ ap (λ (r : Nested). common_discrete (types_of r (string_bytes c.in-Some.names.left)) (types_of r (string_bytes c.in-Some.names.right)))
    (c.regions-in-Some.ensures ∙ ap (λ (a : Around). a.regions) c.keep_shared.ensures))
    ∙ ap loop_type (sym c.requires)
