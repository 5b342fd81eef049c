-- The names in a wait statement break no rule where those in each of its parts break none.
use Rattle.std.proofs.Common.{◌≡◌, ℕ, Bool, true, false, List, [], ◌∷◌, ◌++◌, refl, ap, ◌∙◌}
use Rattle.std.specs.Prelude.{◌&&◌, not, if◌then◌else◌}
use Rattle.std.specs.List.{list_all, flat_map}
use Rattle.vhdl_units.specs.Faults.{at}
use Rattle.vhdl_units.specs.declared.fault.Rule.{Rule}
use Rattle.vhdl_names_typing.specs.Faults.{is_known}
use Rattle.vhdl_names_typing.specs.declared.told.NameTold.{NameTold}
use Rattle.vhdl_names_rules.specs.Statements.{is_no_object, names_of, wait_names}
use Rattle.vhdl_names_rules.specs.Values.{optional_names}
use Rattle.vhdl_names_rules.specs.declared.told.WaitTold.{WaitTold}
use Rattle.vhdl_names_rules.proofs.Known.{known_both}
use Rattle.vhdl_units.specs.declared.fault.Rule.TheVariants as rule

unless_broken : (b : Bool) (place : ℕ) (r : Rule) → is_known (if b then at place r else []) ≡ not b
unfolding is_known
unless_broken true place r = refl
unless_broken false place r = refl

pub name_known : (n : NameTold) → is_known (names_of n) ≡ (is_known n.names && not (is_no_object n.denotes))
unfolding names_of
name_known n =
    known_both n.names (if is_no_object n.denotes then at n.place rule.WrongKind else [])
    ∙ ap (λ b. is_known n.names && b) (unless_broken (is_no_object n.denotes) n.place rule.WrongKind)

each_known : (names : List NameTold) → is_known (flat_map names_of names) ≡ list_all (λ n. is_known (names_of n)) names
unfolding is_known
each_known [] = refl
each_known (n ∷ names) = known_both (names_of n) (flat_map names_of names) ∙ ap (λ b. is_known (names_of n) && b) (each_known names)

pub wait_known : (wait : WaitTold) → is_known (wait_names wait) ≡ (list_all (λ n. is_known (names_of n)) wait.on && (is_known (optional_names wait.until) && is_known (optional_names wait.time)))
unfolding wait_names
wait_known wait =
    known_both (flat_map names_of wait.on) (optional_names wait.until ++ optional_names wait.time)
    ∙ ap (λ b. b && is_known (optional_names wait.until ++ optional_names wait.time)) (each_known wait.on)
    ∙ ap (λ b. list_all (λ n. is_known (names_of n)) wait.on && b) (known_both (optional_names wait.until) (optional_names wait.time))
