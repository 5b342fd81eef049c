-- Names of objects at which no rule is broken: targets, and what is waited for.
use Rattle.std.proofs.Common.{◌≡◌, ℕ, Bool, true, Some, List, [], ◌∷◌, ◌++◌, map, flat_map, refl, ap, sym, ◌∙◌}
use Rattle.std.specs.List.{list_all}
use Rattle.vhdl_names_checker.specs.Around.{Around}
use Rattle.vhdl_names_checker.specs.Telling.{name_here, seen_here}
use Rattle.vhdl_names_laws.proofs.Empty.{and_both, empty_left, empty_right}
use Rattle.vhdl_names_laws.proofs.PartNames.{NeverUnknown, never_unknown}
use Rattle.vhdl_names_laws.proofs.Knows.{known_object, known_parts}
use Rattle.vhdl_names_laws.specs.Known.{known_value}
use Rattle.vhdl_names_laws.specs.Meanings.{HasMeanings, IsObject, NameTells, ObjectNamed}
use Rattle.vhdl_names_meaning.specs.Names.{reference, target_of}
use Rattle.vhdl_names_meaning.specs.declared.candidates.Denoted.{Denoted}
use Rattle.vhdl_names_resolving.specs.Statements.{target_type as resolved_type}
use Rattle.vhdl_names_resolving.specs.Values.{denoted_here, target_here}
use Rattle.vhdl_names_rules.specs.Statements.{sensitive_as, sensitive_faults, sensitivity_faults, target_as, target_faults, target_type, target_type_as}
use Rattle.vhdl_tree.specs.declared.expressions.Name.{Name}
use Rattle.vhdl_units.specs.declared.base_type.BaseType.{BaseType}
use Rattle.vhdl_names_typing.specs.declared.told.Denotes.{Denotes}
use Rattle.vhdl_names_typing.specs.declared.told.NameTold.{NameTold}
use Rattle.vhdl_names_typing.specs.declared.told.ObjectName.{ObjectName}
use Rattle.vhdl_names_meaning.specs.declared.candidates.Denoted.TheVariants as denoted_as
use Rattle.vhdl_names_typing.specs.declared.told.Denotes.TheVariants as denotes

-- an object is named, of a type that both know
pub record Names (n : NameTold) (d : Denoted) : Type 0 where
  pub base : BaseType
  pub told : target_type n ≡ Some base
  pub resolved : resolved_type d ≡ base
  pub known : known_value (target_of d) ≡ true

object_names : (n : NameTold) (d : Denoted) (o : ObjectName) → n.denotes ≡ denotes.Object o → IsObject o d → Names n d
unfolding target_type target_type_as resolved_type target_of
object_names n d o e is = record {
  base = is.base;
  told = rw e is.typed;
  resolved = rw is.is refl;
  known = rw is.is (known_object (reference o.object is.parts is.base) ∙ (known_parts o.object is.parts is.base ∙ is.known));
}

-- nothing else is a target
target_names : (by : Bool) (n : NameTold) (d : Denoted) (x : Denotes) → n.denotes ≡ x → (x ≡ denotes.Unknown → ⊥) → target_as by x n ≡ [] → ObjectNamed x d → Names n d
unfolding target_as ObjectNamed
target_names by n d denotes.Unknown e never h is = absurd (never refl)
target_names by n d (denotes.Object o) e never h is = object_names n d o e is
target_names by n d _ e never h is = absurd cc

sensitive_names : (n : NameTold) (d : Denoted) (x : Denotes) → n.denotes ≡ x → (x ≡ denotes.Unknown → ⊥) → sensitive_as x n ≡ [] → ObjectNamed x d → Names n d
unfolding sensitive_as ObjectNamed
sensitive_names n d denotes.Unknown e never h is = absurd (never refl)
sensitive_names n d (denotes.Object o) e never h is = object_names n d o e is
sensitive_names n d _ e never h is = absurd cc

pub target_named : (by : Bool) (n : NameTold) (d : Denoted) → NameTells n d → NeverUnknown n → target_faults by n ≡ [] → Names n d
unfolding target_faults
target_named by n d tells never h =
    let names : n.names ≡ [] = empty_left n.names (n.typing ++ target_as by n.denotes n) h in
    let rest : n.typing ++ target_as by n.denotes n ≡ [] = empty_right n.names (n.typing ++ target_as by n.denotes n) h in
    target_names by n d n.denotes refl (λ e. never e names) (empty_right n.typing (target_as by n.denotes n) rest)
    (tells names (empty_left n.typing (target_as by n.denotes n) rest))

pub sensitive_named : (n : NameTold) (d : Denoted) → NameTells n d → NeverUnknown n → sensitive_faults n ≡ [] → Names n d
unfolding sensitive_faults
sensitive_named n d tells never h =
    let names : n.names ≡ [] = empty_left n.names (n.typing ++ sensitive_as n.denotes n) h in
    let rest : n.typing ++ sensitive_as n.denotes n ≡ [] = empty_right n.names (n.typing ++ sensitive_as n.denotes n) h in
    sensitive_names n d n.denotes refl (λ e. never e names) (empty_right n.typing (sensitive_as n.denotes n) rest)
    (tells names (empty_left n.typing (sensitive_as n.denotes n) rest))

module _ (text : List ℕ) (a : Around) (here : HasMeanings text (seen_here text a)) where
  pub target_found : (by : Bool) (n : Name) → target_faults by (name_here text a n) ≡ [] → Names (name_here text a n) (denoted_here text a n)
  unfolding name_here denoted_here
  target_found by n h = target_named by _ _ (here.names n) (never_unknown text (seen_here text a) n) h

  signal_known : (n : Name) → sensitive_faults (name_here text a n) ≡ [] → known_value (target_here text a n) ≡ true
  unfolding name_here denoted_here target_here
  signal_known n h = (sensitive_named _ _ (here.names n) (never_unknown text (seen_here text a) n) h).known

  pub signals_known : (names : List Name) → sensitivity_faults (map (name_here text a) names) ≡ [] → list_all known_value (map (target_here text a) names) ≡ true
  unfolding sensitivity_faults
  signals_known [] h = refl
  signals_known (n ∷ names) h =
      let first = sensitive_faults (name_here text a n) in
      let rest = flat_map sensitive_faults (map (name_here text a) names) in
      and_both _ _ (signal_known n (empty_left first rest h)) (signals_known names (empty_right first rest h))
