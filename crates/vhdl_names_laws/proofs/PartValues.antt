-- Expressions and names at which no rule is broken have meanings.
use Rattle.std.proofs.Common.{◌≡◌, ℕ, Bool, true, false, not, ◌&&◌, Option, Some, None, List, [], ◌∷◌, ◌++◌, map, flat_map, refl, ap, sym, subst, ◌∙◌}
use Rattle.std.specs.List.{list_all}
use Rattle.vhdl_names_checker.specs.Around.{Around}
use Rattle.vhdl_names_checker.specs.Telling.{expression, name_here, optional, seen_here}
use Rattle.vhdl_names_laws.proofs.Empty.{empty_left, empty_right, from_not, none_broken}
use Rattle.vhdl_names_laws.proofs.Knows.{known_object, known_parts}
use Rattle.vhdl_names_laws.specs.Known.{known_option, known_value}
use Rattle.vhdl_names_laws.specs.Meanings.{HasMeanings, IsObject, NameTells, ObjectNamed}
use Rattle.vhdl_names_laws.specs.Tells.{Tells}
use Rattle.vhdl_names_meaning.specs.Names.{reference, target_of}
use Rattle.vhdl_names_meaning.specs.Settling.{settled}
use Rattle.vhdl_names_meaning.specs.declared.candidates.Candidate.{Candidate}
use Rattle.vhdl_names_meaning.specs.declared.candidates.Denoted.{Denoted}
use Rattle.vhdl_names_operators.specs.Places.{fits_alone}
use Rattle.vhdl_names_operators.specs.Sets.{has}
use Rattle.vhdl_names_resolving.specs.Values.{denoted_here, optional_at, target_here, value_at}
use Rattle.vhdl_names_rules.specs.Values.{asked, asked_optional, asks_if_known, tested, valued}
use Rattle.vhdl_tree.specs.declared.expressions.Expr.{Expr}
use Rattle.vhdl_tree.specs.declared.expressions.Name.{Name}
use Rattle.vhdl_units.specs.declared.base_type.BaseType.{BaseType}
use Rattle.vhdl_units.specs.declared.fault.Rule.{Rule}
use Rattle.vhdl_names_typing.specs.Faults.{asks, typing_of, with_bounds, without_bounds}
use Rattle.vhdl_names_typing.specs.declared.told.Told.{Told}
use Rattle.vhdl_units.specs.declared.base_type.BaseType.TheVariants as base
use Rattle.vhdl_units.specs.declared.fault.Rule.TheVariants as rule

-- ---- what a place asks

pub asked_has : (t : BaseType) (told : Told) → told.names ≡ [] → asks t told ≡ [] → has told.types t ≡ true
unfolding asks fits_alone
asked_has t told names h = from_not (has told.types t) (none_broken (not (has told.types t)) told.names told.place rule.Type names h)

pub no_typing : (told : Told) → typing_of told ≡ [] → told.typing ≡ []
unfolding typing_of
no_typing told h = empty_left told.typing (without_bounds told) h

pub known_at_type : (t : BaseType) (told : Told) (c : Candidate) → Tells told c → told.names ≡ [] → told.typing ≡ [] → asks t told ≡ [] → known_value (settled c t) ≡ true
known_at_type t told c tells names typing h = (tells names typing).known t (asked_has t told names h)

pub asked_known : (t : BaseType) (told : Told) (c : Candidate) → Tells told c → asked (Some t) told ≡ [] → known_value (settled c t) ≡ true
unfolding asked asks_if_known
asked_known t told c tells h =
    let names : told.names ≡ [] = empty_left told.names (typing_of told ++ asks t told) h in
    let rest : typing_of told ++ asks t told ≡ [] = empty_right told.names (typing_of told ++ asks t told) h in
    known_at_type t told c tells names (no_typing told (empty_left (typing_of told) (asks t told) rest)) (empty_right (typing_of told) (asks t told) rest)

pub valued_known : (t : BaseType) (s : Bool) (told : Told) (c : Candidate) → Tells told c → valued (Some t) s told ≡ [] → known_value (settled c t) ≡ true
unfolding valued asks_if_known
valued_known t s told c tells h =
    let names : told.names ≡ [] = empty_left told.names (told.typing ++ (with_bounds s told ++ asks t told)) h in
    let rest : told.typing ++ (with_bounds s told ++ asks t told) ≡ [] = empty_right told.names (told.typing ++ (with_bounds s told ++ asks t told)) h in
    let typing : told.typing ≡ [] = empty_left told.typing (with_bounds s told ++ asks t told) rest in
    known_at_type t told c tells names typing (empty_right (with_bounds s told) (asks t told) (empty_right told.typing (with_bounds s told ++ asks t told) rest))

-- ---- by what stands around

module _ (text : List ℕ) (a : Around) (here : HasMeanings text (seen_here text a)) where
  pub value_asked : (t : BaseType) (e : Expr) → asked (Some t) (expression text a e) ≡ [] → known_value (value_at text a t e) ≡ true
  unfolding expression value_at
  value_asked t e h = asked_known t _ _ (here.expressions e) h

  pub value_valued : (t : BaseType) (s : Bool) (e : Expr) → valued (Some t) s (expression text a e) ≡ [] → known_value (value_at text a t e) ≡ true
  unfolding expression value_at
  value_valued t s e h = valued_known t s _ _ (here.expressions e) h

  pub value_tested : (e : Expr) → tested (expression text a e) ≡ [] → known_value (value_at text a base.Boolean e) ≡ true
  unfolding tested
  value_tested e h = value_asked base.Boolean e h

  pub option_asked : (t : BaseType) (e : Option Expr) → asked_optional t (optional text a e) ≡ [] → known_option (optional_at text a t e) ≡ true
  unfolding asked_optional optional optional_at known_option
  option_asked t None h = refl
  option_asked t (Some e) h = value_asked t e h
