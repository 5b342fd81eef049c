-- Heads of compound statements at which no rule is broken have meanings (IEEE Std 1076-2008, clauses 10.9 and 10.10).
use Rattle.std.proofs.Common.{◌≡◌, ℕ, Bool, true, false, not, ◌&&◌, ◌||◌, Option, Some, None, List, [], ◌∷◌, ◌++◌, filter, is_some, map, flat_map, cond, refl, ap, sym, subst, ◌∙◌}
use Rattle.std.specs.List.{list_all}
use Rattle.vhdl_names_checker.specs.After.{after}
use Rattle.vhdl_names_checker.specs.Around.{Around}
use Rattle.vhdl_names_checker.specs.Events.{Event}
use Rattle.vhdl_names_checker.specs.Faults.{faults, loop_faults, subject}
use Rattle.vhdl_names_checker.specs.Telling.{bounds_here, choice_here as choice_told_here, expression, seen_here}
use Rattle.vhdl_names_laws.proofs.Empty.{Found, and_both, and_left, and_right, empty_left, empty_right, found, from_not, none_broken}
use Rattle.vhdl_names_laws.proofs.PartValues.{asked_known, no_typing, value_tested}
use Rattle.vhdl_names_laws.specs.KnownParts.{known_choices, known_scheme}
use Rattle.vhdl_names_laws.proofs.Knows.{known_between, known_one, known_others}
use Rattle.vhdl_names_laws.specs.Known.{known_choice, known_range, known_value}
use Rattle.vhdl_names_laws.specs.Meanings.{BoundsTell, ChoiceTells, HasMeanings}
use Rattle.vhdl_names_laws.specs.Tells.{Agrees, Tells}
use Rattle.vhdl_names_meaning.specs.Ranges.{choice_at, common_type, range_at, range_of}
use Rattle.vhdl_names_meaning.specs.Settling.{settled}
use Rattle.vhdl_names_meaning.specs.declared.candidates.Candidate.{Candidate, out-Candidate}
use Rattle.vhdl_names_meaning.specs.declared.candidates.ChoiceCandidate.{ChoiceCandidate}
use Rattle.vhdl_names_meaning.specs.declared.candidates.Denoted.{Denoted}
use Rattle.vhdl_names_meaning.specs.declared.candidates.RangeCandidate.{RangeCandidate}
use Rattle.vhdl_names_operators.specs.Places.{common_discrete, is_common_discrete, only, sole}
use Rattle.vhdl_names_overloads.proofs.Same.{same_self}
use Rattle.vhdl_names_operators.proofs.Members.{has_filter}
use Rattle.vhdl_names_operators.proofs.Sole.{sole_has}
use Rattle.vhdl_names_operators.specs.Sets.{has}
use Rattle.vhdl_names_resolving.specs.Statements.{choices_resolved, for_resolved, loop_over, scheme_resolved, subject_resolved, type_or_integer}
use Rattle.vhdl_names_resolving.specs.Values.{choice_here, range_here, value_at}
use Rattle.vhdl_names_rules.specs.Cases.{arm_faults, bound_chosen, choice_faults, chosen, is_alone, is_choosable, is_ranged, subject_faults, subject_type, unstatic_choice}
use Rattle.vhdl_names_rules.specs.Subtypes.{loop_range, uncommon}
use Rattle.vhdl_names_rules.specs.Values.{asked}
use Rattle.vhdl_names_scope.specs.Declarations.{Named}
use Rattle.vhdl_tree.specs.declared.declarations.Bounds.{Bounds}
use Rattle.vhdl_tree.specs.declared.expressions.Choice.{Choice}
use Rattle.vhdl_tree.specs.declared.expressions.Direction.{Direction}
use Rattle.vhdl_tree.specs.declared.expressions.Expr.{Expr}
use Rattle.vhdl_tree.specs.declared.statements.Scheme.{Scheme}
use Rattle.vhdl_tokens.specs.declared.token.Token.{Token}
use Rattle.vhdl_units.specs.Types.{is_discrete, same}
use Rattle.vhdl_units.specs.declared.base_type.BaseType.{BaseType}
use Rattle.vhdl_units.specs.declared.fault.Fault.{Fault}
use Rattle.vhdl_names_typing.specs.Faults.{break_if, typing_of}
use Rattle.vhdl_names_typing.specs.declared.told.BoundsTold.{BoundsTold}
use Rattle.vhdl_names_typing.specs.declared.told.ChoiceTold.{ChoiceTold}
use Rattle.vhdl_names_typing.specs.declared.told.NameTold.{NameTold}
use Rattle.vhdl_names_typing.specs.declared.told.Told.{Told}
use Rattle.vhdl_units.specs.declared.base_type.BaseType.TheVariants as base
use Rattle.vhdl_names_typing.specs.declared.told.BoundsTold.TheVariants as bounds_told
use Rattle.vhdl_names_meaning.specs.declared.candidates.ChoiceCandidate.TheVariants as choice
use Rattle.vhdl_names_typing.specs.declared.told.ChoiceTold.TheVariants as choice_told
use Rattle.vhdl_names_meaning.specs.declared.candidates.RangeCandidate.TheVariants as range
use Rattle.vhdl_units.specs.declared.fault.Rule.TheVariants as rule
use Rattle.vhdl_tree.specs.declared.statements.Scheme.TheVariants as scheme

-- ---- one type of a set

only_has : (types : List BaseType) (t : BaseType) → only types ≡ Some t → has types t ≡ true
unfolding only has
only_has [] t h = absurd cc
only_has (u ∷ []) t h = let e : u ≡ t = cc in rw (e, same_self t) refl
only_has (u ∷ v ∷ types) t h = absurd cc

only_kept : (p : BaseType → Bool) (types : List BaseType) (t : BaseType) → only (filter p types) ≡ Some t → (has types t && p t) ≡ true
only_kept p types t h = sym (has_filter p types t) ∙ only_has (filter p types) t h

subject_has : (told : Told) (t : BaseType) → subject_type told ≡ Some t → has told.types t ≡ true
unfolding subject_type
subject_has told t h = and_left (has told.types t) (is_choosable t) (only_kept is_choosable told.types t h)

sole_kept : (p : BaseType → Bool) (types : List BaseType) (t : BaseType) → sole (filter p types) ≡ Some t → (has types t && p t) ≡ true
sole_kept p types t h = sym (has_filter p types t) ∙ sole_has (filter p types) t h

common_left : (ls rs : List BaseType) (t : BaseType) → common_discrete ls rs ≡ Some t → has ls t ≡ true
unfolding common_discrete
common_left ls rs t h = and_left (has ls t) (is_common_discrete rs t) (sole_kept (is_common_discrete rs) ls t h)

common_right : (ls rs : List BaseType) (t : BaseType) → common_discrete ls rs ≡ Some t → has rs t ≡ true
unfolding common_discrete is_common_discrete
common_right ls rs t h = and_right (is_discrete t) (has rs t) (and_right (has ls t) (is_common_discrete rs t) (sole_kept (is_common_discrete rs) ls t h))

-- ---- choices

chosen_known : (t : BaseType) (told : Told) (c : Candidate) → Tells told c → chosen (Some t) told ≡ [] → known_value (settled c t) ≡ true
unfolding chosen
chosen_known t told c tells h = asked_known t told c tells (empty_left (asked (Some t) told) (unstatic_choice told) h)

bound_known : (t : BaseType) (told : Told) (c : Candidate) → Tells told c → bound_chosen (Some t) told ≡ [] → known_value (settled c t) ≡ true
unfolding bound_chosen
bound_known t told c tells h = chosen_known t told c tells (empty_left (chosen (Some t) told) (break_if (not (is_ranged (Some t))) told.names told.place rule.Type) h)

choice_known : (t : BaseType) (alone : Bool) (told : ChoiceTold) (c : ChoiceCandidate) → ChoiceTells told c → choice_faults (Some t) alone told ≡ [] → known_choice (choice_at t c) ≡ true
unfolding ChoiceTells choice_faults choice_at
choice_known t alone (choice_told.Value told) (choice.Value c) tells h = known_one (settled c t) ∙ chosen_known t told c tells h
choice_known t alone (choice_told.Range left right) (choice.Range c direction d) tells h =
    let first = bound_chosen (Some t) left in
    let second = bound_chosen (Some t) right in
    known_between (settled c t) direction (settled d t)
    ∙ and_both _ _ (bound_known t left c tells.0 (empty_left first second h)) (bound_known t right d tells.1 (empty_right first second h))
choice_known t alone (choice_told.Others place) choice.Others tells h = known_others
choice_known t alone _ _ tells h = absurd tells

-- ---- the ranges of loops

pub range_known : (told : BoundsTold) (r : RangeCandidate) → BoundsTell told r → loop_range told ≡ [] → known_range (range_at (type_or_integer (common_type r)) r) ≡ true
unfolding BoundsTell loop_range uncommon known_range range_at common_type type_or_integer
range_known (bounds_told.Range left right) (range.Bounds c direction d) tells h =
    let names = left.names ++ right.names in
    let typing = typing_of left ++ typing_of right in
    let last = uncommon left right in
    let no_names : left.names ++ right.names ≡ [] = empty_left names (typing ++ last) h in
    let rest : typing ++ last ≡ [] = empty_right names (typing ++ last) h in
    let no_typings : typing_of left ++ typing_of right ≡ [] = empty_left typing last rest in
    let common : Found (common_discrete left.types right.types) = found _ (from_not _ (none_broken (not (is_some (common_discrete left.types right.types))) (left.names ++ right.names) left.place rule.Type no_names (empty_right typing last rest))) in
    let l : Agrees left c = tells.0 (empty_left left.names right.names no_names) (no_typing left (empty_left (typing_of left) (typing_of right) no_typings)) in
    let r : Agrees right d = tells.1 (empty_right left.names right.names no_names) (no_typing right (empty_right (typing_of left) (typing_of right) no_typings)) in
    let P : Option BaseType → Type 0 = λ x. (known_value (settled c (type_or_integer x)) && known_value (settled d (type_or_integer x))) ≡ true in
    let same : common_discrete (out-Candidate c).types (out-Candidate d).types ≡ Some common.value = rw (l.types, r.types) common.is in
    subst P (sym same) (and_both _ _ (l.known common.value (common_left left.types right.types common.value common.is)) (r.known common.value (common_right left.types right.types common.value common.is)))
range_known (bounds_told.Name n) (range.Name d) tells h = tells (empty_left n.names n.typing h) (empty_right n.names n.typing h)
range_known _ _ tells h = absurd tells

module _ (text : List ℕ) (a : Around) (here : HasMeanings text (seen_here text a)) where
  -- ---- case statements

  -- what a case statement chooses by has a type, and is known at it
  pub record KnownSubject (e : Expr) : Type 0 where
    pub type : BaseType
    pub is : subject_type (expression text a e) ≡ Some type
    pub known : known_value (subject_resolved text (after text (Event.Chosen e) a) e) ≡ true

  subject_at : (e : Expr) (t : BaseType) → subject_type (expression text a e) ≡ Some t → known_value (value_at text a t e) ≡ true
      → known_value (subject_resolved text (after text (Event.Chosen e) a) e) ≡ true
  unfolding after subject subject_resolved value_at seen_here type_or_integer
  subject_at e t is known = let P : Option BaseType → Type 0 = λ x. known_value (value_at text a (type_or_integer x) e) ≡ true in subst P (sym is) known

  value_chosen : (e : Expr) (t : BaseType) → subject_type (expression text a e) ≡ Some t → (expression text a e).names ≡ [] → typing_of (expression text a e) ≡ [] → known_value (value_at text a t e) ≡ true
  unfolding value_at expression
  value_chosen e t is names typing = (here.expressions e names (no_typing (expression text a e) typing)).known t (subject_has (expression text a e) t is)

  pub subject_known : (file : List Named) (e : Expr) → faults text file a (Event.Chosen e) ≡ [] → KnownSubject e
  unfolding faults subject_faults
  subject_known file e h =
      let told = expression text a e in
      let typing = typing_of told in
      let last = break_if (not (is_some (subject_type told))) told.names told.place rule.Type in
      let names : told.names ≡ [] = empty_left told.names (typing ++ last) h in
      let rest : typing ++ last ≡ [] = empty_right told.names (typing ++ last) h in
      let type : Found (subject_type told) = found _ (from_not _ (none_broken (not (is_some (subject_type told))) told.names told.place rule.Type names (empty_right typing last rest))) in
      record { type = type.value; is = type.is; known = subject_at e type.value type.is (value_chosen e type.value type.is names (empty_left typing last rest)) }

  choices_at : (t : BaseType) (alone : Bool) (choices : List Choice) → flat_map (choice_faults (Some t) alone) (map (choice_told_here text a) choices) ≡ [] → list_all known_choice (map (choice_here text a t) choices) ≡ true
  unfolding choice_told_here choice_here
  choices_at t alone [] h = refl
  choices_at t alone (c ∷ choices) h =
      let first = choice_faults (Some t) alone (choice_told_here text a c) in
      let rest = flat_map (choice_faults (Some t) alone) (map (choice_told_here text a) choices) in
      and_both _ _ (choice_known t alone _ _ (here.choices c) (empty_left first rest h)) (choices_at t alone choices (empty_right first rest h))

  pub choices_known : (file : List Named) (is_last : Bool) (choices : List Choice) (t : BaseType) → subject a.subjects ≡ Some t → faults text file a (Event.Arm is_last choices) ≡ []
      → known_choices (choices_resolved text a choices) ≡ true
  unfolding faults arm_faults known_choices choices_resolved type_or_integer
  choices_known file is_last choices t is h =
      let alone = is_last && is_alone (map (choice_told_here text a) choices) in
      let P : Option BaseType → Type 0 = λ x. flat_map (choice_faults x alone) (map (choice_told_here text a) choices) ≡ [] in
      let Q : Option BaseType → Type 0 = λ x. list_all known_choice (map (choice_here text a (type_or_integer x)) choices) ≡ true in
      subst Q (sym is) (choices_at t alone choices (subst P is h))

  -- ---- loops

  scheme_of : (s : Scheme) → loop_faults text a s ≡ [] → known_scheme (scheme_resolved text a s) ≡ true
  unfolding loop_faults known_scheme scheme_resolved for_resolved loop_over range_here bounds_here
  scheme_of scheme.Forever h = refl
  scheme_of (scheme.While e) h = value_tested text a here e h
  scheme_of (scheme.For token b) h = range_known _ _ (here.ranges b) h

  pub scheme_known : (file : List Named) (label : Option Token) (s : Scheme) → faults text file a (Event.Looped label s) ≡ [] → known_scheme (scheme_resolved text a s) ≡ true
  unfolding faults
  scheme_known file label s h = scheme_of s h
