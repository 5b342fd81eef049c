-- Declarations at which no rule is broken have meanings (IEEE Std 1076-2008, clauses 5 to 7).
use Rattle.std.proofs.Common.{◌≡◌, ℕ, Bool, true, false, not, ◌&&◌, Option, Some, None, List, [], ◌∷◌, ◌++◌, is_some, map, flat_map, cond, refl, ap, sym, subst, ◌∙◌}
use Rattle.vhdl_names_checker.specs.Around.{Around}
use Rattle.vhdl_names_checker.specs.Declaring.{objects_twice, twice, type_or}
use Rattle.vhdl_names_checker.specs.Events.{Event}
use Rattle.vhdl_names_checker.specs.Faults.{faults}
use Rattle.vhdl_names_checker.specs.Telling.{bounds_here, constrained, expression, objects_here, optional, seen_here, subtype_here, subtype_with}
use Rattle.vhdl_names_laws.proofs.Empty.{Found, and_both, and_left, empty_left, empty_right, found, from_not, none_broken}
use Rattle.vhdl_names_laws.proofs.PartValues.{known_at_type, no_typing, value_valued}
use Rattle.vhdl_names_laws.specs.KnownParts.{known_bounds, known_constraint, known_declaration, known_objects, known_subtype}
use Rattle.vhdl_names_laws.specs.Known.{known_option, known_range, known_value}
use Rattle.vhdl_names_laws.specs.Meanings.{BoundsTell, HasMeanings}
use Rattle.vhdl_names_laws.specs.Tells.{Tells}
use Rattle.vhdl_names_meaning.specs.Ranges.{range_at, range_of}
use Rattle.vhdl_names_meaning.specs.Settling.{settled}
use Rattle.vhdl_names_meaning.specs.declared.candidates.Candidate.{Candidate}
use Rattle.vhdl_names_meaning.specs.declared.candidates.RangeCandidate.{RangeCandidate}
use Rattle.vhdl_names_resolving.specs.Declarations.{constraint_here, enumeration_resolved, narrowed, objects_of, objects_resolved, subtype_of, subtype_resolved, subtyped_resolved}
use Rattle.vhdl_names_resolving.specs.Values.{optional_at, range_here}
use Rattle.vhdl_names_rules.specs.Objects.{all_names, if_known, initial_reads, initial_value, known_faults, mark_type, objects_faults, subtype_faults, unbounded_names}
use Rattle.vhdl_names_rules.specs.Subtypes.{bound_typing, bounds_reads, bounds_typing, index_misfit, index_type, indexed, mark_in, mark_names, misfit, range_misfit, range_type, range_typing, ranged, takes_index, takes_range, unconstrained, unstatic, with_index}
use Rattle.vhdl_names_rules.specs.Values.{asks_if_known, optional_names, valued}
use Rattle.vhdl_names_rules.specs.declared.told.ObjectsTold.{ObjectsTold}
use Rattle.vhdl_names_rules.specs.declared.told.SubtypeTold.{SubtypeTold}
use Rattle.vhdl_names_scope.specs.Declarations.{Named}
use Rattle.vhdl_tokens.specs.declared.token.Token.{Token}
use Rattle.vhdl_tree.specs.declared.declarations.Bounds.{Bounds}
use Rattle.vhdl_tree.specs.declared.declarations.Constraint.{Constraint}
use Rattle.vhdl_tree.specs.declared.declarations.Subtype.{Subtype}
use Rattle.vhdl_tree.specs.declared.declarations.SubtypeDeclaration.{SubtypeDeclaration}
use Rattle.vhdl_tree.specs.declared.declarations.TypeDeclaration.{TypeDeclaration}
use Rattle.vhdl_tree.specs.declared.expressions.Expr.{Expr}
use Rattle.vhdl_units.specs.Types.{is_array}
use Rattle.vhdl_units.specs.declared.base_type.BaseType.{BaseType}
use Rattle.vhdl_units.specs.declared.entry.Class.{Class}
use Rattle.vhdl_units.specs.declared.entry.Entry.{Entry}
use Rattle.vhdl_units.specs.declared.entry.Mark.{Mark}
use Rattle.vhdl_units.specs.declared.fault.Fault.{Fault}
use Rattle.vhdl_names_typing.specs.Faults.{asks, break_if, is_known, typing_of, with_bounds}
use Rattle.vhdl_names_typing.specs.Ranges.{bounds_names}
use Rattle.vhdl_names_typing.specs.declared.told.BoundsTold.{BoundsTold}
use Rattle.vhdl_names_typing.specs.declared.told.NameTold.{NameTold}
use Rattle.vhdl_names_typing.specs.declared.told.Told.{Told}
use Rattle.vhdl_units.specs.declared.declarations.ResolvedSubtype.{ResolvedSubtype}
use Rattle.vhdl_units.specs.declared.base_type.BaseType.TheVariants as base
use Rattle.vhdl_names_typing.specs.declared.told.BoundsTold.TheVariants as bounds_told
use Rattle.vhdl_tree.specs.declared.declarations.Constraint.TheVariants as constraint
use Rattle.vhdl_units.specs.declared.entry.Entry.TheVariants as entry
use Rattle.vhdl_names_meaning.specs.declared.candidates.RangeCandidate.TheVariants as range
use Rattle.vhdl_units.specs.declared.fault.Rule.TheVariants as rule

-- ---- bounds

bound_known : (t : BaseType) (told : Told) (c : Candidate) → Tells told c → told.names ≡ [] → bound_typing (Some t) told ≡ [] → known_value (settled c t) ≡ true
unfolding bound_typing asks_if_known
bound_known t told c tells names h =
    let rest : asks t told ++ unstatic told ≡ [] = empty_right (typing_of told) (asks t told ++ unstatic told) h in
    known_at_type t told c tells names (no_typing told (empty_left (typing_of told) (asks t told ++ unstatic told) h)) (empty_left (asks t told) (unstatic told) rest)

bounds_known : (t : BaseType) (told : BoundsTold) (r : RangeCandidate) → BoundsTell told r → bounds_names told ≡ [] → bounds_typing (Some t) told ≡ [] → known_range (range_at t r) ≡ true
unfolding BoundsTell bounds_names bounds_typing range_typing known_range range_at
bounds_known t (bounds_told.Range left right) (range.Bounds c direction d) tells names h =
    let first = bound_typing (Some t) left in
    let second = bound_typing (Some t) right in
    and_both _ _ (bound_known t left c tells.0 (empty_left left.names right.names names) (empty_left first second h))
    (bound_known t right d tells.1 (empty_right left.names right.names names) (empty_right first second h))
bounds_known t (bounds_told.Name n) (range.Name d) tells names h = tells names (empty_left n.typing _ h)
bounds_known t _ _ tells names h = absurd tells

-- ---- the type's name

mark_found : (place : ℕ) (entries : List Entry) → mark_names place entries ≡ [] → Found (mark_in entries)
unfolding mark_names mark_in
mark_found place [] h = absurd cc
mark_found place (entry.Subtype mark ∷ entries) h = record { value = mark; is = refl }
mark_found place (_ ∷ entries) h = absurd cc

fits_if : (fits : Bool) (place : ℕ) → misfit fits place ≡ [] → fits ≡ true
unfolding misfit
fits_if true place h = refl
fits_if false place h = absurd cc

scalar_if : (m : Mark) (place : ℕ) → range_misfit (Some m) place ≡ [] → range_type (Some m) ≡ Some m.base
unfolding range_misfit range_type takes_range
scalar_if m place h =
    let fits : (not m.resolved && not (is_array m.base)) ≡ true = fits_if _ place h in
    by (is_array m.base) (from_and (not m.resolved) (is_array m.base) fits)
  where
    from_and : (r x : Bool) → (r && not x) ≡ true → x ≡ false
    from_and true true e = absurd cc
    from_and true false e = refl
    from_and false x e = absurd cc

    by : (x : Bool) → x ≡ false → (cond x None (Some m.base)) ≡ Some m.base
    by x e = rw e refl

array_if : (m : Mark) (place : ℕ) → index_misfit (Some m) place ≡ [] → index_type (Some m) ≡ Some base.Integer
unfolding index_misfit index_type
array_if m place h = rw (fits_if (takes_index m) place h) refl

-- ---- subtypes

-- no rule is broken in it
record Sound (s : SubtypeTold) : Type 0 where
  names : s.names ≡ []
  typing : s.typing ≡ []
  constraint : s.constraint ≡ []

sound : (s : SubtypeTold) → s.names ≡ [] → s.typing ≡ [] → s.constraint ≡ [] → Sound s
sound s n t c = record { names = n; typing = t; constraint = c }

if_sound : (names faults : List Fault) → names ≡ [] → if_known names faults ≡ [] → faults ≡ []
unfolding if_known is_known
if_sound [] faults e h = h
if_sound (f ∷ names) faults e h = absurd cc

has_mark : (s : ResolvedSubtype) → known_subtype s ≡ true → is_some s.mark ≡ true
unfolding known_subtype
has_mark s h = and_left (is_some s.mark) (known_bounds s.constraint) h

module _ (text : List ℕ) (a : Around) where
  pub type_known : (d : TypeDeclaration) → known_declaration (enumeration_resolved text a d) ≡ true
  unfolding known_declaration enumeration_resolved
  type_known d = refl

module _ (text : List ℕ) (a : Around) (here : HasMeanings text (seen_here text a)) where
  mark_is : (place : ℕ) (names : List Fault) (mark : Option Mark) (c : Option Constraint) → (constrained text a place names mark c).mark ≡ narrowed mark c
  unfolding constrained narrowed unconstrained ranged indexed
  mark_is place names mark None = refl
  mark_is place names mark (Some (constraint.Range b)) = refl
  mark_is place names mark (Some (constraint.Index b)) = refl

  names_first : (place : ℕ) (names : List Fault) (mark : Option Mark) (c : Option Constraint) → (constrained text a place names mark c).names ≡ [] → names ≡ []
  unfolding constrained unconstrained ranged indexed
  names_first place names mark None h = h
  names_first place names mark (Some (constraint.Range b)) h = empty_left names (bounds_names (bounds_here text a b)) h
  names_first place names mark (Some (constraint.Index b)) h = empty_left names (bounds_names (bounds_here text a b)) h

  range_narrows : (t : Option BaseType) (u : BaseType) (b : Bounds) → t ≡ Some u → bounds_names (bounds_here text a b) ≡ [] → bounds_typing t (bounds_here text a b) ≡ [] → known_range (range_at u (range_here text a b)) ≡ true
  unfolding bounds_here range_here
  range_narrows t u b is names typing =
      let P : Option BaseType → Type 0 = λ x. bounds_typing x (bounds_here text a b) ≡ [] in bounds_known u _ _ (here.ranges b) names (subst P is typing)

  subtype_by : (place : ℕ) (names : List Fault) (m : Mark) (c : Option Constraint) → Sound (constrained text a place names (Some m) c) → known_subtype (subtype_of text a (Some m) c) ≡ true
  unfolding constrained unconstrained ranged indexed narrowed with_index known_subtype known_bounds known_constraint subtype_of constraint_here type_or
  subtype_by place names m None is = refl
  subtype_by place names m (Some (constraint.Range b)) is =
      let told = bounds_here text a b in
      range_narrows (range_type (Some m)) m.base b (scalar_if m place (empty_left (range_misfit (Some m) place) (bounds_reads told) is.constraint))
      (empty_right names (bounds_names told) is.names) is.typing
  subtype_by place names m (Some (constraint.Index b)) is =
      let told = bounds_here text a b in
      range_narrows (index_type (Some m)) base.Integer b (array_if m place (empty_left (index_misfit (Some m) place) (bounds_reads told) is.constraint))
      (empty_right names (bounds_names told) is.names) is.typing

  subtype_known : (s : Subtype) → Sound (subtype_here text a s) → known_subtype (subtype_resolved text a s) ≡ true
  unfolding subtype_here subtype_with subtype_resolved
  subtype_known s is =
      let entries = seen_here text a s.mark in
      let names = mark_names s.mark.start entries in
      let mark : Found (mark_in entries) = mark_found s.mark.start entries (names_first s.mark.start names (mark_in entries) s.constraint is.names) in
      let P : Option Mark → Type 0 = λ m. Sound (constrained text a s.mark.start names m s.constraint) in
      let Q : Option Mark → Type 0 = λ m. known_subtype (subtype_of text a m s.constraint) ≡ true in
      subst Q (sym mark.is) (subtype_by s.mark.start names mark.value s.constraint (subst P mark.is is))

  mark_same : (s : Subtype) → (subtype_here text a s).mark ≡ (subtype_resolved text a s).mark
  unfolding subtype_here subtype_with subtype_resolved subtype_of
  mark_same s = mark_is s.mark.start (mark_names s.mark.start (seen_here text a s.mark)) (mark_in (seen_here text a s.mark)) s.constraint

  -- ---- declarations

  pub subtyped_known : (file : List Named) (d : SubtypeDeclaration) → faults text file a (Event.Subtyped d) ≡ [] → known_declaration (subtyped_resolved text a d) ≡ true
  unfolding faults subtype_faults known_declaration subtyped_resolved
  subtyped_known file d h =
      let s = subtype_here text a d.subtype in
      let last = if_known s.names s.constraint in
      let whole : s.names ++ (s.typing ++ last) ≡ [] = empty_left (s.names ++ (s.typing ++ last)) (twice text a.regions d.name) h in
      let names : s.names ≡ [] = empty_left s.names (s.typing ++ last) whole in
      let rest : s.typing ++ last ≡ [] = empty_right s.names (s.typing ++ last) whole in
      subtype_known d.subtype (sound s names (empty_left s.typing last rest) (if_sound s.names s.constraint names (empty_right s.typing last rest)))

  -- ---- objects

  initial_names : (mark : Option Mark) (e : Option Told) → initial_value mark e ≡ [] → optional_names e ≡ []
  unfolding initial_value optional_names valued
  initial_names mark None h = refl
  initial_names mark (Some told) h = empty_left told.names _ h

  initial_known : (m : Mark) (e : Option Expr) → initial_value (Some m) (optional text a e) ≡ [] → known_option (optional_at text a m.base e) ≡ true
  unfolding initial_value mark_type optional optional_at known_option
  initial_known m None h = refl
  initial_known m (Some e) h = value_valued text a here m.base true e h

  initial_at : (mark : Option Mark) (e : Option Expr) → is_some mark ≡ true → initial_value mark (optional text a e) ≡ [] → known_option (optional_at text a (type_or mark) e) ≡ true
  unfolding type_or
  initial_at (Some m) e is h = initial_known m e h
  initial_at None e is h = absurd cc

  objects_at : (c : Class) (names : List Token) (s : Subtype) (initial : Option Expr) → objects_faults (objects_here text a s initial) names ≡ [] → known_objects (objects_resolved text a c names s initial) ≡ true
  unfolding objects_faults objects_here all_names known_faults known_objects objects_resolved objects_of
  objects_at c tokens s initial h =
      let told = subtype_here text a s in
      let value = initial_value told.mark (optional text a initial) in
      let all = told.names ++ optional_names (optional text a initial) in
      let behind = unbounded_names told.mark tokens ++ initial_reads (optional text a initial) in
      let last = if_known all (told.constraint ++ behind) in
      let names : told.names ≡ [] = empty_left told.names (told.typing ++ (value ++ last)) h in
      let rest : told.typing ++ (value ++ last) ≡ [] = empty_right told.names (told.typing ++ (value ++ last)) h in
      let rest_2 : value ++ last ≡ [] = empty_right told.typing (value ++ last) rest in
      let valued : initial_value told.mark (optional text a initial) ≡ [] = empty_left value last rest_2 in
      let no_names : told.names ++ optional_names (optional text a initial) ≡ [] = rw (names, initial_names told.mark (optional text a initial) valued) refl in
      let constraint : told.constraint ≡ [] = empty_left told.constraint behind (if_sound all (told.constraint ++ behind) no_names (empty_right value last rest_2)) in
      let known : known_subtype (subtype_resolved text a s) ≡ true = subtype_known s (sound told names (empty_left told.typing (value ++ last) rest) constraint) in
      let P : Option Mark → Type 0 = λ m. initial_value m (optional text a initial) ≡ [] in
      and_both _ _ known (initial_at (subtype_resolved text a s).mark initial (has_mark (subtype_resolved text a s) known) (subst P (mark_same s) valued))

  pub objects_known : (file : List Named) (c : Class) (names : List Token) (s : Subtype) (initial : Option Expr) → faults text file a (Event.Objects c names s initial) ≡ []
      → known_objects (objects_resolved text a c names s initial) ≡ true
  unfolding faults
  objects_known file c names s initial h =
      objects_at c names s initial (empty_left (objects_faults (objects_here text a s initial) names) (objects_twice text c (type_or (subtype_here text a s).mark) names a) h)
