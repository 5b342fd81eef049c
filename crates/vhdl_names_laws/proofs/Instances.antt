-- Instances and architectures at which no rule is broken have meanings (IEEE Std 1076-2008, clauses 3.3, 6.5.7 and
-- 11.7).
use Rattle.std.proofs.Common.{◌≡◌, ℕ, zero, suc, ◌+◌, Bool, true, false, not, ◌&&◌, ◌||◌, Option, Some, None, List, [], ◌∷◌, ◌++◌, is_some, map, slice_get, cond, refl, ap, sym, subst, ◌∙◌}
use Rattle.vhdl_names_checker.specs.After.{architecture_key, entity_number}
use Rattle.vhdl_names_checker.specs.Around.{Around}
use Rattle.vhdl_names_checker.specs.Events.{Event}
use Rattle.vhdl_names_checker.specs.Faults.{architecture_faults, architecture_missing, entity_for, entity_missing, faults, instance_faults, instance_of, interface_at, maps_faults, unit_twice}
use Rattle.vhdl_names_checker.specs.Telling.{actual_here, association_here, associations_here, expression, formal_here, formal_in, seen_here}
use Rattle.vhdl_names_checker.specs.declared.interface.Interface.{Interface}
use Rattle.vhdl_names_laws.proofs.Empty.{Found, and_both, empty_left, empty_right, found}
use Rattle.vhdl_names_laws.proofs.PartValues.{value_valued}
use Rattle.vhdl_names_laws.specs.KnownParts.{known_actual, known_association, known_associations, known_instance}
use Rattle.vhdl_names_laws.specs.Known.{known_value}
use Rattle.vhdl_names_laws.specs.Meanings.{HasMeanings}
use Rattle.vhdl_names_resolving.specs.Instances.{actual_resolved, association_resolved, association_to, associations_from, formal_of, formal_type, instance_by, instance_resolved, instance_to, interface_of}
use Rattle.vhdl_names_resolving.specs.Values.{value_at}
use Rattle.vhdl_names_rules.specs.Associations.{Matching, actual_for, actual_names, association_faults, association_for, formal_for, formal_place, generic_actual, is_actual_for, is_generic, is_mode_for, is_named_formal, is_used, map_faults, map_from, matched, nth, port_actual, unless, unless_used, unmatched, value_for, without_formal}
use Rattle.vhdl_names_rules.specs.Values.{valued}
use Rattle.vhdl_names_rules.specs.declared.told.ActualTold.{ActualTold}
use Rattle.vhdl_names_rules.specs.declared.told.AssociationTold.{AssociationTold}
use Rattle.vhdl_names_rules.specs.declared.told.FormalTold.{FormalTold}
use Rattle.vhdl_names_scope.specs.Declarations.{Named, own}
use Rattle.vhdl_names_scope.specs.Names.{word_in}
use Rattle.vhdl_tokens.specs.declared.token.Token.{Token}
use Rattle.vhdl_tree.specs.declared.units.Actual.{Actual}
use Rattle.vhdl_tree.specs.declared.units.Association.{Association}
use Rattle.vhdl_tree.specs.declared.units.Instantiation.{Instantiation}
use Rattle.vhdl_units.specs.declared.entry.Object.{Object}
use Rattle.vhdl_units.specs.declared.fault.Fault.{Fault}
use Rattle.vhdl_names_typing.specs.Faults.{break_if, is_known}
use Rattle.vhdl_names_typing.specs.declared.told.Told.{Told}
use Rattle.vhdl_tree.specs.declared.units.Actual.TheVariants as actual
use Rattle.vhdl_names_rules.specs.declared.told.ActualTold.TheVariants as actual_told
use Rattle.vhdl_names_rules.specs.declared.told.FormalTold.TheVariants as formal_told
use Rattle.vhdl_units.specs.declared.fault.Rule.TheVariants as rule

-- ---- formals

nth_is : (objects : List Object) (n : ℕ) → nth objects n ≡ slice_get objects n
unfolding nth
nth_is [] n = refl
nth_is (o ∷ objects) zero = refl
nth_is (o ∷ objects) (suc n) = nth_is objects n

unless_false : (b : Bool) (x : Option Object) (o : Object) → unless b x ≡ Some o → b ≡ false
unfolding unless
unless_false true x o h = absurd cc
unless_false false x o h = refl

unless_kept : (b : Bool) (x : Option Object) (o : Object) → unless b x ≡ Some o → x ≡ Some o
unfolding unless
unless_kept true x o h = absurd cc
unless_kept false x o h = h

unused_kept : (used : List ℕ) (x : Option Object) (o : Object) → unless_used used x ≡ Some o → x ≡ Some o
unfolding unless_used
unused_kept used (Some p) o h = unless_kept (is_used used p.number) (Some p) o h
unused_kept used None o h = absurd cc

-- as long as none was named, both count alike
abbrev Counts : Matching → ℕ → Type 0
Counts m position = m.is_named ≡ false → m.position ≡ position

formal_same : (text : List ℕ) (a : Around) (g : Bool) (formals : List Named) (objects : List Object) (m : Matching) (position : ℕ) (token : Option Token) (o : Object)
    → Counts m position → formal_for objects m (formal_here text a g formals token) ≡ Some o → formal_of text g formals objects position token ≡ Some o
unfolding formal_for formal_here formal_of
formal_same text a g formals objects m position None o counts h =
    let at : m.position ≡ position = counts (unless_false m.is_named (nth objects m.position) o h) in
    let is : nth objects m.position ≡ Some o = unless_kept m.is_named (nth objects m.position) o h in
    ap (λ n. slice_get objects n) (sym at) ∙ (sym (nth_is objects m.position) ∙ is)
formal_same text a g formals objects m position (Some token) o counts h = unused_kept m.used (formal_in g (own (word_in text token) formals)) o h

counts_on : (objects : List Object) (m : Matching) (position : ℕ) (f : FormalTold) → Counts m position → Counts (matched objects m f) (position + 1)
unfolding matched is_named_formal
counts_on objects m position (formal_told.Named place o) counts = λ not_named. absurd (by m.is_named not_named)
  where
    by : (b : Bool) → (b || true) ≡ false → ⊥
    by true h = absurd cc
    by false h = absurd cc
counts_on objects m position formal_told.Positional counts = λ not_named. ap (λ n. n + 1) (counts (by m.is_named not_named))
  where
    by : (b : Bool) → (b || false) ≡ false → b ≡ false
    by true h = h
    by false h = refl

-- ---- actuals

is_broken : (names : List Fault) (place : ℕ) → names ++ break_if true names place rule.Association ≡ [] → ⊥
unfolding break_if is_known
is_broken [] place e = absurd cc
is_broken (f ∷ names) place e = absurd cc

-- what has no formal breaks a rule
formal_found : (x : Option Object) (a : AssociationTold) → association_for x a ≡ [] → Found x
unfolding association_for without_formal
formal_found (Some o) a h = record { value = o; is = refl }
formal_found None a h = absurd (is_broken (actual_names a.actual) (formal_place a) h)

actual_valued : (o : Object) (told : Told) → value_for o told ≡ [] → valued (Some o.base) true told ≡ []
unfolding value_for generic_actual port_actual
actual_valued o told h = by (is_generic o.class) h
  where
    by : (b : Bool) → (cond b (generic_actual o told) (port_actual o told)) ≡ [] → valued (Some o.base) true told ≡ []
    by true e = empty_left (valued (Some o.base) true told) _ e
    by false e = empty_left (valued (Some o.base) true told) _ e

-- ---- architectures

is_there : {X : Type 0} (b : Bool) (xs : List X) (x : X) → (cond b xs (x ∷ [])) ≡ [] → b ≡ true
is_there true xs x h = refl
is_there false xs x h = absurd cc

pub entity_there : (word : List ℕ) (place : ℕ) (a : Around) → entity_missing word place a ≡ [] → is_some (entity_number word a) ≡ true
unfolding entity_missing
entity_there word place a h = is_there (is_some (entity_number word a)) [] _ h

pub architecture_known : (text : List ℕ) (file : List Named) (a : Around) (name entity : Token) (is_bare : Bool) → faults text file a (Event.Architecture name entity is_bare) ≡ []
    → is_some (entity_number (word_in text entity) a) ≡ true
unfolding faults architecture_faults
architecture_known text file a name entity is_bare h =
    entity_there (word_in text entity) entity.start a (empty_left (entity_missing (word_in text entity) entity.start a) (unit_twice (architecture_key (word_in text entity) (word_in text name)) name.start a) h)

-- ---- associations

module _ (text : List ℕ) (a : Around) (here : HasMeanings text (seen_here text a)) where
  actual_known : (o : Object) (x : Actual) → actual_for o (actual_here text a x) ≡ [] → known_actual (actual_resolved text a o.base x) ≡ true
  unfolding actual_for actual_here known_actual actual_resolved
  actual_known o (actual.Expr e) h = value_valued text a here o.base true e (actual_valued o (expression text a e) h)
  actual_known o (actual.Open token) h = refl

  association_at : (x : Option Object) (o : Object) (t : Actual) → x ≡ Some o → actual_for o (actual_here text a t) ≡ [] → known_association (association_to text a x t) ≡ true
  unfolding known_association association_to formal_type
  association_at None o t is h = absurd cc
  association_at (Some p) o t is h = let e : o ≡ p = cc in let P : Object → Type 0 = λ q. actual_for q (actual_here text a t) ≡ [] in actual_known p t (subst P e h)

  in_it : (g : Bool) (formals : List Named) (o : Object) (x : Association) → association_for (Some o) (association_here text a g formals x) ≡ [] → actual_for o (actual_here text a x.actual) ≡ []
  unfolding association_for association_here
  in_it g formals o x e = e

  association_known : (g : Bool) (formals : List Named) (objects : List Object) (m : Matching) (position : ℕ) (x : Association) → Counts m position
      → association_faults objects m (association_here text a g formals x) ≡ [] → known_association (association_resolved text a g formals objects position x) ≡ true
  unfolding association_faults association_here association_resolved
  association_known g formals objects m position x counts h =
      let formal = formal_for objects m (formal_here text a g formals x.formal) in
      let o : Found formal = formal_found formal (association_here text a g formals x) h in
      let P : Option Object → Type 0 = λ y. association_for y (association_here text a g formals x) ≡ [] in
      association_at (formal_of text g formals objects position x.formal) o.value x.actual (formal_same text a g formals objects m position x.formal o.value counts o.is) (in_it g formals o.value x (subst P o.is h))

  associations_known : (g : Bool) (formals : List Named) (objects : List Object) (m : Matching) (position : ℕ) (xs : List Association) → Counts m position
      → map_from objects m (associations_here text a g formals xs) ≡ [] → known_associations (associations_from text a g formals objects position xs) ≡ true
  unfolding map_from associations_here association_here formal_here known_associations associations_from
  associations_known g formals objects m position [] counts h = refl
  associations_known g formals objects m position (x ∷ xs) counts h =
      let first = association_faults objects m (association_here text a g formals x) in
      let next = matched objects m (formal_here text a g formals x.formal) in
      let rest = map_from objects next (map (association_here text a g formals) xs) in
      and_both _ _ (association_known g formals objects m position x counts (empty_left first rest h))
      (associations_known g formals objects next (position + 1) xs (counts_on objects m position (formal_here text a g formals x.formal) counts) (empty_right first rest h))

  map_known : (g : Bool) (formals : List Named) (objects : List Object) (xs : List Association) → map_faults objects (associations_here text a g formals xs) ≡ []
      → known_associations (associations_from text a g formals objects 0 xs) ≡ true
  unfolding map_faults unmatched
  map_known g formals objects xs h = associations_known g formals objects _ 0 xs (λ _. refl) h

  instance_at : (file : List Named) (i : Instantiation) (number : Option ℕ) → instance_of text file a i number ≡ [] → known_instance (instance_by text a number i) ≡ true
  unfolding instance_of maps_faults known_instance instance_by instance_to interface_of
  instance_at file i None h = absurd cc
  instance_at file i (Some n) h =
      let inner = interface_at a.interfaces n in
      let first = architecture_missing text file (word_in text i.entity) i.architecture in
      let generics = map_faults inner.generics (associations_here text a true inner.formals i.generics) in
      let ports = map_faults inner.ports (associations_here text a false inner.formals i.ports) in
      let maps : generics ++ ports ≡ [] = empty_right first (generics ++ ports) h in
      and_both _ _ (map_known true inner.formals inner.generics i.generics (empty_left generics ports maps))
      (map_known false inner.formals inner.ports i.ports (empty_right generics ports maps))

  pub instance_known : (file : List Named) (i : Instantiation) → faults text file a (Event.Instance i) ≡ [] → known_instance (instance_resolved text a i) ≡ true
  unfolding faults instance_faults instance_resolved
  instance_known file i h = instance_at file i (entity_for text i a) h
