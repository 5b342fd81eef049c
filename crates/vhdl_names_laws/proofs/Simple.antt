-- Simple statements at which no rule is broken have meanings (IEEE Std 1076-2008, clauses 10 and 11).
use Rattle.std.proofs.Common.{◌≡◌, ℕ, Bool, true, false, Option, Some, None, List, [], ◌∷◌, ◌++◌, map, flat_map, refl, ap, sym, subst, ◌∙◌}
use Rattle.std.proofs.lemmas.Grind.{flat_map-append}
use Rattle.std.specs.List.{list_all}
use Rattle.vhdl_names_checker.specs.Around.{Around}
use Rattle.vhdl_names_checker.specs.Events.{Event}
use Rattle.vhdl_names_checker.specs.Faults.{faults, is_in_loop, jump_place}
use Rattle.vhdl_names_checker.specs.Telling.{alternative_condition, alternative_elements, conditions, element_here, expression, name_here, option_list, optional, reject, seen_here, wait_here, waveforms}
use Rattle.vhdl_names_laws.proofs.Empty.{and_both, empty_left, empty_right}
use Rattle.vhdl_names_laws.proofs.Objects.{Names, signals_known, target_found}
use Rattle.vhdl_names_laws.proofs.PartValues.{option_asked, value_asked, value_tested, value_valued}
use Rattle.vhdl_names_laws.specs.KnownParts.{known_alternative, known_assertion, known_assignment, known_concurrent_assignment, known_delay, known_element, known_jump, known_sensitivity, known_wait, known_waveform}
use Rattle.vhdl_names_laws.specs.Known.{known_option, known_value}
use Rattle.vhdl_names_laws.specs.Meanings.{HasMeanings}
use Rattle.vhdl_names_resolving.specs.Statements.{alternative_resolved, assertion_resolved, assignment_resolved, assignment_to, concurrent_resolved, concurrent_to, delay_resolved, element_resolved, jump_resolved, sensitivity_resolved, wait_resolved, waveform_resolved, target_type as resolved_type}
use Rattle.vhdl_names_resolving.specs.Values.{denoted_here, optional_at, target_here, value_at}
use Rattle.vhdl_names_meaning.specs.Names.{target_of}
use Rattle.vhdl_names_rules.specs.Statements.{element_faults, is_static_target, jump_faults, sensitivity_faults, severity_faults, signal_assignment_faults, target_faults, target_type, variable_assignment_faults, wait_faults, wait_names, waveform_faults}
use Rattle.vhdl_names_rules.specs.Values.{asked_optional, tested, valued, optional_names}
use Rattle.vhdl_names_rules.specs.declared.told.ElementTold.{ElementTold}
use Rattle.vhdl_names_scope.specs.Declarations.{Named}
use Rattle.vhdl_tree.specs.declared.expressions.Expr.{Expr}
use Rattle.vhdl_tree.specs.declared.expressions.Name.{Name}
use Rattle.vhdl_tree.specs.declared.statements.Assertion.{Assertion}
use Rattle.vhdl_tree.specs.declared.statements.Delay.{Delay}
use Rattle.vhdl_tree.specs.declared.statements.Element.{Element}
use Rattle.vhdl_tree.specs.declared.statements.Jump.{Jump}
use Rattle.vhdl_tree.specs.declared.statements.SignalAssignment.{SignalAssignment}
use Rattle.vhdl_tree.specs.declared.statements.Wait.{Wait}
use Rattle.vhdl_tree.specs.declared.units.Alternative.{Alternative}
use Rattle.vhdl_tree.specs.declared.units.ConcurrentAssignment.{ConcurrentAssignment}
use Rattle.vhdl_tree.specs.declared.units.Sensitivity.{Sensitivity}
use Rattle.vhdl_units.specs.declared.base_type.BaseType.{BaseType}
use Rattle.vhdl_units.specs.declared.fault.Fault.{Fault}
use Rattle.vhdl_names_typing.specs.Faults.{break_if}
use Rattle.vhdl_names_typing.specs.declared.told.Told.{Told}
use Rattle.vhdl_units.specs.declared.base_type.BaseType.TheVariants as base
use Rattle.vhdl_tree.specs.declared.statements.Delay.TheVariants as delay
use Rattle.vhdl_units.specs.declared.fault.Rule.TheVariants as rule
use Rattle.vhdl_tree.specs.declared.units.Sensitivity.TheVariants as sensitivity

module _ (text : List ℕ) (a : Around) where
  -- the target and the value of a variable assignment
  pub record KnownVariable (target : Name) (value : Expr) : Type 0 where
    pub known_target : known_value (target_of (denoted_here text a target)) ≡ true
    pub known : known_value (value_at text a (resolved_type (denoted_here text a target)) value) ≡ true

module _ (text : List ℕ) (a : Around) (here : HasMeanings text (seen_here text a)) where
  -- ---- waits, assertions, conditions, next and exit

  waits : (w : Wait) → (listed : Bool) → wait_faults listed (wait_here text a w) ≡ [] → known_wait (wait_resolved text a w) ≡ true
  unfolding wait_faults wait_here known_wait wait_resolved
  waits w listed h =
      let last = break_if listed (wait_names (wait_here text a w)) w.word.start rule.WaitNotAllowed in
      let on = sensitivity_faults (map (name_here text a) w.on) in
      let until = asked_optional base.Boolean (optional text a w.until) in
      let time = asked_optional base.Time (optional text a w.time) in
      let behind : until ++ (time ++ last) ≡ [] = empty_right on (until ++ (time ++ last)) h in
      and_both _ _ (signals_known text a here w.on (empty_left on (until ++ (time ++ last)) h)) (and_both _ _
      (option_asked text a here base.Boolean w.until (empty_left until (time ++ last) behind))
      (option_asked text a here base.Time w.time (empty_left time last (empty_right until (time ++ last) behind))))

  pub wait_known : (file : List Named) (w : Wait) → faults text file a (Event.Waits w) ≡ [] → known_wait (wait_resolved text a w) ≡ true
  unfolding faults
  wait_known file w h = waits w a.is_listed h

  pub assertion_known : (file : List Named) (x : Assertion) → faults text file a (Event.Asserted x) ≡ [] → known_assertion (assertion_resolved text a x) ≡ true
  unfolding faults known_assertion assertion_resolved
  assertion_known file x h = value_tested text a here x.condition (empty_left (tested (expression text a x.condition)) (severity_faults text x.severity) h)

  pub condition_known : (file : List Named) (e : Expr) → faults text file a (Event.Tested e) ≡ [] → known_value (value_at text a base.Boolean e) ≡ true
  unfolding faults
  condition_known file e h = value_tested text a here e h

  pub jump_known : (file : List Named) (j : Jump) → faults text file a (Event.Jumped j) ≡ [] → known_jump (jump_resolved text a j) ≡ true
  unfolding faults jump_faults known_jump jump_resolved
  jump_known file j h = option_asked text a here base.Boolean j.condition (empty_left (asked_optional base.Boolean (optional text a j.condition)) _ h)

  pub names_known : (file : List Named) (names : List Name) → faults text file a (Event.Sensitive names) ≡ [] → known_sensitivity (sensitivity_resolved text a (sensitivity.Names names)) ≡ true
  unfolding faults known_sensitivity sensitivity_resolved
  names_known file names h = signals_known text a here names h

  -- a process without names has nothing to know
  pub all_known_names : known_sensitivity (sensitivity_resolved text a sensitivity.All) ≡ true
  unfolding known_sensitivity sensitivity_resolved
  all_known_names = refl

  pub unlisted_known : known_sensitivity (sensitivity_resolved text a sensitivity.Unlisted) ≡ true
  unfolding known_sensitivity sensitivity_resolved
  unlisted_known = refl

  -- ---- waveforms

  delay_known : (d : Delay) → asked_optional base.Time (reject text a d) ≡ [] → known_delay (delay_resolved text a d) ≡ true
  unfolding asked_optional reject known_delay delay_resolved
  delay_known delay.Inertial h = refl
  delay_known (delay.Reject e) h = value_asked text a here base.Time e h
  delay_known delay.Transport h = refl

  element_known : (t : BaseType) (s : Bool) (e : Element) → element_faults (Some t) s (element_here text a e) ≡ [] → known_element (element_resolved text a t e) ≡ true
  unfolding element_faults element_here known_element element_resolved
  element_known t s e h =
      let value = valued (Some t) s (expression text a e.value) in
      let after = asked_optional base.Time (optional text a e.after) in
      and_both _ _ (value_valued text a here t s e.value (empty_left value after h)) (option_asked text a here base.Time e.after (empty_right value after h))

  waveform_known : (t : BaseType) (s : Bool) (elements : List Element) → waveform_faults (Some t) s (map (element_here text a) elements) ≡ [] → known_waveform (waveform_resolved text a t elements) ≡ true
  unfolding waveform_faults known_waveform waveform_resolved
  waveform_known t s [] h = refl
  waveform_known t s (e ∷ elements) h =
      let first = element_faults (Some t) s (element_here text a e) in
      let rest = flat_map (element_faults (Some t) s) (map (element_here text a) elements) in
      and_both _ _ (element_known t s e (empty_left first rest h)) (waveform_known t s elements (empty_right first rest h))

  waveform_joined : (t : BaseType) (s : Bool) (xs ys : List ElementTold) → waveform_faults (Some t) s (xs ++ ys) ≡ waveform_faults (Some t) s xs ++ waveform_faults (Some t) s ys
  unfolding waveform_faults
  waveform_joined t s xs ys = flat_map-append (element_faults (Some t) s) xs ys

  alternative_known : (t : BaseType) (s : Bool) (x : Alternative) → waveform_faults (Some t) s (alternative_elements text a x) ≡ [] → tested (alternative_condition text a x) ≡ [] → known_alternative (alternative_resolved text a t x) ≡ true
  unfolding alternative_elements alternative_condition known_alternative alternative_resolved
  alternative_known t s x h c = and_both _ _ (value_tested text a here x.condition c) (waveform_known t s x.otherwise h)

  alternatives_known : (t : BaseType) (s : Bool) (xs : List Alternative) → waveform_faults (Some t) s (flat_map (alternative_elements text a) xs) ≡ [] → flat_map tested (map (alternative_condition text a) xs) ≡ []
      → list_all known_alternative (map (alternative_resolved text a t) xs) ≡ true
  alternatives_known t s [] h c = refl
  alternatives_known t s (x ∷ xs) h c =
      let first = waveform_faults (Some t) s (alternative_elements text a x) in
      let rest = waveform_faults (Some t) s (flat_map (alternative_elements text a) xs) in
      let both : first ++ rest ≡ [] = sym (waveform_joined t s (alternative_elements text a x) (flat_map (alternative_elements text a) xs)) ∙ h in
      let condition = tested (alternative_condition text a x) in
      let behind = flat_map tested (map (alternative_condition text a) xs) in
      and_both _ _ (alternative_known t s x (empty_left first rest both) (empty_left condition behind c))
      (alternatives_known t s xs (empty_right first rest both) (empty_right condition behind c))

  last_known : (e : Option Expr) → flat_map tested (option_list (optional text a e)) ≡ [] → known_option (optional_at text a base.Boolean e) ≡ true
  unfolding option_list optional known_option optional_at
  last_known None h = refl
  last_known (Some e) h = value_tested text a here e (empty_left (tested (expression text a e)) [] h)

  -- ---- assignments

  -- what is assigned to a target of this type
  record Assigned (t : BaseType) (d : Delay) (waveform : List Element) (alternatives : List Alternative) (condition : Option Expr) : Type 0 where
    delayed : known_delay (delay_resolved text a d) ≡ true
    elements : known_waveform (waveform_resolved text a t waveform) ≡ true
    others : list_all known_alternative (map (alternative_resolved text a t) alternatives) ≡ true
    last : known_option (optional_at text a base.Boolean condition) ≡ true

  values_known : (t : BaseType) (s : Bool) (d : Delay) (waveform : List Element) (alternatives : List Alternative) (condition : Option Expr)
      → asked_optional base.Time (reject text a d) ++ (waveform_faults (Some t) s (waveforms text a waveform alternatives) ++ flat_map tested (conditions text a alternatives condition)) ≡ []
      → Assigned t d waveform alternatives condition
  unfolding waveforms conditions
  values_known t s d waveform alternatives condition h =
      let first = asked_optional base.Time (reject text a d) in
      let elements = waveform_faults (Some t) s (map (element_here text a) waveform ++ flat_map (alternative_elements text a) alternatives) in
      let tests = flat_map tested (map (alternative_condition text a) alternatives ++ option_list (optional text a condition)) in
      let behind : elements ++ tests ≡ [] = empty_right first (elements ++ tests) h in
      let own = waveform_faults (Some t) s (map (element_here text a) waveform) in
      let others = waveform_faults (Some t) s (flat_map (alternative_elements text a) alternatives) in
      let both : own ++ others ≡ [] = sym (waveform_joined t s (map (element_here text a) waveform) (flat_map (alternative_elements text a) alternatives)) ∙ empty_left elements tests behind in
      let inner = flat_map tested (map (alternative_condition text a) alternatives) in
      let last = flat_map tested (option_list (optional text a condition)) in
      let all : inner ++ last ≡ [] = sym (flat_map-append tested (map (alternative_condition text a) alternatives) (option_list (optional text a condition))) ∙ empty_right elements tests behind in
      record {
        delayed = delay_known d (empty_left first (elements ++ tests) h);
        elements = waveform_known t s waveform (empty_left own others both);
        others = alternatives_known t s alternatives (empty_right own others both) (empty_left inner last all);
        last = last_known condition (empty_right inner last all);
      }

  record Assignment (target : Name) (d : Delay) (waveform : List Element) (alternatives : List Alternative) (condition : Option Expr) : Type 0 where
    known : known_value (target_of (denoted_here text a target)) ≡ true
    values : Assigned (resolved_type (denoted_here text a target)) d waveform alternatives condition

  assigned : (target : Name) (d : Delay) (waveform : List Element) (alternatives : List Alternative) (condition : Option Expr)
      → signal_assignment_faults (name_here text a target) (reject text a d) (waveforms text a waveform alternatives) (conditions text a alternatives condition) ≡ []
      → Assignment target d waveform alternatives condition
  unfolding signal_assignment_faults
  assigned target d waveform alternatives condition h =
      let n = name_here text a target in
      let first = target_faults true n in
      let rest : Option BaseType → List Fault = λ t. asked_optional base.Time (reject text a d) ++ (waveform_faults t (is_static_target n) (waveforms text a waveform alternatives) ++ flat_map tested (conditions text a alternatives condition)) in
      let named : Names n (denoted_here text a target) = target_found text a here true target (empty_left first (rest (target_type n)) h) in
      let P : Option BaseType → Type 0 = λ t. rest t ≡ [] in
      let Q : BaseType → Type 0 = λ t. Assigned t d waveform alternatives condition in
      record {
        known = named.known;
        values = subst Q (sym named.resolved) (values_known named.base (is_static_target n) d waveform alternatives condition (subst P named.told (empty_right first (rest (target_type n)) h)));
      }

  pub assignment_known : (file : List Named) (s : SignalAssignment) → faults text file a (Event.Assigned s.target s.delay s.waveform [] None) ≡ [] → known_assignment (assignment_resolved text a s) ≡ true
  unfolding faults known_assignment assignment_resolved assignment_to
  assignment_known file s h = let is = assigned s.target s.delay s.waveform [] None h in and_both _ _ is.known (and_both _ _ is.values.delayed is.values.elements)

  pub concurrent_known : (file : List Named) (s : ConcurrentAssignment) → faults text file a (Event.Assigned s.target s.delay s.waveform s.alternatives s.condition) ≡ []
      → known_concurrent_assignment (concurrent_resolved text a s) ≡ true
  unfolding faults known_concurrent_assignment concurrent_resolved concurrent_to
  concurrent_known file s h =
      let is = assigned s.target s.delay s.waveform s.alternatives s.condition h in
      and_both _ _ is.known (and_both _ _ is.values.delayed (and_both _ _ is.values.elements (and_both _ _ is.values.others is.values.last)))

  -- the target and the value of a variable assignment
  pub variable_known : (file : List Named) (target : Name) (value : Expr) → faults text file a (Event.AssignedVariable target value) ≡ [] → KnownVariable text a target value
  unfolding faults variable_assignment_faults
  variable_known file target value h =
      let n = name_here text a target in
      let first = target_faults false n in
      let rest : Option BaseType → List Fault = λ t. valued t (is_static_target n) (expression text a value) in
      let named : Names n (denoted_here text a target) = target_found text a here false target (empty_left first (rest (target_type n)) h) in
      let P : Option BaseType → Type 0 = λ t. rest t ≡ [] in
      let Q : BaseType → Type 0 = λ t. known_value (value_at text a t value) ≡ true in
      record {
        known_target = named.known;
        known = subst Q (sym named.resolved) (value_valued text a here named.base (is_static_target n) value (subst P named.told (empty_right first (rest (target_type n)) h)));
      }
