-- Sequential statements mean something wherever no rule is broken along them, by the parts that they have.
use Rattle.std.proofs.Common.{◌≡◌, ℕ, Bool, true, Option, Some, None, List, [], ◌∷◌, ◌++◌, drop, refl, ap, ◌∙◌}
use Rattle.vhdl_names_checker.specs.After.{after, in_loop, loop_begun, loop_left, with_parameter}
use Rattle.vhdl_names_checker.specs.Around.{Around}
use Rattle.vhdl_names_checker.specs.Declaring.{label_declared, numbered}
use Rattle.vhdl_names_checker.specs.Events.{Event}
use Rattle.vhdl_names_checker.specs.Faults.{faults}
use Rattle.vhdl_names_checker.specs.Progress.{Progress, step, walk}
use Rattle.vhdl_names_laws.specs.Known.{known_value}
use Rattle.vhdl_names_laws.specs.KnownUnits.{known_arm, known_body, known_case, known_elsif, known_if, known_loop, known_statement}
use Rattle.vhdl_names_laws.specs.KnownParts.{known_choices, known_scheme}
use Rattle.vhdl_names.proofs.Walks.{walk_append}
use Rattle.vhdl_names.specs.Parts.{Part, events_of, with_last}
use Rattle.vhdl_names.specs.Statements.{Labelled, arm_step, case_at, case_body, case_step, condition_in, elsif_at, elsif_step, if_at, if_body, if_step, label_events, loop_body, loop_step, of_assertion, of_assignment, of_exit, of_next, of_null, of_report, of_variable, of_wait, statement_step}
use Rattle.vhdl_names_laws.proofs.KnowsUnits.{Chooses, Each, Holds, HoldsInCase, all_keep, all_know, arms_keep, arms_mean, both, last_parts, past_event, past_parts}
use Rattle.vhdl_names_laws.proofs.Lawful.{assertions_are_known, assignments_are_known, choices_are_known, conditions_are_known, jumps_are_known, loops_are_known, subjects_are_known, subjects_have_types, variables_are_known, waits_are_known}
use Rattle.vhdl_names_laws.proofs.Rolled as rolled
use Rattle.vhdl_names_laws.proofs.Unbroken.{Keeps, keeps_append, keeps_event, keeps_none, keeps_one, unbroken_behind, unbroken_event, unbroken_first, unbroken_rest}
use Rattle.vhdl_names_resolving.specs.Statements.{choices_resolved, scheme_resolved, subject_resolved, variable_resolved, variable_to}
use Rattle.vhdl_tokens.specs.declared.token.Token.{Token}
use Rattle.vhdl_tree.specs.declared.expressions.Expr.{Expr}
use Rattle.vhdl_tree.specs.declared.statements.Assertion.{Assertion}
use Rattle.vhdl_tree.specs.declared.statements.Body.TheOpen.{Arm-F, Case-F, Elsif-F, If-F, Loop-F, Statement-F}
use Rattle.vhdl_tree.specs.declared.statements.Jump.{Jump}
use Rattle.vhdl_tree.specs.declared.statements.Report.{Report}
use Rattle.vhdl_tree.specs.declared.statements.Scheme.{Scheme}
use Rattle.vhdl_tree.specs.declared.statements.SignalAssignment.{SignalAssignment}
use Rattle.vhdl_tree.specs.declared.statements.VariableAssignment.{VariableAssignment}
use Rattle.vhdl_tree.specs.declared.statements.Wait.{Wait}
use Rattle.vhdl_units.specs.declared.statements.ResolvedArm.{ResolvedArm}
use Rattle.vhdl_units.specs.declared.statements.ResolvedBody.{ResolvedBody}
use Rattle.vhdl_units.specs.declared.statements.ResolvedCase.{ResolvedCase}
use Rattle.vhdl_units.specs.declared.statements.ResolvedElsif.{ResolvedElsif}
use Rattle.vhdl_units.specs.declared.statements.ResolvedIf.{ResolvedIf}
use Rattle.vhdl_units.specs.declared.statements.ResolvedLoop.{ResolvedLoop}
use Rattle.vhdl_units.specs.declared.statements.ResolvedStatement.{ResolvedStatement}
use Rattle.vhdl_tree.specs.declared.statements.Scheme.TheVariants as scheme

-- ---- what single events leave as it is

keeps_labelled : (token : Token) (text : List ℕ) (a : Around) → (after text (Event.Labelled token) a).subjects ≡ a.subjects
unfolding after label_declared numbered
keeps_labelled token text a = refl

keeps_looped : (label : Option Token) (s : Scheme) (text : List ℕ) (a : Around) → (after text (Event.Looped label s) a).subjects ≡ a.subjects
unfolding after in_loop loop_begun with_parameter
keeps_looped label scheme.Forever text a = refl
keeps_looped label (scheme.While e) text a = refl
keeps_looped label (scheme.For token b) text a = refl

keeps_end_loop : (s : Scheme) (label end : Option Token) (text : List ℕ) (a : Around) → (after text (Event.EndLoop s label end) a).subjects ≡ a.subjects
unfolding after loop_left
keeps_end_loop scheme.Forever label end text a = refl
keeps_end_loop (scheme.While e) label end text a = refl
keeps_end_loop (scheme.For token b) label end text a = refl

keeps_label : (label : Option Token) → Keeps (label_events label)
unfolding label_events
keeps_label None = keeps_none
keeps_label (Some token) = keeps_one (Event.Labelled token) (keeps_labelled token)

-- ---- statements without others in them

pub wait_holds : (s : Wait) → Holds known_body (of_wait s)
unfolding of_wait after
wait_holds s = record {
  means = λ p u. rolled.wait_body _ ∙ waits_are_known p.text p.file p.around s (unbroken_event (Event.Waits s) [] p u);
  keeps = keeps_one (Event.Waits s) (λ text a. refl);
}

pub assertion_holds : (s : Assertion) → Holds known_body (of_assertion s)
unfolding of_assertion after
assertion_holds s = record {
  means = λ p u. rolled.assertion_body _ ∙ assertions_are_known p.text p.file p.around s (unbroken_event (Event.Asserted s) [] p u);
  keeps = keeps_one (Event.Asserted s) (λ text a. refl);
}

pub report_holds : (s : Report) → Holds known_body (of_report s)
unfolding of_report after
report_holds s = record {
  means = λ p u. rolled.report_body _;
  keeps = keeps_one (Event.Reported s) (λ text a. refl);
}

pub assignment_holds : (s : SignalAssignment) → Holds known_body (of_assignment s)
unfolding of_assignment after
assignment_holds s = record {
  means = λ p u.
      rolled.signal_body _ ∙ assignments_are_known p.text p.file p.around s (unbroken_event (Event.Assigned s.target s.delay s.waveform [] None) [] p u);
  keeps = keeps_one (Event.Assigned s.target s.delay s.waveform [] None) (λ text a. refl);
}

pub variable_holds : (s : VariableAssignment) → Holds known_body (of_variable s)
unfolding of_variable after variable_resolved variable_to
variable_holds s = record {
  means = λ p u. rolled.variable_body _ _ ∙ variables_are_known p.text p.file p.around s.target s.value (unbroken_event (Event.AssignedVariable s.target s.value) [] p u);
  keeps = keeps_one (Event.AssignedVariable s.target s.value) (λ text a. refl);
}

pub next_holds : (j : Jump) → Holds known_body (of_next j)
unfolding of_next after
next_holds j = record {
  means = λ p u. rolled.next_body _ ∙ jumps_are_known p.text p.file p.around j (unbroken_event (Event.Jumped j) [] p u);
  keeps = keeps_one (Event.Jumped j) (λ text a. refl);
}

pub exit_holds : (j : Jump) → Holds known_body (of_exit j)
unfolding of_exit after
exit_holds j = record {
  means = λ p u. rolled.exit_body _ ∙ jumps_are_known p.text p.file p.around j (unbroken_event (Event.Jumped j) [] p u);
  keeps = keeps_one (Event.Jumped j) (λ text a. refl);
}

pub null_holds : Holds known_body of_null
unfolding of_null
null_holds = record { means = λ p u. rolled.null_body; keeps = keeps_none }

-- ---- conditions

condition_known : (e : Expr) (p : Progress) → faults p.text p.file p.around (Event.Tested e) ≡ [] → known_value (condition_in p e) ≡ true
unfolding condition_in
condition_known e p none = conditions_are_known p.text p.file p.around e none

keeps_tested : (e : Expr) (rest : List Event) → Keeps rest → Keeps (Event.Tested e ∷ rest)
unfolding after
keeps_tested e rest h = keeps_event (Event.Tested e) rest (λ text a. refl) h

-- ---- if statements

pub if_holds : (s : If-F (Labelled ResolvedBody) (Bool → Part ResolvedArm) (Labelled ResolvedCase) (Part ResolvedElsif) (Labelled ResolvedIf) (Labelled ResolvedLoop) (Part ResolvedStatement)) (label : Option Token)
    → Each (Holds known_statement) s.statements → Each (Holds known_elsif) s.elsifs → Each (Holds known_statement) s.otherwise → Holds known_if (if_step s label)
unfolding if_step if_at after
if_holds s label ss es os =
    let end = Event.EndIf label s.end_name ∷ [] in
    let rest : List Event = events_of s.otherwise ++ end in
    let more : List Event = events_of s.elsifs ++ rest in
    record {
      means = λ p u.
          let a = past_event (known_value (condition_in p s.condition)) (Event.Tested s.condition) (events_of s.statements ++ more) p u (condition_known s.condition p) in
          let b = past_parts known_statement s.statements more _ (all_know known_statement s.statements ss) a.unbroken in
          let c = past_parts known_elsif s.elsifs rest _ (all_know known_elsif s.elsifs es) b.unbroken in
          let d = past_parts known_statement s.otherwise end _ (all_know known_statement s.otherwise os) c.unbroken in
          rolled.if_rolled _ _ _ _ ∙ both a.is_known (both b.is_known (both c.is_known d.is_known));
      keeps = keeps_tested s.condition (events_of s.statements ++ more) (keeps_append (events_of s.statements) more (all_keep known_statement s.statements ss)
          (keeps_append (events_of s.elsifs) rest (all_keep known_elsif s.elsifs es)
          (keeps_append (events_of s.otherwise) end (all_keep known_statement s.otherwise os) (keeps_one (Event.EndIf label s.end_name) (λ text a. refl)))));
    }

pub elsif_holds : (s : Elsif-F (Labelled ResolvedBody) (Bool → Part ResolvedArm) (Labelled ResolvedCase) (Part ResolvedElsif) (Labelled ResolvedIf) (Labelled ResolvedLoop) (Part ResolvedStatement))
    → Each (Holds known_statement) s.statements → Holds known_elsif (elsif_step s)
unfolding elsif_step elsif_at
elsif_holds s ss = record {
  means = λ p u.
      let a = past_event (known_value (condition_in p s.condition)) (Event.Tested s.condition) (events_of s.statements) p u (condition_known s.condition p) in
      rolled.elsif_rolled _ _ ∙ both a.is_known (last_parts known_statement s.statements _ (all_know known_statement s.statements ss) a.unbroken);
  keeps = keeps_tested s.condition (events_of s.statements) (all_keep known_statement s.statements ss);
}

-- ---- loops

pub loop_holds : (s : Loop-F (Labelled ResolvedBody) (Bool → Part ResolvedArm) (Labelled ResolvedCase) (Part ResolvedElsif) (Labelled ResolvedIf) (Labelled ResolvedLoop) (Part ResolvedStatement)) (label : Option Token)
    → Each (Holds known_statement) s.statements → Holds known_loop (loop_step s label)
unfolding loop_step
loop_holds s label ss =
    let end = Event.EndLoop s.scheme label s.end_name ∷ [] in
    record {
      means = λ p u.
          let a = past_event (known_scheme (scheme_resolved p.text p.around s.scheme)) (Event.Looped label s.scheme) (events_of s.statements ++ end) p u (loops_are_known p.text p.file p.around label s.scheme) in
          let b = past_parts known_statement s.statements end _ (all_know known_statement s.statements ss) a.unbroken in
          rolled.loop_rolled _ _ ∙ both a.is_known b.is_known;
      keeps = keeps_event (Event.Looped label s.scheme) (events_of s.statements ++ end) (keeps_looped label s.scheme)
          (keeps_append (events_of s.statements) end (all_keep known_statement s.statements ss) (keeps_one (Event.EndLoop s.scheme label s.end_name) (keeps_end_loop s.scheme label s.end_name)));
    }

-- ---- case statements

pub arm_holds : (s : Arm-F (Labelled ResolvedBody) (Bool → Part ResolvedArm) (Labelled ResolvedCase) (Part ResolvedElsif) (Labelled ResolvedIf) (Labelled ResolvedLoop) (Part ResolvedStatement)) (is_last : Bool)
    → Each (Holds known_statement) s.statements → HoldsInCase known_arm (arm_step s is_last)
unfolding arm_step after
arm_holds s is_last ss = record {
  means = λ p chooses u.
      let a = past_event (known_choices (choices_resolved p.text p.around s.choices)) (Event.Arm is_last s.choices) (events_of s.statements) p u (choices_are_known p.text p.file p.around is_last s.choices chooses) in
      rolled.arm_rolled _ _ ∙ both a.is_known (last_parts known_statement s.statements _ (all_know known_statement s.statements ss) a.unbroken);
  keeps = keeps_event (Event.Arm is_last s.choices) (events_of s.statements) (λ text a. refl) (all_keep known_statement s.statements ss);
}

subject_there : (e : Expr) (p : Progress) → faults p.text p.file p.around (Event.Chosen e) ≡ [] → Chooses (step (Event.Chosen e) p).around.subjects
unfolding step
subject_there e p none = subjects_have_types p.text p.file p.around e none

subject_known : (e : Expr) (p : Progress) → faults p.text p.file p.around (Event.Chosen e) ≡ []
    → known_value (subject_resolved (step (Event.Chosen e) p).text (step (Event.Chosen e) p).around e) ≡ true
unfolding step
subject_known e p none = subjects_are_known p.text p.file p.around e none

-- Its beginning puts in what its end takes away.
keeps_case : (e : Expr) (arms : List Event) (label end : Option Token) → Keeps arms → Keeps (Event.Chosen e ∷ (arms ++ Event.EndCase label end ∷ []))
unfolding walk step after
keeps_case e arms label end h p =
    let q = step (Event.Chosen e) p in
    ap (λ r. r.around.subjects) (walk_append arms (Event.EndCase label end ∷ []) q) ∙ ap (drop 1) (h q)

pub case_holds : (s : Case-F (Labelled ResolvedBody) (Bool → Part ResolvedArm) (Labelled ResolvedCase) (Part ResolvedElsif) (Labelled ResolvedIf) (Labelled ResolvedLoop) (Part ResolvedStatement)) (label : Option Token)
    → Each (HoldsInCase known_arm) (with_last s.arms) → Holds known_case (case_step s label)
unfolding case_step case_at
case_holds s label arms =
    let end = Event.EndCase label s.end_name ∷ [] in
    let all : List Event = events_of (with_last s.arms) in
    record {
      means = λ p u.
          let none = unbroken_event (Event.Chosen s.subject) (all ++ end) p u in
          let q = step (Event.Chosen s.subject) p in
          let inside = unbroken_first all end q (unbroken_behind (Event.Chosen s.subject) (all ++ end) p u) in
          rolled.case_rolled _ _ ∙ both (subject_known s.subject p none) (arms_mean known_arm (with_last s.arms) q arms (subject_there s.subject p none) inside);
      keeps = keeps_case s.subject all label s.end_name (arms_keep known_arm (with_last s.arms) arms);
    }

-- ---- whole statements

pub if_body_holds : (x : Part ResolvedIf) → Holds known_if x → Holds known_body (if_body x)
unfolding if_body
if_body_holds x h = record {
  means = λ p u. rolled.if_body (x.at p) ∙ h.means p u;
  keeps = h.keeps;
}

pub case_body_holds : (x : Part ResolvedCase) → Holds known_case x → Holds known_body (case_body x)
unfolding case_body
case_body_holds x h = record {
  means = λ p u. rolled.case_body (x.at p) ∙ h.means p u;
  keeps = h.keeps;
}

pub loop_body_holds : (x : Part ResolvedLoop) → Holds known_loop x → Holds known_body (loop_body x)
unfolding loop_body
loop_body_holds x h = record {
  means = λ p u. rolled.loop_body (x.at p) ∙ h.means p u;
  keeps = h.keeps;
}

pub statement_holds : (s : Statement-F (Labelled ResolvedBody) (Bool → Part ResolvedArm) (Labelled ResolvedCase) (Part ResolvedElsif) (Labelled ResolvedIf) (Labelled ResolvedLoop) (Part ResolvedStatement))
    → Holds known_body (s.body s.label) → Holds known_statement (statement_step s)
unfolding statement_step
statement_holds s h = record {
  means = λ p u.
      rolled.statement_rolled _ _ _ ∙ h.means (walk (label_events s.label) p)
      (unbroken_rest (label_events s.label) (s.body s.label).events p u);
  keeps = keeps_append (label_events s.label) (s.body s.label).events (keeps_label s.label) h.keeps;
}
