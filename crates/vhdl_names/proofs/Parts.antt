-- What the parts of a statement are, by its fold, and the walk along them.
use Rattle.std.proofs.Common.{◌≡◌, ℕ, ◌+◌, ◌-◌, ◌<◌, ◌≤◌, Bool, Option, List, [], ◌∷◌, ◌++◌, length, map, drop, get_or, nat_eq, refl, sym, ap, ◌∙◌, subst, arith}
use Rattle.std.proofs.Math.Dec.{eqb-suc-zero}
use Rattle.std.proofs.lemmas.Bool.Decides.{nat_tests}
use Rattle.std.proofs.lemmas.List.{drop_all, drop_more, length-drop, length-map}
use Rattle.vhdl_names_checker.specs.Events.{Event}
use Rattle.vhdl_names_checker.specs.Progress.{Progress, step, walk}
use Rattle.vhdl_names_resolving.specs.Declarations.{label_here}
use Rattle.vhdl_names_resolving.specs.Statements.{choices_resolved, scheme_resolved, subject_resolved}
use Rattle.vhdl_tokens.specs.declared.token.Token.{Token}
use Rattle.vhdl_tree.specs.declared.expressions.Choice.{Choice}
use Rattle.vhdl_tree.specs.declared.statements.Arm.{Arm, out-Arm}
use Rattle.vhdl_tree.specs.declared.statements.Assertion.{Assertion}
use Rattle.vhdl_tree.specs.declared.statements.Body.TheVariants as body
use Rattle.vhdl_tree.specs.declared.statements.Body.TheOpen.{Body-F}
use Rattle.vhdl_tree.specs.declared.statements.Body.TheFolds.{fold-roll-Body, fold_out-Arm, fold_out-Case, fold_out-Elsif, fold_out-If, fold_out-Loop, fold_out-Statement}
use Rattle.vhdl_tree.specs.declared.statements.Case.{Case, out-Case}
use Rattle.vhdl_tree.specs.declared.statements.Elsif.{Elsif, out-Elsif}
use Rattle.vhdl_tree.specs.declared.statements.If.{If, out-If}
use Rattle.vhdl_tree.specs.declared.statements.Jump.{Jump}
use Rattle.vhdl_tree.specs.declared.statements.Loop.{Loop, out-Loop}
use Rattle.vhdl_tree.specs.declared.statements.Report.{Report}
use Rattle.vhdl_tree.specs.declared.statements.SignalAssignment.{SignalAssignment}
use Rattle.vhdl_tree.specs.declared.statements.Statement.{Statement, out-Statement}
use Rattle.vhdl_tree.specs.declared.statements.VariableAssignment.{VariableAssignment}
use Rattle.vhdl_tree.specs.declared.statements.Wait.{Wait}
use Rattle.vhdl_names.specs.Parts.{Part, all_at, events_of, with_last}
use Rattle.vhdl_names.specs.Statements.{Labelled, arm_step, body_step, case_at, case_body, case_step, condition_in, elsif_at, elsif_step, if_at, if_body, if_step, label_events, loop_body, loop_step, of_arm, of_assertion, of_assignment, of_body, of_case, of_elsif, of_exit, of_if, of_loop, of_next, of_null, of_report, of_statement, of_statements, of_variable, of_wait, statement_step}
use Rattle.vhdl_names.proofs.Walks.{Reaches, just_all, just_event, parts_end, parts_more, then_all, then_event, then_part}
use Rattle.vhdl_units.specs.declared.declarations.Declared.{Declared}
use Rattle.vhdl_units.specs.declared.statements.ResolvedArm.{ResolvedArm, roll-ResolvedArm}
use Rattle.vhdl_units.specs.declared.statements.ResolvedBody.{ResolvedBody}
use Rattle.vhdl_units.specs.declared.statements.ResolvedCase.{ResolvedCase, roll-ResolvedCase}
use Rattle.vhdl_units.specs.declared.statements.ResolvedElsif.{ResolvedElsif, roll-ResolvedElsif}
use Rattle.vhdl_units.specs.declared.statements.ResolvedIf.{ResolvedIf, roll-ResolvedIf}
use Rattle.vhdl_units.specs.declared.statements.ResolvedLoop.{ResolvedLoop, roll-ResolvedLoop}
use Rattle.vhdl_units.specs.declared.statements.ResolvedScheme.{ResolvedScheme}
use Rattle.vhdl_units.specs.declared.statements.ResolvedStatement.{ResolvedStatement, roll-ResolvedStatement}
use Rattle.vhdl_units.specs.declared.values.ChoiceValue.{ChoiceValue}
use Rattle.vhdl_units.specs.declared.values.Value.{Value}

-- ---- bodies

pub wait_is : (s : Wait) (label : Option Token) → of_body (body.Wait s) label ≡ of_wait s
unfolding of_body body_step
wait_is s label = ap (λ b. of_body b label) (sym (body.rolls-Wait s)) ∙ ap (λ f. f label) (fold-roll-Body (Labelled ResolvedBody) (Bool → Part ResolvedArm) (Labelled ResolvedCase) (Part ResolvedElsif) (Labelled ResolvedIf) (Labelled ResolvedLoop) (Part ResolvedStatement) body_step arm_step case_step elsif_step if_step loop_step statement_step (Body-F.Wait s))

pub assertion_is : (s : Assertion) (label : Option Token) → of_body (body.Assert s) label ≡ of_assertion s
unfolding of_body body_step
assertion_is s label = ap (λ b. of_body b label) (sym (body.rolls-Assert s)) ∙ ap (λ f. f label) (fold-roll-Body (Labelled ResolvedBody) (Bool → Part ResolvedArm) (Labelled ResolvedCase) (Part ResolvedElsif) (Labelled ResolvedIf) (Labelled ResolvedLoop) (Part ResolvedStatement) body_step arm_step case_step elsif_step if_step loop_step statement_step (Body-F.Assert s))

pub report_is : (s : Report) (label : Option Token) → of_body (body.Report s) label ≡ of_report s
unfolding of_body body_step
report_is s label = ap (λ b. of_body b label) (sym (body.rolls-Report s)) ∙ ap (λ f. f label) (fold-roll-Body (Labelled ResolvedBody) (Bool → Part ResolvedArm) (Labelled ResolvedCase) (Part ResolvedElsif) (Labelled ResolvedIf) (Labelled ResolvedLoop) (Part ResolvedStatement) body_step arm_step case_step elsif_step if_step loop_step statement_step (Body-F.Report s))

pub signal_is : (s : SignalAssignment) (label : Option Token) → of_body (body.Signal s) label ≡ of_assignment s
unfolding of_body body_step
signal_is s label = ap (λ b. of_body b label) (sym (body.rolls-Signal s)) ∙ ap (λ f. f label) (fold-roll-Body (Labelled ResolvedBody) (Bool → Part ResolvedArm) (Labelled ResolvedCase) (Part ResolvedElsif) (Labelled ResolvedIf) (Labelled ResolvedLoop) (Part ResolvedStatement) body_step arm_step case_step elsif_step if_step loop_step statement_step (Body-F.Signal s))

pub variable_is : (s : VariableAssignment) (label : Option Token) → of_body (body.Variable s) label ≡ of_variable s
unfolding of_body body_step
variable_is s label = ap (λ b. of_body b label) (sym (body.rolls-Variable s)) ∙ ap (λ f. f label) (fold-roll-Body (Labelled ResolvedBody) (Bool → Part ResolvedArm) (Labelled ResolvedCase) (Part ResolvedElsif) (Labelled ResolvedIf) (Labelled ResolvedLoop) (Part ResolvedStatement) body_step arm_step case_step elsif_step if_step loop_step statement_step (Body-F.Variable s))

pub next_is : (j : Jump) (label : Option Token) → of_body (body.Next j) label ≡ of_next j
unfolding of_body body_step
next_is j label = ap (λ b. of_body b label) (sym (body.rolls-Next j)) ∙ ap (λ f. f label) (fold-roll-Body (Labelled ResolvedBody) (Bool → Part ResolvedArm) (Labelled ResolvedCase) (Part ResolvedElsif) (Labelled ResolvedIf) (Labelled ResolvedLoop) (Part ResolvedStatement) body_step arm_step case_step elsif_step if_step loop_step statement_step (Body-F.Next j))

pub exit_is : (j : Jump) (label : Option Token) → of_body (body.Exit j) label ≡ of_exit j
unfolding of_body body_step
exit_is j label = ap (λ b. of_body b label) (sym (body.rolls-Exit j)) ∙ ap (λ f. f label) (fold-roll-Body (Labelled ResolvedBody) (Bool → Part ResolvedArm) (Labelled ResolvedCase) (Part ResolvedElsif) (Labelled ResolvedIf) (Labelled ResolvedLoop) (Part ResolvedStatement) body_step arm_step case_step elsif_step if_step loop_step statement_step (Body-F.Exit j))

pub if_is : (s : If) (label : Option Token) → of_body (body.If s) label ≡ if_body (of_if s label)
unfolding of_body body_step of_if
if_is s label = ap (λ b. of_body b label) (sym (body.rolls-If s)) ∙ ap (λ f. f label) (fold-roll-Body (Labelled ResolvedBody) (Bool → Part ResolvedArm) (Labelled ResolvedCase) (Part ResolvedElsif) (Labelled ResolvedIf) (Labelled ResolvedLoop) (Part ResolvedStatement) body_step arm_step case_step elsif_step if_step loop_step statement_step (Body-F.If s))

pub case_is : (s : Case) (label : Option Token) → of_body (body.Case s) label ≡ case_body (of_case s label)
unfolding of_body body_step of_case
case_is s label = ap (λ b. of_body b label) (sym (body.rolls-Case s)) ∙ ap (λ f. f label) (fold-roll-Body (Labelled ResolvedBody) (Bool → Part ResolvedArm) (Labelled ResolvedCase) (Part ResolvedElsif) (Labelled ResolvedIf) (Labelled ResolvedLoop) (Part ResolvedStatement) body_step arm_step case_step elsif_step if_step loop_step statement_step (Body-F.Case s))

pub loop_is : (s : Loop) (label : Option Token) → of_body (body.Loop s) label ≡ loop_body (of_loop s label)
unfolding of_body body_step of_loop
loop_is s label = ap (λ b. of_body b label) (sym (body.rolls-Loop s)) ∙ ap (λ f. f label) (fold-roll-Body (Labelled ResolvedBody) (Bool → Part ResolvedArm) (Labelled ResolvedCase) (Part ResolvedElsif) (Labelled ResolvedIf) (Labelled ResolvedLoop) (Part ResolvedStatement) body_step arm_step case_step elsif_step if_step loop_step statement_step (Body-F.Loop s))

pub null_is : (label : Option Token) → of_body body.Null label ≡ of_null
unfolding of_body body_step
null_is label = ap (λ b. of_body b label) (sym body.rolls-Null) ∙ ap (λ f. f label) (fold-roll-Body (Labelled ResolvedBody) (Bool → Part ResolvedArm) (Labelled ResolvedCase) (Part ResolvedElsif) (Labelled ResolvedIf) (Labelled ResolvedLoop) (Part ResolvedStatement) body_step arm_step case_step elsif_step if_step loop_step statement_step Body-F.Null)

-- ---- whole statements

statement_is : (s : Statement) → of_statement s ≡ record {
  events = label_events (out-Statement s).label ++ (of_body (out-Statement s).body (out-Statement s).label).events;
  at = λ p. roll-ResolvedStatement (record { line = (out-Statement s).line; label = label_here p.text p.around (out-Statement s).label; body = (of_body (out-Statement s).body (out-Statement s).label).at (walk (label_events (out-Statement s).label) p) });
}
unfolding of_statement of_body statement_step
statement_is s = fold_out-Statement (Labelled ResolvedBody) (Bool → Part ResolvedArm) (Labelled ResolvedCase) (Part ResolvedElsif) (Labelled ResolvedIf) (Labelled ResolvedLoop) (Part ResolvedStatement) body_step arm_step case_step elsif_step if_step loop_step statement_step s

pub if_whole : (s : If) (label : Option Token) → of_if s label ≡ record {
  events = Event.Tested (out-If s).condition ∷ (events_of (map of_statement (out-If s).statements) ++ (events_of (map of_elsif (out-If s).elsifs) ++ (events_of (map of_statement (out-If s).otherwise) ++ Event.EndIf label (out-If s).end_name ∷ [])));
  at = λ p. if_at (condition_in p (out-If s).condition) (map of_statement (out-If s).statements) (map of_elsif (out-If s).elsifs) (map of_statement (out-If s).otherwise) (step (Event.Tested (out-If s).condition) p);
}
unfolding of_if of_statement of_elsif if_step
if_whole s label = ap (λ f. f label) (fold_out-If (Labelled ResolvedBody) (Bool → Part ResolvedArm) (Labelled ResolvedCase) (Part ResolvedElsif) (Labelled ResolvedIf) (Labelled ResolvedLoop) (Part ResolvedStatement) body_step arm_step case_step elsif_step if_step loop_step statement_step s)

elsif_is : (s : Elsif) → of_elsif s ≡ record {
  events = Event.Tested (out-Elsif s).condition ∷ events_of (map of_statement (out-Elsif s).statements);
  at = λ p. elsif_at (condition_in p (out-Elsif s).condition) (map of_statement (out-Elsif s).statements) (step (Event.Tested (out-Elsif s).condition) p);
}
unfolding of_elsif of_statement elsif_step
elsif_is s = fold_out-Elsif (Labelled ResolvedBody) (Bool → Part ResolvedArm) (Labelled ResolvedCase) (Part ResolvedElsif) (Labelled ResolvedIf) (Labelled ResolvedLoop) (Part ResolvedStatement) body_step arm_step case_step elsif_step if_step loop_step statement_step s

case_whole : (s : Case) (label : Option Token) → of_case s label ≡ record {
  events = Event.Chosen (out-Case s).subject ∷ (events_of (with_last (map of_arm (out-Case s).arms)) ++ Event.EndCase label (out-Case s).end_name ∷ []);
  at = λ p. case_at (out-Case s).subject (with_last (map of_arm (out-Case s).arms)) (step (Event.Chosen (out-Case s).subject) p);
}
unfolding of_case of_arm case_step
case_whole s label = ap (λ f. f label) (fold_out-Case (Labelled ResolvedBody) (Bool → Part ResolvedArm) (Labelled ResolvedCase) (Part ResolvedElsif) (Labelled ResolvedIf) (Labelled ResolvedLoop) (Part ResolvedStatement) body_step arm_step case_step elsif_step if_step loop_step statement_step s)

arm_is : (s : Arm) (is_last : Bool) → of_arm s is_last ≡ record {
  events = Event.Arm is_last (out-Arm s).choices ∷ events_of (map of_statement (out-Arm s).statements);
  at = λ p. roll-ResolvedArm (record { choices = choices_resolved p.text p.around (out-Arm s).choices; statements = all_at (map of_statement (out-Arm s).statements) (step (Event.Arm is_last (out-Arm s).choices) p) });
}
unfolding of_arm of_statement arm_step
arm_is s is_last = ap (λ f. f is_last) (fold_out-Arm (Labelled ResolvedBody) (Bool → Part ResolvedArm) (Labelled ResolvedCase) (Part ResolvedElsif) (Labelled ResolvedIf) (Labelled ResolvedLoop) (Part ResolvedStatement) body_step arm_step case_step elsif_step if_step loop_step statement_step s)

loop_whole : (s : Loop) (label : Option Token) → of_loop s label ≡ record {
  events = Event.Looped label (out-Loop s).scheme ∷ (events_of (map of_statement (out-Loop s).statements) ++ Event.EndLoop (out-Loop s).scheme label (out-Loop s).end_name ∷ []);
  at = λ p. roll-ResolvedLoop (record { scheme = scheme_resolved p.text p.around (out-Loop s).scheme; statements = all_at (map of_statement (out-Loop s).statements) (step (Event.Looped label (out-Loop s).scheme) p) });
}
unfolding of_loop of_statement loop_step
loop_whole s label = ap (λ f. f label) (fold_out-Loop (Labelled ResolvedBody) (Bool → Part ResolvedArm) (Labelled ResolvedCase) (Part ResolvedElsif) (Labelled ResolvedIf) (Labelled ResolvedLoop) (Part ResolvedStatement) body_step arm_step case_step elsif_step if_step loop_step statement_step s)

-- ---- the walk along a statement, and what it means

-- what a function has done that goes along a part
abbrev pub Goes : {X : Type 0} → X → Progress → Part X → Progress → Type 0
Goes v q part p = (q ≡ walk part.events p) × (v ≡ part.at p)

goes : {X : Type 0} {v : X} {q p : Progress} {part other : Part X} → part ≡ other → (q ≡ walk other.events p) × (v ≡ other.at p) → (q ≡ walk part.events p) × (v ≡ part.at p)
goes {p = p} same both = (both.0 ∙ sym (ap (λ x. walk x.events p) same), both.1 ∙ sym (ap (λ x. x.at p) same))

pub statement_part : (s : Statement) (p : Progress) {l : Option Declared} {b : ResolvedBody} {a q : Progress}
    → a ≡ walk (label_events (out-Statement s).label) p → l ≡ label_here p.text p.around (out-Statement s).label
    → q ≡ walk (of_body (out-Statement s).body (out-Statement s).label).events a → b ≡ (of_body (out-Statement s).body (out-Statement s).label).at a
    → Goes (roll-ResolvedStatement (record { line = (out-Statement s).line; label = l; body = b })) q (of_statement s) p
statement_part s p ha hl hq hb = goes (statement_is s) (
  then_part (label_events (out-Statement s).label) (of_body (out-Statement s).body (out-Statement s).label).events p ha hq,
  rw (hl, hb, ha) refl,
)

pub if_part : (s : If) (label : Option Token) {xs zs : List Statement} {ys : List Elsif} (p : Progress) {v : Value} {rs os : List ResolvedStatement} {es : List ResolvedElsif} {a b d e q : Progress}
    → v ≡ condition_in p (out-If s).condition → a ≡ step (Event.Tested (out-If s).condition) p
    → xs ≡ (out-If s).statements → b ≡ walk (events_of (of_statements xs)) a → rs ≡ all_at (of_statements xs) a
    → ys ≡ (out-If s).elsifs → d ≡ walk (events_of (map of_elsif ys)) b → es ≡ all_at (map of_elsif ys) b
    → zs ≡ (out-If s).otherwise → e ≡ walk (events_of (of_statements zs)) d → os ≡ all_at (of_statements zs) d
    → q ≡ step (Event.EndIf label (out-If s).end_name) e
    → Goes (roll-ResolvedIf (record { condition = v; statements = rs; elsifs = es; otherwise = os })) q (of_if s label) p
unfolding of_statements if_at
if_part s label {xs = xs} {zs = zs} {ys = ys} p hv ha hx hb hr hy hd hes hz he hos hq =
    let o = out-If s in let end = Event.EndIf label o.end_name ∷ [] in
    let rest : List Event = events_of (map of_statement o.otherwise) ++ end in let more : List Event = events_of (map of_elsif o.elsifs) ++ rest in
    goes (if_whole s label) (
      then_event (Event.Tested o.condition) (events_of (map of_statement o.statements) ++ more) p ha
          (then_all of_statement o.statements xs more _ hx hb (then_all of_elsif o.elsifs ys rest _ hy hd (then_all of_statement o.otherwise zs end _ hz he (just_event _ _ hq)))),
      rw (hv, hr, hes, hos, hd, hb, ha, hx, hy, hz) refl,
    )

pub elsif_part : (s : Elsif) {xs : List Statement} (p : Progress) {v : Value} {rs : List ResolvedStatement} {a q : Progress}
    → v ≡ condition_in p (out-Elsif s).condition → a ≡ step (Event.Tested (out-Elsif s).condition) p
    → xs ≡ (out-Elsif s).statements → q ≡ walk (events_of (of_statements xs)) a → rs ≡ all_at (of_statements xs) a
    → Goes (roll-ResolvedElsif (record { condition = v; statements = rs })) q (of_elsif s) p
unfolding of_statements elsif_at
elsif_part s {xs = xs} p hv ha hx hq hr =
    let o = out-Elsif s in
    goes (elsif_is s) (then_event (Event.Tested o.condition) (events_of (map of_statement o.statements)) p ha (just_all of_statement o.statements xs _ hx hq), rw (hv, hr, ha, hx) refl)

pub case_part : (s : Case) (label : Option Token) {xs : List Arm} (p : Progress) {v : Value} {arms : List ResolvedArm} {a b q : Progress}
    → a ≡ step (Event.Chosen (out-Case s).subject) p → v ≡ subject_resolved a.text a.around (out-Case s).subject
    → xs ≡ (out-Case s).arms → b ≡ walk (events_of (with_last (map of_arm xs))) a → arms ≡ all_at (with_last (map of_arm xs)) a
    → q ≡ step (Event.EndCase label (out-Case s).end_name) b
    → Goes (roll-ResolvedCase (record { subject = v; arms = arms })) q (of_case s label) p
unfolding case_at
case_part s label {xs = xs} p {a = a} ha hv hx hb hr hq =
    let o = out-Case s in let end = Event.EndCase label o.end_name ∷ [] in
    goes (case_whole s label) (
      then_event (Event.Chosen o.subject) (events_of (with_last (map of_arm o.arms)) ++ end) p ha
          (then_part (events_of (with_last (map of_arm o.arms))) end _ (hb ∙ ap (λ ys. walk (events_of (with_last (map of_arm ys))) a) hx) (just_event _ _ hq)),
      rw (hv, hr, ha, hx) refl,
    )

pub arm_part : (s : Arm) (is_last : Bool) {cs ds : List Choice} {xs : List Statement} (p : Progress) {choices : List ChoiceValue} {rs : List ResolvedStatement} {a q : Progress}
    → cs ≡ (out-Arm s).choices → choices ≡ choices_resolved p.text p.around cs → ds ≡ (out-Arm s).choices → a ≡ step (Event.Arm is_last ds) p
    → xs ≡ (out-Arm s).statements → q ≡ walk (events_of (of_statements xs)) a → rs ≡ all_at (of_statements xs) a
    → Goes (roll-ResolvedArm (record { choices = choices; statements = rs })) q (of_arm s is_last) p
unfolding of_statements
arm_part s is_last {xs = xs} p hc hv hd ha hx hq hr =
    let o = out-Arm s in
    goes (arm_is s is_last) (
      then_event (Event.Arm is_last o.choices) (events_of (map of_statement o.statements)) p (ha ∙ ap (λ cs. step (Event.Arm is_last cs) p) hd) (just_all of_statement o.statements xs _ hx hq),
      rw (hv, hr, ha, hc, hd, hx) refl,
    )

pub loop_part : (s : Loop) (label : Option Token) {xs : List Statement} (p : Progress) {v : ResolvedScheme} {rs : List ResolvedStatement} {a b q : Progress}
    → v ≡ scheme_resolved p.text p.around (out-Loop s).scheme → a ≡ step (Event.Looped label (out-Loop s).scheme) p
    → xs ≡ (out-Loop s).statements → b ≡ walk (events_of (of_statements xs)) a → rs ≡ all_at (of_statements xs) a
    → q ≡ step (Event.EndLoop (out-Loop s).scheme label (out-Loop s).end_name) b
    → Goes (roll-ResolvedLoop (record { scheme = v; statements = rs })) q (of_loop s label) p
unfolding of_statements
loop_part s label {xs = xs} p hv ha hx hb hr hq =
    let o = out-Loop s in let end = Event.EndLoop o.scheme label o.end_name ∷ [] in
    goes (loop_whole s label) (
      then_event (Event.Looped label o.scheme) (events_of (map of_statement o.statements) ++ end) p ha (then_all of_statement o.statements xs end _ hx hb (just_event _ _ hq)),
      rw (hv, hr, ha, hx) refl,
    )

-- ---- the arms of a case statement

arms_more : {X : Type 0} (arm : Bool → Part X) (arms : List (Bool → Part X)) → with_last (arm ∷ arms) ≡ arm (nat_eq (length arms) 0) ∷ with_last arms
unfolding with_last
arms_more arm [] = refl
arms_more arm (next ∷ arms) = ap (λ b. arm b ∷ with_last (next ∷ arms)) (sym (eqb-suc-zero (length arms)))

is_last_arm : (i n m : ℕ) → i < n → m ≡ n - (i + 1) → nat_eq m 0 ≡ nat_eq (i + 1) n
is_last_arm i n m below is = grind (arith, nat_tests)

-- the arms that are left, from this one on
arms_left : (xs : List Arm) (i : ℕ) (x : Arm) → i < length xs → x ≡ get_or xs i x
    → with_last (map of_arm (drop i xs)) ≡ of_arm x (nat_eq (i + 1) (length xs)) ∷ with_last (map of_arm (drop (i + 1) xs))
arms_left xs i x below is =
    let rest = drop (i + 1) xs in
    let last : nat_eq (length (map of_arm rest)) 0 ≡ nat_eq (i + 1) (length xs) =
    is_last_arm i (length xs) (length (map of_arm rest)) below (length-map rest of_arm ∙ length-drop (i + 1) xs) in
    ap (λ ys. with_last (map of_arm ys)) (drop_more xs i x below) ∙ (ap (λ y. with_last (map of_arm (y ∷ rest))) (sym is) ∙
    (arms_more (of_arm x) (map of_arm rest) ∙ ap (λ b. of_arm x b ∷ with_last (map of_arm rest)) last))

pub arms_turn : (xs : List Arm) (i : ℕ) (x : Arm) (done pushed : List ResolvedArm) (v : ResolvedArm) (s t start : Progress)
    → i < length xs → x ≡ get_or xs i x → Reaches done (with_last (map of_arm (drop i xs))) s (with_last (map of_arm xs)) start
    → t ≡ walk (of_arm x (nat_eq (i + 1) (length xs))).events s → v ≡ (of_arm x (nat_eq (i + 1) (length xs))).at s → pushed ≡ done ++ v ∷ []
    → Reaches pushed (with_last (map of_arm (drop (i + 1) xs))) t (with_last (map of_arm xs)) start
arms_turn xs i x done pushed v s t start below is so_far turn means more =
    let P : List (Part ResolvedArm) → Type 0 = λ ps. Reaches done ps s (with_last (map of_arm xs)) start in
    parts_more done pushed _ _ _ v s t start (subst P (arms_left xs i x below is) so_far) turn means more

pub arms_end : (xs : List Arm) (i : ℕ) (done : List ResolvedArm) (s start : Progress)
    → length xs ≤ i → Reaches done (with_last (map of_arm (drop i xs))) s (with_last (map of_arm xs)) start
    → (s ≡ walk (events_of (with_last (map of_arm xs))) start) × (done ≡ all_at (with_last (map of_arm xs)) start)
unfolding with_last
arms_end xs i done s start above so_far = parts_end done _ _ s start so_far (ap (λ ys. with_last (map of_arm ys)) (drop_all i xs above))
