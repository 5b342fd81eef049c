-- Statements that stand there are read, unless a bound is used up.
use Rattle.std.proofs.Common.{◌≡◌, ℕ, zero, suc, Bool, true, false, Option, Some, None, List, [], ◌∷◌, refl, sym, ap, ◌∙◌, subst, arith}
use Rattle.vhdl_tokens.specs.declared.token.Kind.{Kind}
use Rattle.vhdl_tokens.specs.declared.token.Kind.TheVariants as kind
use Rattle.vhdl_tokens.specs.declared.token.Token.{Token}
use Rattle.vhdl_tokens.specs.declared.token.Delimiter.TheVariants as delimiter
use Rattle.vhdl_tokens.specs.declared.reserved.Reserved.{Reserved}
use Rattle.vhdl_tokens.specs.declared.reserved.Reserved.TheVariants as reserved
use Rattle.vhdl_tree.specs.declared.expressions.Expr.{Expr}
use Rattle.vhdl_tree.specs.declared.expressions.Name.{Name}
use Rattle.vhdl_tree.specs.declared.expressions.Part.{Part}
use Rattle.vhdl_tree.specs.declared.statements.Statement.{Statement}
use Rattle.vhdl_tree.specs.declared.statements.Body.{Body}
use Rattle.vhdl_tree.specs.declared.statements.Body.TheVariants as a_body
use Rattle.vhdl_tree.specs.declared.statements.Wait.{Wait}
use Rattle.vhdl_tree.specs.declared.statements.Assertion.{Assertion}
use Rattle.vhdl_tree.specs.declared.statements.Report.{Report}
use Rattle.vhdl_tree.specs.declared.statements.Delay.{Delay}
use Rattle.vhdl_tree.specs.declared.statements.Delay.TheVariants as a_delay
use Rattle.vhdl_tree.specs.declared.statements.Element.{Element}
use Rattle.vhdl_tree.specs.declared.statements.SignalAssignment.{SignalAssignment}
use Rattle.vhdl_tree.specs.declared.statements.VariableAssignment.{VariableAssignment}
use Rattle.vhdl_tree.specs.declared.statements.If.{If}
use Rattle.vhdl_tree.specs.declared.statements.Elsif.{Elsif}
use Rattle.vhdl_tree.specs.declared.statements.Case.{Case}
use Rattle.vhdl_tree.specs.declared.statements.Arm.{Arm}
use Rattle.vhdl_tree.specs.declared.statements.Scheme.{Scheme}
use Rattle.vhdl_tree.specs.declared.statements.Loop.{Loop}
use Rattle.vhdl_tree.specs.declared.statements.Jump.{Jump}
use Rattle.vhdl_tree.specs.Words.{Span, id, word, mark, kind_of, line_of}
use Rattle.vhdl_tree.specs.Lists.{Many, Perhaps, IsToken}
use Rattle.vhdl_tree.specs.Expressions.{Expression, NameOf, SimpleWithin, IsPart, IsName}
use Rattle.vhdl_tree.specs.Statements.{statement_of, IsDelay, IsElement, IsWaveform, IsNames, IsOn, IsWait, IsAssertion, IsReport, IsSignalAssignment, IsVariableAssignment, IsJump, IsScheme, IsEnd, IsElsif, IsElse, IsIf, IsArm, IsArms, IsCase, IsLoop, IsBody, IsStatement, StatementsWithin}
use Rattle.vhdl_reader_expressions.specs.Kinds.{same, same_word, same_delimiter}
use Rattle.vhdl_reader_expressions.specs.Steps.{Found, Parser, sees, ◌>>=◌, pure}
use Rattle.vhdl_reader_expressions.proofs.Complete.{Reaches, Complete, Anything, bind_up, pure_up, spent_up, on_hit, on_miss, look_up, on_line_up, word_up, token_up, token_is, optional_up, perhaps_up, many_ends, many_up, preceded_ends, preceded_up, separated_up}
use Rattle.vhdl_reader_expressions.specs.Reading.{begins_part}
use Rattle.vhdl_reader_expressions.proofs.Begins.{begins_expression, unseen}
use Rattle.vhdl_reader_expressions.proofs.Follow.{Ends, EndsBounds}
use Rattle.vhdl_reader_expressions.proofs.Reached.{expression_reached, choices_reached, name_reached, name_from_reached, bounds_reached}
use Rattle.vhdl_reader_statements.specs.declared.tables.Opening.{Opening}
use Rattle.vhdl_reader_statements.specs.declared.tables.Opening.TheVariants as an_opening
use Rattle.vhdl_reader_statements.specs.Reading as spec
use Rattle.vhdl_reader_statements.specs.Reading.{opening_of, is_opening, begins_statement, is_identifier, begins_arm, perhaps_token, inertial, report, null, closing, expression_before, perhaps_expression, rejection, delay_within, element, waveform_within, names_within, on_names, wait, assertion, jump, signal_assignment, variable_assignment, assignment_to, assignment_from, assignment, parameter, condition, scheme, elsif, otherwise, if_after, if_statement, arm, all_arms, case_statement, loop_statement, body, named_after, named, unlabelled, statement, level, statements_at}
use Rattle.vhdl_reader_statements.proofs.Follow.{waveform_starts, Unlike, unlike_unseen, EndsNames, EndsOn, EndsElement, EndsWaveform, EndsStatements, EndsElse, perhaps_ends, else_ends, at_end}

-- ---- what holds no expressions

perhaps_token_up : (w : Reserved) (k : Kind) {ts us : List Token} {t : Option Token} → Perhaps (kind.Word w) (IsToken k) ts t us → Unlike (kind.Word w) (kind_of us)
    → Reaches (perhaps_token w k) ts (Found t us)
unfolding perhaps_token
perhaps_token_up w k {us = us} r h = perhaps_up {E = Anything} (record { reads = λ one e. token_is one }) r tt (unlike_unseen _ us h)

report_up : {ts us : List Token} {a : Report} → IsReport ts a us → Reaches report ts (Found a us)
unfolding report
report_up (IsReport.report severity) = bind_up _ (word_up _) (bind_up _ (token_up _) (bind_up _ (perhaps_token_up _ _ severity (λ e. cc)) (bind_up _ (word_up _) pure_up)))

closing_up : (w : Reserved) {ts us : List Token} {name : Option Token} → IsEnd w ts name us → Reaches (closing w) ts (Found name us)
unfolding closing
closing_up w (IsEnd.closed {us = us} {z = z} r) = bind_up _ (word_up _) (bind_up _ (word_up _)
    (bind_up _ (optional_up r (unlike_unseen _ (mark delimiter.Semicolon z ∷ us) (λ e. cc))) (bind_up _ (word_up _) pure_up)))

-- ---- what holds no statements

module _ (bound : ℕ) where
  before_up : (w : Reserved) {ts us : List Token} {x : Span} {a : Expr} → Expression ts a (word w x ∷ us) → Ends 1 (Some (kind.Word w)) → Reaches (expression_before bound w) ts (Found a us)
  unfolding expression_before
  before_up w r h = bind_up _ ((expression_reached bound).reads r h) (bind_up _ (word_up _) pure_up)

  perhaps_expression_up : (w : Reserved) {ts us : List Token} {a : Option Expr} → Perhaps (kind.Word w) Expression ts a us → Ends 1 (kind_of us) → Unlike (kind.Word w) (kind_of us)
      → Reaches (perhaps_expression bound w) ts (Found a us)
  unfolding perhaps_expression
  perhaps_expression_up w {us = us} r ends h = perhaps_up (expression_reached bound) r ends (unlike_unseen _ us h)

  rejection_up : {ts us : List Token} {x : Span} {a : Expr} → Expression ts a (word reserved.Inertial x ∷ us) → Reaches (rejection bound) ts (Found (a_delay.Reject a) us)
  unfolding rejection
  rejection_up r = bind_up _ (before_up _ r (record { below = omega arith })) pure_up

  -- an expression follows a delay
  delay_up : {ts us : List Token} {d : Delay} → IsDelay ts d us → begins_expression (kind_of us) ≡ true → Reaches (delay_within bound) ts (Found d us)
  unfolding delay_within inertial same same_word
  delay_up {us = us} IsDelay.absent h = on_miss (kind.Word reserved.Transport) (pure a_delay.Transport) _ (unseen begins_expression _ us refl h)
      (on_miss (kind.Word reserved.Reject) (rejection bound) _ (unseen begins_expression _ us refl h)
      (on_miss (kind.Word reserved.Inertial) (pure a_delay.Inertial) _ (unseen begins_expression _ us refl h) pure_up))
  delay_up IsDelay.transport h = on_hit (kind.Word reserved.Transport) _ _ pure_up
  delay_up (IsDelay.reject r) h = on_miss (kind.Word reserved.Transport) (pure a_delay.Transport) _ refl (on_hit (kind.Word reserved.Reject) _ inertial (rejection_up r))
  delay_up IsDelay.inertial h = on_miss (kind.Word reserved.Transport) (pure a_delay.Transport) _ refl
      (on_miss (kind.Word reserved.Reject) (rejection bound) _ refl (on_hit (kind.Word reserved.Inertial) _ (pure a_delay.Inertial) pure_up))

  pub delay_complete : Complete (λ k. begins_expression k ≡ true) (delay_within bound) IsDelay
  delay_complete = record { reads = delay_up }

  element_complete : Complete EndsElement (element bound) IsElement
  unfolding element
  element_complete = record { reads = by }
    where
      by : {ts us : List Token} {a : Element} → IsElement ts a us → EndsElement (kind_of us) → Reaches (element bound) ts (Found a us)
      by (IsElement.element r after) h = bind_up _ ((expression_reached bound).reads r (perhaps_ends (Ends 1) (record { below = omega arith }) after (record { below = h.below })))
          (bind_up _ (perhaps_expression_up _ after (record { below = h.below }) h.undelayed) pure_up)

  pub waveform_complete : Complete EndsWaveform (waveform_within bound) IsWaveform
  unfolding waveform_within
  waveform_complete = record { reads = λ r h. separated_up bound element_complete (record { below = omega arith; undelayed = λ e. cc }) r h.element (unlike_unseen _ _ h.last) }

  pub names_complete : Complete EndsNames (names_within bound) IsNames
  unfolding names_within
  names_complete = record { reads = λ r h. separated_up bound (name_reached bound) (record { below = omega arith }) r (record { below = h.below }) (unlike_unseen _ _ h.last) }

  on_names_up : {ts us : List Token} {all : List Name} → IsOn ts all us → EndsOn (kind_of us) → Reaches (on_names bound) ts (Found all us)
  unfolding on_names
  on_names_up {us = us} IsOn.absent h = on_miss (kind.Word reserved.On) (names_within bound) _ (unlike_unseen _ us h.other) pure_up
  on_names_up (IsOn.names r) h = on_hit (kind.Word reserved.On) _ _ (names_complete.reads r h.names)

  wait_up : {ts us : List Token} {a : Wait} → IsWait ts a us → Reaches (wait bound) ts (Found a us)
  unfolding wait
  wait_up (IsWait.wait all until time) = bind_up _ (token_up _)
      (bind_up _ (on_names_up all (perhaps_ends EndsOn (record { names = record { below = omega arith; last = λ e. cc }; other = λ e. cc }) until
      (perhaps_ends EndsOn (record { names = record { below = omega arith; last = λ e. cc }; other = λ e. cc }) time
      (record { names = record { below = omega arith; last = λ e. cc }; other = λ e. cc }))))
      (bind_up _ (perhaps_expression_up _ until (perhaps_ends (Ends 1) (record { below = omega arith }) time (record { below = omega arith }))
      (perhaps_ends (Unlike (kind.Word reserved.Until)) (λ e. cc) time (λ e. cc)))
      (bind_up _ (perhaps_expression_up _ time (record { below = omega arith }) (λ e. cc)) (bind_up _ (word_up _) pure_up))))

  assertion_up : {ts us : List Token} {a : Assertion} → IsAssertion ts a us → Reaches (assertion bound) ts (Found a us)
  unfolding assertion
  assertion_up (IsAssertion.assertion r text severity) = bind_up _ (word_up _)
      (bind_up _ ((expression_reached bound).reads r (perhaps_ends (Ends 1) (record { below = omega arith }) text (perhaps_ends (Ends 1) (record { below = omega arith }) severity (record { below = omega arith }))))
      (bind_up _ (perhaps_token_up _ _ text (perhaps_ends (Unlike (kind.Word reserved.Report)) (λ e. cc) severity (λ e. cc)))
      (bind_up _ (perhaps_token_up _ _ severity (λ e. cc)) (bind_up _ (word_up _) pure_up))))

  jump_up : (w : Reserved) {ts us : List Token} {a : Jump} → IsJump w ts a us → Reaches (jump bound w) ts (Found a us)
  unfolding jump
  jump_up w (IsJump.jump {us = us} label r) = bind_up _ (token_up _)
      (bind_up _ (optional_up label (unlike_unseen _ us (perhaps_ends (Unlike kind.Identifier) (λ e. cc) r (λ e. cc))))
      (bind_up _ (perhaps_expression_up _ r (record { below = omega arith }) (λ e. cc)) (bind_up _ (word_up _) pure_up)))

  -- the scheme of a loop is followed by the word `loop`
  scheme_up : {ts us : List Token} {s : Scheme} → IsScheme ts s us → kind_of us ≡ Some (kind.Word reserved.Loop) → Reaches (scheme bound) ts (Found s us)
  unfolding scheme condition parameter same same_word
  scheme_up {us = us} IsScheme.forever h = on_miss (kind.Word reserved.While) (condition bound) _ (unlike_unseen _ us (λ e. cc))
      (on_miss (kind.Word reserved.For) (parameter bound) _ (unlike_unseen _ us (λ e. cc)) pure_up)
  scheme_up (IsScheme.while_ r) h = on_hit (kind.Word reserved.While) _ _
      (bind_up _ ((expression_reached bound).reads r (subst (λ k. Ends 1 k) (sym h) (record { below = omega arith }))) pure_up)
  scheme_up (IsScheme.for_ r) h = on_miss (kind.Word reserved.While) (condition bound) _ refl (on_hit (kind.Word reserved.For) _ _
      (bind_up _ (token_up _) (bind_up _ (word_up _) (bind_up _ ((bounds_reached bound).reads r (subst (λ k. EndsBounds k) (sym h) (record { below = omega arith; undirected = refl }))) pure_up))))

  -- ---- assignments

  signal_up : {x : Span} {ts us : List Token} {a : SignalAssignment} → IsSignalAssignment (id x ∷ ts) a us → Reaches (assignment_from bound (id x)) ts (Found (a_body.Signal a) us)
  unfolding assignment_from assignment_to signal_assignment
  signal_up (IsSignalAssignment.assigned r d all) = bind_up _ (name_from_reached bound r (record { below = omega arith }))
      (on_hit (kind.Delimiter delimiter.LessEqual) _ _ (bind_up _ (delay_up d (waveform_starts all))
      (bind_up _ (waveform_complete.reads all (record { element = record { below = omega arith; undelayed = λ e. cc }; last = λ e. cc })) (bind_up _ (word_up _) pure_up))))

  variable_up : {x : Span} {ts us : List Token} {a : VariableAssignment} → IsVariableAssignment (id x ∷ ts) a us → Reaches (assignment_from bound (id x)) ts (Found (a_body.Variable a) us)
  unfolding assignment_from assignment_to variable_assignment same same_delimiter
  variable_up (IsVariableAssignment.assigned {n = n} r a) = bind_up _ (name_from_reached bound r (record { below = omega arith }))
      (on_miss (kind.Delimiter delimiter.LessEqual) (signal_assignment bound n) _ refl (on_hit (kind.Delimiter delimiter.Assign) _ _
      (bind_up _ ((expression_reached bound).reads a (record { below = omega arith })) (bind_up _ (word_up _) pure_up))))

-- a part of a name is no colon
part_begins : (S : List Token → Expr → List Token → Type 0) (ts us : List Token) (a : Part) → IsPart S ts a us → begins_part (kind_of ts) ≡ true
part_begins S ts us a (IsPart.index r) = refl
part_begins S ts us a (IsPart.slice r is s) = refl
part_begins S ts us a IsPart.attribute = refl
part_begins S ts us a IsPart.range = refl

part_unlike : (k : Option Kind) → begins_part k ≡ true → Unlike (kind.Delimiter delimiter.Colon) k
part_unlike k h e = let g : begins_part (Some (kind.Delimiter delimiter.Colon)) ≡ true = subst (λ j. begins_part j ≡ true) e h in absurd cc

-- a name is an identifier, behind which no colon stands
pub record Named (ts : List Token) : Type 0 where
  pub span : Span
  pub rest : List Token
  pub is : ts ≡ id span ∷ rest
  pub next : sees (kind.Delimiter delimiter.Colon) rest ≡ false

name_by : (depth : ℕ) {ts us : List Token} {n : Name} → IsName (SimpleWithin depth) ts n us → Unlike (kind.Delimiter delimiter.Colon) (kind_of us) → Named ts
name_by depth (IsName.named {ts = ts} {x = x} list) h = record {
  span = x;
  rest = ts;
  is = refl;
  next = unlike_unseen _ ts (many_ends begins_part (part_begins (SimpleWithin depth)) part_unlike list h);
}

name_names : {ts us : List Token} {n : Name} → NameOf ts n us → Unlike (kind.Delimiter delimiter.Colon) (kind_of us) → Named ts
name_names r h = name_by r.0 r.1 h

-- ---- what statements begin with

abbrev pub is_named : Opening → Bool
is_named an_opening.Named = true
is_named _ = false

unnamed : (k : Option Kind) → is_named (opening_of k) ≡ false → is_identifier k ≡ false
unnamed (Some kind.Identifier) h = absurd cc
unnamed _ h = refl

wait_opens : {ts us : List Token} {a : Wait} → IsWait ts a us → opening_of (kind_of ts) ≡ an_opening.Wait
wait_opens (IsWait.wait all until time) = refl

assertion_opens : {ts us : List Token} {a : Assertion} → IsAssertion ts a us → opening_of (kind_of ts) ≡ an_opening.Assert
assertion_opens (IsAssertion.assertion r text severity) = refl

report_opens : {ts us : List Token} {a : Report} → IsReport ts a us → opening_of (kind_of ts) ≡ an_opening.Report
report_opens (IsReport.report severity) = refl

next_opens : {ts us : List Token} {a : Jump} → IsJump reserved.Next ts a us → opening_of (kind_of ts) ≡ an_opening.Next
next_opens (IsJump.jump label r) = refl

exit_opens : {ts us : List Token} {a : Jump} → IsJump reserved.Exit ts a us → opening_of (kind_of ts) ≡ an_opening.Exit
exit_opens (IsJump.jump label r) = refl

scheme_opens : {ts us : List Token} {s : Scheme} → IsScheme ts s us → opening_of (kind_of us) ≡ an_opening.Loop → opening_of (kind_of ts) ≡ an_opening.Loop
scheme_opens IsScheme.forever h = h
scheme_opens (IsScheme.while_ r) h = refl
scheme_opens (IsScheme.for_ r) h = refl

-- ---- what holds statements, over a reader of those that stand one statement further in

module _ (bound : ℕ) (inner : Parser (List Statement)) (S : List Token → List Statement → List Token → Type 0) (further : Complete EndsStatements inner S) where
  if_opens : {ts us : List Token} {a : If} → IsIf S ts a us → opening_of (kind_of ts) ≡ an_opening.If
  if_opens (IsIf.if_ r all elsifs rest last) = refl

  case_opens : {ts us : List Token} {a : Case} → IsCase S ts a us → opening_of (kind_of ts) ≡ an_opening.Case
  case_opens (IsCase.case_ r all last) = refl

  loop_opens : {ts us : List Token} {a : Loop} → IsLoop S ts a us → opening_of (kind_of ts) ≡ an_opening.Loop
  loop_opens (IsLoop.loop_ s all last) = scheme_opens s refl

  elsif_complete : Complete EndsStatements (elsif bound inner) (IsElsif S)
  unfolding elsif
  elsif_complete = record { reads = by }
    where
      by : {ts us : List Token} {a : Elsif} → IsElsif S ts a us → EndsStatements (kind_of us) → Reaches (elsif bound inner) ts (Found a us)
      by (IsElsif.elsif_ r all) h = bind_up _ (before_up bound _ r (record { below = omega arith })) (bind_up _ (further.reads all h) pure_up)

  otherwise_up : {ts us : List Token} {all : List Statement} → IsElse S ts all us → EndsElse (kind_of us) → Reaches (otherwise bound inner) ts (Found all us)
  unfolding otherwise
  otherwise_up {us = us} IsElse.absent h = on_miss (kind.Word reserved.Else) inner _ (unlike_unseen _ us h.other) pure_up
  otherwise_up (IsElse.otherwise r) h = on_hit (kind.Word reserved.Else) _ _ (further.reads r h.statements)

  if_up : {ts us : List Token} {a : If} → IsIf S ts a us → Reaches (if_statement bound inner) ts (Found a us)
  unfolding if_statement if_after
  if_up (IsIf.if_ {ws = ws} r all elsifs rest last) =
      let behind : EndsStatements (kind_of ws) = else_ends EndsStatements refl rest (at_end EndsStatements refl last) in
      bind_up _ (word_up _) (bind_up _ (before_up bound _ r (record { below = omega arith }))
      (bind_up _ (further.reads all (preceded_ends EndsStatements refl elsifs behind))
      (bind_up _ (preceded_up bound [] elsif_complete refl elsifs behind (unlike_unseen _ ws
      (else_ends (Unlike (kind.Word reserved.Elsif)) (λ e. cc) rest (at_end (Unlike (kind.Word reserved.Elsif)) (λ e. cc) last))))
      (bind_up _ (otherwise_up rest (at_end EndsElse (record { statements = refl; other = λ e. cc }) last)) (bind_up _ (closing_up _ last) pure_up)))))

  arm_complete : Complete EndsStatements (arm bound inner) (IsArm S)
  unfolding arm
  arm_complete = record { reads = by }
    where
      by : {ts us : List Token} {a : Arm} → IsArm S ts a us → EndsStatements (kind_of us) → Reaches (arm bound inner) ts (Found a us)
      by (IsArm.arm choices all) h = bind_up _ (word_up _)
          (bind_up _ ((choices_reached bound).reads choices (record { below = omega arith; undirected = refl; last = refl }))
          (bind_up _ (word_up _) (bind_up _ (further.reads all h) pure_up)))

  arm_starts : (ts us : List Token) (a : Arm) → IsArm S ts a us → begins_arm (kind_of ts) ≡ true
  arm_starts ts us a (IsArm.arm choices all) = refl

  arm_follows : (k : Option Kind) → begins_arm k ≡ true → EndsStatements k
  arm_follows (Some (kind.Word reserved.When)) h = refl
  arm_follows _ h = absurd cc

  all_arms_up : {ts us : List Token} {all : List Arm} → IsArms S ts all us → EndsStatements (kind_of us) → begins_arm (kind_of us) ≡ false → Reaches (all_arms bound inner) ts (Found all us)
  unfolding all_arms
  all_arms_up (IsArms.several {a = a} one rest) h last = bind_up _ (arm_complete.reads one (many_ends begins_arm arm_starts arm_follows rest h))
      (many_up bound begins_arm (a ∷ []) arm_complete arm_starts arm_follows rest h last)

  case_up : {ts us : List Token} {a : Case} → IsCase S ts a us → Reaches (case_statement bound inner) ts (Found a us)
  unfolding case_statement
  case_up (IsCase.case_ r all last) = bind_up _ (word_up _) (bind_up _ (before_up bound _ r (record { below = omega arith }))
      (bind_up _ (all_arms_up all (at_end EndsStatements refl last) (at_end (λ k. begins_arm k ≡ false) refl last)) (bind_up _ (closing_up _ last) pure_up)))

  loop_up : {ts us : List Token} {a : Loop} → IsLoop S ts a us → Reaches (loop_statement bound inner) ts (Found a us)
  unfolding loop_statement
  loop_up (IsLoop.loop_ s all last) = bind_up _ (scheme_up bound s refl) (bind_up _ (word_up _)
      (bind_up _ (further.reads all (at_end EndsStatements refl last)) (bind_up _ (closing_up _ last) pure_up)))

  -- a body is an assignment, whose target begins with an identifier, or it begins with a word
  data Opens : List Token → Body → List Token → Type 0 where
    assigned : {x : Span} {ts us : List Token} {b : Body} → sees (kind.Delimiter delimiter.Colon) ts ≡ false → Reaches (assignment_from bound (id x)) ts (Found b us) → Opens (id x ∷ ts) b us
    worded : {ts us : List Token} {b : Body} (o : Opening) → opening_of (kind_of ts) ≡ o → is_named o ≡ false → is_opening o ≡ true → Reaches (spec.body_by bound inner o) ts (Found b us)
        → Opens ts b us

  signal_opens : {ts us : List Token} {a : SignalAssignment} → Named ts → IsSignalAssignment ts a us → Opens ts (a_body.Signal a) us
  signal_opens {us = us} {a = a} n r = subst (λ xs. Opens xs (a_body.Signal a) us) (sym n.is) (Opens.assigned n.next (signal_up bound (subst (λ xs. IsSignalAssignment xs a us) n.is r)))

  variable_opens : {ts us : List Token} {a : VariableAssignment} → Named ts → IsVariableAssignment ts a us → Opens ts (a_body.Variable a) us
  variable_opens {us = us} {a = a} n r = subst (λ xs. Opens xs (a_body.Variable a) us) (sym n.is) (Opens.assigned n.next (variable_up bound (subst (λ xs. IsVariableAssignment xs a us) n.is r)))

  signal_named : {ts us : List Token} {a : SignalAssignment} → IsSignalAssignment ts a us → Named ts
  signal_named (IsSignalAssignment.assigned r d all) = name_names r (λ e. cc)

  variable_named : {ts us : List Token} {a : VariableAssignment} → IsVariableAssignment ts a us → Named ts
  variable_named (IsVariableAssignment.assigned r a) = name_names r (λ e. cc)

  null_up : {x y : Span} {us : List Token} → Reaches null (word reserved.Null x ∷ mark delimiter.Semicolon y ∷ us) (Found a_body.Null us)
  unfolding null
  null_up = bind_up _ (word_up _) (bind_up _ (word_up _) pure_up)

  body_opens : {ts us : List Token} {b : Body} → IsBody S ts b us → Opens ts b us
  body_opens (IsBody.wait r) = Opens.worded an_opening.Wait (wait_opens r) refl refl (bind_up _ (wait_up bound r) pure_up)
  body_opens (IsBody.assertion r) = Opens.worded an_opening.Assert (assertion_opens r) refl refl (bind_up _ (assertion_up bound r) pure_up)
  body_opens (IsBody.report r) = Opens.worded an_opening.Report (report_opens r) refl refl (bind_up _ (report_up r) pure_up)
  body_opens (IsBody.signal r) = signal_opens (signal_named r) r
  body_opens (IsBody.variable r) = variable_opens (variable_named r) r
  body_opens (IsBody.if_ r) = Opens.worded an_opening.If (if_opens r) refl refl (bind_up _ (if_up r) pure_up)
  body_opens (IsBody.case_ r) = Opens.worded an_opening.Case (case_opens r) refl refl (bind_up _ (case_up r) pure_up)
  body_opens (IsBody.loop_ r) = Opens.worded an_opening.Loop (loop_opens r) refl refl (bind_up _ (loop_up r) pure_up)
  body_opens (IsBody.next r) = Opens.worded an_opening.Next (next_opens r) refl refl (bind_up _ (jump_up bound _ r) pure_up)
  body_opens (IsBody.exit r) = Opens.worded an_opening.Exit (exit_opens r) refl refl (bind_up _ (jump_up bound _ r) pure_up)
  body_opens IsBody.null = Opens.worded an_opening.Null refl refl refl null_up

  body_up : {ts us : List Token} {b : Body} → Opens ts b us → Reaches (body bound inner) ts (Found b us)
  unfolding body assignment
  body_up (Opens.assigned next r) = look_up opening_of (spec.body_by bound inner) refl (bind_up _ (token_up _) r)
  body_up (Opens.worded o is other opens r) = look_up opening_of (spec.body_by bound inner) is r

  unlabelled_up : {ts us : List Token} {b : Body} → Opens ts b us → Reaches (statement bound inner) ts (Found (statement_of (line_of ts) None b) us)
  unfolding statement named named_after unlabelled
  unlabelled_up (Opens.assigned {x = x} next r) = on_line_up (spec.statement_at bound inner) (look_up is_identifier (spec.statement_by bound inner x.line) refl
      (bind_up _ (token_up _) (on_miss (kind.Delimiter delimiter.Colon) (body bound inner >>= (λ c. pure (statement_of x.line (Some (id x)) c))) _ next
      (bind_up (λ c. pure (statement_of x.line None c)) r pure_up))))
  unlabelled_up (Opens.worded {ts = ts} {us = us} {b = b} o is other opens r) = on_line_up (spec.statement_at bound inner)
      (look_up is_identifier (spec.statement_by bound inner (line_of ts)) (unnamed _ (ap is_named is ∙ other)) (bind_up _ (body_up (Opens.worded o is other opens r)) pure_up))

  statement_up : {ts us : List Token} {a : Statement} → IsStatement S ts a us → Reaches (statement bound inner) ts (Found a us)
  unfolding statement named named_after
  statement_up (IsStatement.unlabelled b) = unlabelled_up (body_opens b)
  statement_up (IsStatement.labelled {x = x} b) = on_line_up (spec.statement_at bound inner) (look_up is_identifier (spec.statement_by bound inner x.line) refl
      (bind_up _ (token_up _) (on_hit (kind.Delimiter delimiter.Colon) _ _ (bind_up _ (body_up (body_opens b)) pure_up))))

  body_starts : {ts us : List Token} {b : Body} → Opens ts b us → begins_statement (kind_of ts) ≡ true
  body_starts (Opens.assigned next r) = refl
  body_starts (Opens.worded o is other opens r) = ap is_opening is ∙ opens

  statement_starts : (ts us : List Token) (a : Statement) → IsStatement S ts a us → begins_statement (kind_of ts) ≡ true
  statement_starts ts us a (IsStatement.unlabelled b) = body_starts (body_opens b)
  statement_starts ts us a (IsStatement.labelled b) = refl

  statement_complete : Complete Anything (statement bound inner) (IsStatement S)
  statement_complete = record { reads = λ r h. statement_up r }

  level_complete : Complete EndsStatements (level bound inner) (Many (IsStatement S))
  unfolding level
  level_complete = record { reads = λ list h. many_up bound begins_statement [] statement_complete statement_starts (λ k e. tt) list tt h }

-- ---- without the parameter

pub statements_complete : (bound depth height : ℕ) → Complete EndsStatements (statements_at bound depth) (StatementsWithin height)
unfolding statements_at
statements_complete bound zero height = record { reads = λ r h. spent_up }
statements_complete bound (suc depth) zero = record { reads = λ r h. absurd r }
statements_complete bound (suc depth) (suc height) = level_complete bound (statements_at bound depth) (StatementsWithin height) (statements_complete bound depth height)
