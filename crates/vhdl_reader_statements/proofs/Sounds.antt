-- What a reader of statements finds is so by the grammar.
use Rattle.std.proofs.Common.{◌≡◌, ℕ, zero, suc, Bool, true, false, List, [], ◌∷◌, ◌++◌, Some, subst}
use Rattle.vhdl_tokens.specs.declared.token.Kind.{Kind}
use Rattle.vhdl_tokens.specs.declared.token.Kind.TheVariants as kind
use Rattle.vhdl_tokens.specs.declared.token.Token.{Token}
use Rattle.vhdl_tokens.specs.declared.token.Delimiter.TheVariants as delimiter
use Rattle.vhdl_tokens.specs.declared.reserved.Reserved.{Reserved}
use Rattle.vhdl_tokens.specs.declared.reserved.Reserved.TheVariants as reserved
use Rattle.vhdl_tree.specs.declared.expressions.Expr.{Expr}
use Rattle.vhdl_tree.specs.declared.expressions.Name.{Name}
use Rattle.vhdl_tree.specs.declared.statements.Statement.{Statement}
use Rattle.vhdl_tree.specs.declared.statements.Arm.{Arm}
use Rattle.vhdl_tree.specs.Words.{Span, id, word, mark, line_of}
use Rattle.vhdl_tree.specs.Lists.{Many, Perhaps, IsToken}
use Rattle.vhdl_tree.specs.Expressions.{Expression, NameOf}
use Rattle.vhdl_tree.specs.Statements.{statement_of, IsDelay, IsElement, IsWaveform, IsNames, IsOn, IsWait, IsAssertion, IsReport, IsSignalAssignment, IsVariableAssignment, IsJump, IsScheme, IsEnd, IsElsif, IsElse, IsIf, IsArm, IsArms, IsCase, IsLoop, IsBody, IsStatement, StatementsWithin}
use Rattle.vhdl_reader_expressions.specs.Steps.{Parser}
use Rattle.vhdl_reader_expressions.proofs.Sound.{Triple, Sound, start_t, call_t, bind_t, pure_t, stop_t, spent_sound, on_t, on_line_start, word_t, token_t, before_t, after_t, placed, look_t, token_sound, optional_sound, perhaps_sound}
use Rattle.vhdl_reader_expressions.proofs.SoundLists.{many_sound, many_snoc, many_loop, preceded_sound, separated_sound}
use Rattle.vhdl_reader_expressions.proofs.Read.{expression_read, choices_read, name_read, name_from_read, bounds_read}
use Rattle.vhdl_reader_statements.specs.declared.tables.Opening.{Opening}
use Rattle.vhdl_reader_statements.specs.declared.tables.Opening.TheVariants as an_opening
use Rattle.vhdl_reader_statements.specs.Reading as spec
use Rattle.vhdl_reader_statements.specs.Reading.{perhaps_token, inertial, report, null, closing, expression_before, perhaps_expression, rejection, delay_within, element, waveform_within, names_within, on_names, wait, assertion, jump, signal_assignment, variable_assignment, assignment_to, assignment_from, assignment, parameter, condition, scheme, elsif, otherwise, if_after, if_statement, arm, all_arms, case_statement, loop_statement, body, named_after, named, unlabelled, statement, level, statements_at}

-- ---- what holds no expressions

perhaps_token_sound : (w : Reserved) (k : Kind) → Sound (perhaps_token w k) (Perhaps (kind.Word w) (IsToken k))
unfolding perhaps_token
perhaps_token_sound w k = perhaps_sound token_sound

inertial_t : (ts : List Token) → Triple (λ us. us ≡ ts) inertial (IsDelay ts)
unfolding inertial
inertial_t ts = on_t _ (pure_t (λ us h. placed IsDelay h.1 IsDelay.inertial)) (pure_t (λ us h. placed IsDelay h IsDelay.absent))

report_sound : Sound report IsReport
unfolding report
report_sound = record {
  from = λ ts. bind_t (word_t _) (λ _. token_t _ _ (λ y. bind_t (call_t (perhaps_token_sound _ _)) (λ severity. bind_t (word_t _) (λ _.
      pure_t (λ us h. placed IsReport h.1.1.1 (IsReport.report h.1.2))))));
}

closing_sound : (w : Reserved) → Sound (closing w) (IsEnd w)
unfolding closing
closing_sound w = record {
  from = λ ts. bind_t (word_t _) (λ _. bind_t (word_t _) (λ _. bind_t (call_t optional_sound) (λ name. bind_t (word_t _) (λ _.
      pure_t (λ us h. placed (IsEnd w) h.1.1.1.1 (IsEnd.closed h.1.2))))));
}

-- ---- what holds no statements

-- an expression, and the word behind it
abbrev pub Before : Reserved → List Token → Expr → List Token → Type 0
Before w ts a us = (x : Span) × Expression ts a (word w x ∷ us)

module _ (bound : ℕ) where
  before_sound : (w : Reserved) → Sound (expression_before bound w) (Before w)
  unfolding expression_before
  before_sound w = record { from = λ ts. bind_t (start_t (expression_read bound)) (λ a. bind_t (word_t _) (λ _. pure_t (λ us h. h))) }

  perhaps_expression_sound : (w : Reserved) → Sound (perhaps_expression bound w) (Perhaps (kind.Word w) Expression)
  unfolding perhaps_expression
  perhaps_expression_sound w = perhaps_sound (expression_read bound)

  rejection_t : (ts : List Token) → Triple (λ us. (x : Span) × (word reserved.Reject x ∷ us ≡ ts)) (rejection bound) (IsDelay ts)
  unfolding rejection
  rejection_t ts = bind_t (call_t (before_sound _)) (λ limit. pure_t (λ us h. placed IsDelay h.1.1 (IsDelay.reject h.2.1)))

  pub delay_sound : Sound (delay_within bound) IsDelay
  unfolding delay_within
  delay_sound = record { from = λ ts. on_t _ (pure_t (λ us h. placed IsDelay h.1 IsDelay.transport)) (on_t _ (rejection_t ts) (inertial_t ts)) }

  element_sound : Sound (element bound) IsElement
  unfolding element
  element_sound = record {
    from = λ ts. bind_t (start_t (expression_read bound)) (λ value. bind_t (call_t (perhaps_expression_sound _)) (λ after. pure_t (λ us h. IsElement.element h.1 h.2)));
  }

  pub waveform_sound : Sound (waveform_within bound) IsWaveform
  unfolding waveform_within
  waveform_sound = separated_sound bound element_sound

  pub names_sound : Sound (names_within bound) IsNames
  unfolding names_within
  names_sound = separated_sound bound (name_read bound)

  on_names_sound : Sound (on_names bound) IsOn
  unfolding on_names
  on_names_sound = record {
    from = λ ts. on_t _ (after_t (λ all us h. placed IsOn h.1.1 (IsOn.names h.2)) (call_t names_sound)) (pure_t (λ us h. placed IsOn h IsOn.absent));
  }

  wait_sound : Sound (wait bound) IsWait
  unfolding wait
  wait_sound = record {
    from = λ ts. token_t _ _ (λ x. bind_t (call_t on_names_sound) (λ all. bind_t (call_t (perhaps_expression_sound _)) (λ until.
        bind_t (call_t (perhaps_expression_sound _)) (λ time. bind_t (word_t _) (λ _.
        pure_t (λ us h. placed IsWait h.1.1.1.1 (IsWait.wait h.1.1.1.2 h.1.1.2 h.1.2)))))));
  }

  assertion_sound : Sound (assertion bound) IsAssertion
  unfolding assertion
  assertion_sound = record {
    from = λ ts. bind_t (word_t _) (λ _. bind_t (call_t (expression_read bound)) (λ a. bind_t (call_t (perhaps_token_sound _ _)) (λ text.
        bind_t (call_t (perhaps_token_sound _ _)) (λ severity. bind_t (word_t _) (λ _.
        pure_t (λ us h. placed IsAssertion h.1.1.1.1.1 (IsAssertion.assertion h.1.1.1.2 h.1.1.2 h.1.2)))))));
  }

  jump_sound : (w : Reserved) → Sound (jump bound w) (IsJump w)
  unfolding jump
  jump_sound w = record {
    from = λ ts. token_t _ _ (λ x. bind_t (call_t optional_sound) (λ label. bind_t (call_t (perhaps_expression_sound _)) (λ condition. bind_t (word_t _) (λ _.
        pure_t (λ us h. placed (IsJump w) h.1.1.1 (IsJump.jump h.1.1.2 h.1.2))))));
  }

  condition_t : (ts : List Token) → Triple (λ us. (x : Span) × (word reserved.While x ∷ us ≡ ts)) (condition bound) (IsScheme ts)
  unfolding condition
  condition_t ts = bind_t (call_t (expression_read bound)) (λ a. pure_t (λ us h. placed IsScheme h.1.1 (IsScheme.while_ h.2)))

  parameter_t : (ts : List Token) → Triple (λ us. (x : Span) × (word reserved.For x ∷ us ≡ ts)) (parameter bound) (IsScheme ts)
  unfolding parameter
  parameter_t ts = token_t _ _ (λ y. bind_t (word_t _) (λ _. bind_t (call_t (bounds_read bound)) (λ all. pure_t (λ us h. placed IsScheme h.1.1.1 (IsScheme.for_ h.2)))))

  scheme_sound : Sound (scheme bound) IsScheme
  unfolding scheme
  scheme_sound = record { from = λ ts. on_t _ (condition_t ts) (on_t _ (parameter_t ts) (pure_t (λ us h. placed IsScheme h IsScheme.forever))) }

-- ---- what holds statements, over a reader of those that stand one statement further in

module _ (bound : ℕ) (inner : Parser (List Statement)) (S : List Token → List Statement → List Token → Type 0) (further : Sound inner S) where
  elsif_sound : Sound (elsif bound inner) (IsElsif S)
  unfolding elsif
  elsif_sound = record { from = λ ts. bind_t (start_t (before_sound bound _)) (λ a. bind_t (call_t further) (λ all. pure_t (λ us h. IsElsif.elsif_ h.1.1 h.2))) }

  otherwise_sound : Sound (otherwise bound inner) (IsElse S)
  unfolding otherwise
  otherwise_sound = record {
    from = λ ts. on_t _ (after_t (λ all us h. placed (IsElse S) h.1.1 (IsElse.otherwise h.2)) (call_t further)) (pure_t (λ us h. placed (IsElse S) h IsElse.absent));
  }

  if_sound : Sound (if_statement bound inner) (IsIf S)
  unfolding if_statement if_after
  if_sound = record {
    from = λ ts. bind_t (word_t _) (λ _. bind_t (call_t (before_sound bound _)) (λ a. bind_t (call_t further) (λ all.
        bind_t (call_t (preceded_sound bound elsif_sound)) (λ others. bind_t (call_t otherwise_sound) (λ rest. bind_t (call_t (closing_sound _)) (λ name.
        pure_t (λ us h. placed (IsIf S) h.1.1.1.1.1.1 (IsIf.if_ h.1.1.1.1.2.1 h.1.1.1.2 h.1.1.2 h.1.2 h.2))))))));
  }

  arm_sound : Sound (arm bound inner) (IsArm S)
  unfolding arm
  arm_sound = record {
    from = λ ts. bind_t (word_t _) (λ _. bind_t (call_t (choices_read bound)) (λ choices. bind_t (word_t _) (λ _. bind_t (call_t further) (λ all.
        pure_t (λ us h. placed (IsArm S) h.1.1.1.1 (IsArm.arm h.1.1.2 h.2))))));
  }

  arms_snoc : (ts us vs : List Token) (found : List Arm) (a : Arm) → IsArms S ts found us → IsArm S us a vs → IsArms S ts (found ++ a ∷ []) vs
  arms_snoc ts us vs _ a (IsArms.several one rest) r = IsArms.several one (many_snoc rest r)

  all_arms_sound : Sound (all_arms bound inner) (IsArms S)
  unfolding all_arms
  all_arms_sound = record {
    from = λ ts. bind_t (start_t arm_sound) (λ first. before_t (λ us h. IsArms.several h Many.none)
        (many_loop spec.begins_arm (IsArms S ts) arm_sound (λ found a us vs h r. arms_snoc ts us vs found a h r) bound (first ∷ [])));
  }

  case_sound : Sound (case_statement bound inner) (IsCase S)
  unfolding case_statement
  case_sound = record {
    from = λ ts. bind_t (word_t _) (λ _. bind_t (call_t (before_sound bound _)) (λ subject. bind_t (call_t all_arms_sound) (λ all. bind_t (call_t (closing_sound _)) (λ name.
        pure_t (λ us h. placed (IsCase S) h.1.1.1.1 (IsCase.case_ h.1.1.2.1 h.1.2 h.2))))));
  }

  loop_sound : Sound (loop_statement bound inner) (IsLoop S)
  unfolding loop_statement
  loop_sound = record {
    from = λ ts. bind_t (start_t (scheme_sound bound)) (λ how. bind_t (word_t _) (λ _. bind_t (call_t further) (λ all. bind_t (call_t (closing_sound _)) (λ name.
        pure_t (λ us h. IsLoop.loop_ h.1.1.1 h.1.2 h.2)))));
  }

  -- ---- assignments

  signal_t : (ts : List Token) (target : Name) → Triple (λ us. (x : Span) × NameOf ts target (mark delimiter.LessEqual x ∷ us)) (signal_assignment bound target) (IsBody S ts)
  unfolding signal_assignment
  signal_t ts target = bind_t (call_t (delay_sound bound)) (λ d. bind_t (call_t (waveform_sound bound)) (λ all. bind_t (word_t _) (λ _.
      pure_t (λ us h. IsBody.signal (IsSignalAssignment.assigned h.1.1.1.1 h.1.1.2 h.1.2)))))

  variable_t : (ts : List Token) (target : Name) → Triple (λ us. (x : Span) × NameOf ts target (mark delimiter.Assign x ∷ us)) (variable_assignment bound target) (IsBody S ts)
  unfolding variable_assignment
  variable_t ts target = bind_t (call_t (expression_read bound)) (λ a. bind_t (word_t _) (λ _. pure_t (λ us h. IsBody.variable (IsVariableAssignment.assigned h.1.1.1 h.1.2))))

  assignment_to_t : (ts : List Token) (target : Name) → Triple (NameOf ts target) (assignment_to bound target) (IsBody S ts)
  unfolding assignment_to
  assignment_to_t ts target = on_t _ (signal_t ts target) (on_t _ (variable_t ts target) stop_t)

  assignment_from_t : (ts : List Token) (x : Span) → Triple (λ us. id x ∷ us ≡ ts) (assignment_from bound (id x)) (IsBody S ts)
  unfolding assignment_from
  assignment_from_t ts x = bind_t (name_from_read bound ts x) (λ target. assignment_to_t ts target)

  assignment_t : (ts : List Token) → Triple (λ us. us ≡ ts) (assignment bound) (IsBody S ts)
  unfolding assignment
  assignment_t ts = token_t _ _ (λ x. assignment_from_t ts x)

  -- ---- statements

  null_t : (ts : List Token) → Triple (λ us. us ≡ ts) null (IsBody S ts)
  unfolding null
  null_t ts = bind_t (word_t _) (λ _. bind_t (word_t _) (λ _. pure_t (λ us h. placed (IsBody S) h.1.1 IsBody.null)))

  body_by_t : (ts : List Token) (o : Opening) → Triple (λ us. us ≡ ts) (spec.body_by bound inner o) (IsBody S ts)
  body_by_t ts an_opening.Named = assignment_t ts
  body_by_t ts an_opening.Wait = bind_t (start_t (wait_sound bound)) (λ a. pure_t (λ us h. IsBody.wait h))
  body_by_t ts an_opening.Assert = bind_t (start_t (assertion_sound bound)) (λ a. pure_t (λ us h. IsBody.assertion h))
  body_by_t ts an_opening.Report = bind_t (start_t report_sound) (λ a. pure_t (λ us h. IsBody.report h))
  body_by_t ts an_opening.If = bind_t (start_t if_sound) (λ a. pure_t (λ us h. IsBody.if_ h))
  body_by_t ts an_opening.Case = bind_t (start_t case_sound) (λ a. pure_t (λ us h. IsBody.case_ h))
  body_by_t ts an_opening.Loop = bind_t (start_t loop_sound) (λ a. pure_t (λ us h. IsBody.loop_ h))
  body_by_t ts an_opening.Next = bind_t (start_t (jump_sound bound _)) (λ a. pure_t (λ us h. IsBody.next h))
  body_by_t ts an_opening.Exit = bind_t (start_t (jump_sound bound _)) (λ a. pure_t (λ us h. IsBody.exit h))
  body_by_t ts an_opening.Null = null_t ts
  body_by_t ts an_opening.Other = stop_t

  body_sound : Sound (body bound inner) (IsBody S)
  unfolding body
  body_sound = record { from = λ ts. look_t spec.opening_of (spec.body_by bound inner) (λ o. before_t (λ us h. h.0) (body_by_t ts o)) }

  named_after_t : (ts : List Token) (x : Span) → Triple (λ us. id x ∷ us ≡ ts) (named_after bound inner (line_of ts) (id x)) (IsStatement S ts)
  unfolding named_after
  named_after_t ts x = on_t _
      (bind_t (call_t body_sound) (λ b. pure_t (λ us h. subst (λ zs. IsStatement S zs (statement_of (line_of zs) (Some (id x)) b) us) h.1.1 (IsStatement.labelled h.2))))
      (bind_t (assignment_from_t ts x) (λ b. pure_t (λ us h. IsStatement.unlabelled h)))

  named_t : (ts : List Token) → Triple (λ us. us ≡ ts) (named bound inner (line_of ts)) (IsStatement S ts)
  unfolding named
  named_t ts = token_t _ _ (λ x. named_after_t ts x)

  unlabelled_t : (ts : List Token) → Triple (λ us. us ≡ ts) (unlabelled bound inner (line_of ts)) (IsStatement S ts)
  unfolding unlabelled
  unlabelled_t ts = bind_t (start_t body_sound) (λ b. pure_t (λ us h. IsStatement.unlabelled h))

  statement_by_t : (ts : List Token) (b : Bool) → Triple (λ us. us ≡ ts) (spec.statement_by bound inner (line_of ts) b) (IsStatement S ts)
  statement_by_t ts true = named_t ts
  statement_by_t ts false = unlabelled_t ts

  statement_sound : Sound (statement bound inner) (IsStatement S)
  unfolding statement
  statement_sound = record {
    from = λ ts. on_line_start (spec.statement_at bound inner) (look_t spec.is_identifier (spec.statement_by bound inner (line_of ts)) (λ b. before_t (λ us h. h.0) (statement_by_t ts b)));
  }

  level_sound : Sound (level bound inner) (Many (IsStatement S))
  unfolding level
  level_sound = many_sound bound spec.begins_statement statement_sound

-- ---- without the parameter

pub statements_sound : (bound depth : ℕ) → Sound (statements_at bound depth) (StatementsWithin depth)
unfolding statements_at
statements_sound bound zero = spent_sound
statements_sound bound (suc depth) = level_sound bound (statements_at bound depth) (StatementsWithin depth) (statements_sound bound depth)
