-- Where a reader of statements stops, some tokens more would have made what it reads.
use Rattle.std.proofs.Common.{◌≡◌, ℕ, zero, suc, Bool, true, false, List, [], ◌∷◌, ◌++◌, Some, subst}
use Rattle.vhdl_tokens.specs.declared.token.Kind.{Kind}
use Rattle.vhdl_tokens.specs.declared.token.Kind.TheVariants as kind
use Rattle.vhdl_tokens.specs.declared.token.Token.{Token}
use Rattle.vhdl_tokens.specs.declared.token.Delimiter.TheVariants as delimiter
use Rattle.vhdl_tokens.specs.declared.reserved.Reserved.{Reserved}
use Rattle.vhdl_tokens.specs.declared.reserved.Reserved.TheVariants as reserved
use Rattle.vhdl_tree.specs.declared.expressions.Name.{Name}
use Rattle.vhdl_tree.specs.declared.statements.Statement.{Statement}
use Rattle.vhdl_tree.specs.declared.statements.Body.{Body}
use Rattle.vhdl_tree.specs.declared.statements.Body.TheVariants as a_body
use Rattle.vhdl_tree.specs.Words.{Span, id, word, mark, kind_of, line_of}
use Rattle.vhdl_tree.specs.Lists.{Many, Perhaps, IsToken}
use Rattle.vhdl_tree.specs.Expressions.{Expression, NameOf}
use Rattle.vhdl_tree.specs.Statements.{statement_of, IsDelay, IsElement, IsWaveform, IsNames, IsOn, IsWait, IsAssertion, IsReport, IsSignalAssignment, IsVariableAssignment, IsJump, IsScheme, IsEnd, IsElsif, IsElse, IsIf, IsArm, IsArms, IsCase, IsLoop, IsBody, IsStatement, StatementsWithin}
use Rattle.vhdl_reader_expressions.specs.Steps.{Parser}
use Rattle.vhdl_reader_expressions.proofs.Sound.{placed}
use Rattle.vhdl_reader_expressions.proofs.FrontSteps.{State, LeadsTo, LeadsFrom, Some_of, Viable, none_before, one_before, ◌then◌, somewhere, start_f, call_f, bind_f, pure_f, stop_f, spent_f, known_f, before_f, after_f, on_f, look_f, on_line_f, word_f, token_f, token_viable, optional_viable, perhaps_viable}
use Rattle.vhdl_reader_expressions.proofs.FrontLists.{many_viable, many_loop_f, preceded_viable, separated_viable}
use Rattle.vhdl_reader_expressions.proofs.SoundLists.{many_snoc}
use Rattle.vhdl_reader_expressions.proofs.Read.{expression_goes_on, choices_go_on, name_goes_on, name_from_goes_on, bounds_go_on, identifier_expression}
use Rattle.vhdl_reader_statements.specs.declared.tables.Opening.{Opening}
use Rattle.vhdl_reader_statements.specs.declared.tables.Opening.TheVariants as an_opening
use Rattle.vhdl_reader_statements.specs.Reading as spec
use Rattle.vhdl_reader_statements.proofs.Sounds.{Before}
use Rattle.vhdl_reader_statements.specs.Reading.{perhaps_token, inertial, report, null, closing, expression_before, perhaps_expression, rejection, delay_within, element, waveform_within, names_within, on_names, wait, assertion, jump, signal_assignment, variable_assignment, assignment_to, assignment_from, assignment, parameter, condition, scheme, elsif, otherwise, if_after, if_statement, arm, all_arms, case_statement, loop_statement, body, named_after, named, unlabelled, statement, level, statements_at}

-- ---- what holds no expressions

perhaps_token_viable : (w : Reserved) (k : Kind) → Viable (perhaps_token w k) (Perhaps (kind.Word w) (IsToken k))
unfolding perhaps_token
perhaps_token_viable w k = perhaps_viable token_viable

inertial_f : LeadsTo (λ ts us. us ≡ ts) inertial (λ a. Some_of IsDelay)
unfolding inertial
inertial_f = on_f _ (pure_f (λ ts us h. (_, placed IsDelay h.1 IsDelay.inertial))) (pure_f (λ ts us h. (_, placed IsDelay h IsDelay.absent)))

report_viable : Viable report IsReport
unfolding report
report_viable = record {
  leads = bind_f (word_f _) (λ _. token_f _ _ (λ y. bind_f (call_f (perhaps_token_viable _ _)) (λ severity. bind_f (word_f _) (λ _.
      pure_f (λ ts us h. (_, placed IsReport h.1.1.1 (IsReport.report h.1.2.1)))))));
}

closing_viable : (w : Reserved) → Viable (closing w) (IsEnd w)
unfolding closing
closing_viable w = record {
  leads = bind_f (word_f _) (λ _. bind_f (word_f _) (λ _. bind_f (call_f optional_viable) (λ name. bind_f (word_f _) (λ _.
      pure_f (λ ts us h. (_, placed (IsEnd w) h.1.1.1.1 (IsEnd.closed h.1.2.1)))))));
}

-- ---- what holds no statements

module _ (bound : ℕ) where
  before_viable : (w : Reserved) → Viable (expression_before bound w) (Before w)
  unfolding expression_before
  before_viable w = record { leads = bind_f (start_f (expression_goes_on bound)) (λ a. bind_f (word_f _) (λ _. pure_f (λ ts us h. (h.1.0, (h.0, h.1.1))))) }

  perhaps_expression_viable : (w : Reserved) → Viable (perhaps_expression bound w) (Perhaps (kind.Word w) Expression)
  unfolding perhaps_expression
  perhaps_expression_viable w = perhaps_viable (expression_goes_on bound)

  rejection_f : LeadsTo (λ ts us. (x : Span) × (word reserved.Reject x ∷ us ≡ ts)) (rejection bound) (λ a. Some_of IsDelay)
  unfolding rejection
  rejection_f = bind_f (call_f (before_viable _)) (λ limit. pure_f (λ ts us h. (_, placed IsDelay h.1.1 (IsDelay.reject h.2.1.1))))

  pub delay_viable : Viable (delay_within bound) IsDelay
  unfolding delay_within
  delay_viable = record { leads = on_f _ (pure_f (λ ts us h. (_, placed IsDelay h.1 IsDelay.transport))) (on_f _ rejection_f inertial_f) }

  element_viable : Viable (element bound) IsElement
  unfolding element
  element_viable = record {
    leads = bind_f (start_f (expression_goes_on bound)) (λ value. bind_f (call_f (perhaps_expression_viable _)) (λ after. pure_f (λ ts us h. (_, IsElement.element h.1.1 h.2.1))));
  }

  pub waveform_viable : Viable (waveform_within bound) IsWaveform
  unfolding waveform_within
  waveform_viable = separated_viable bound element_viable

  pub names_viable : Viable (names_within bound) IsNames
  unfolding names_within
  names_viable = separated_viable bound (name_goes_on bound)

  on_names_viable : Viable (on_names bound) IsOn
  unfolding on_names
  on_names_viable = record {
    leads = on_f _ (after_f (λ all ts us h. (_, placed IsOn h.1.1 (IsOn.names h.2.1))) (call_f names_viable)) (pure_f (λ ts us h. (_, placed IsOn h IsOn.absent)));
  }

  wait_viable : Viable (wait bound) IsWait
  unfolding wait
  wait_viable = record {
    leads = token_f _ _ (λ x. bind_f (call_f on_names_viable) (λ all. bind_f (call_f (perhaps_expression_viable _)) (λ until.
        bind_f (call_f (perhaps_expression_viable _)) (λ time. bind_f (word_f _) (λ _.
        pure_f (λ ts us h. (_, placed IsWait h.1.1.1.1 (IsWait.wait h.1.1.1.2.1 h.1.1.2.1 h.1.2.1))))))));
  }

  assertion_viable : Viable (assertion bound) IsAssertion
  unfolding assertion
  assertion_viable = record {
    leads = bind_f (word_f _) (λ _. bind_f (call_f (expression_goes_on bound)) (λ a. bind_f (call_f (perhaps_token_viable _ _)) (λ text.
        bind_f (call_f (perhaps_token_viable _ _)) (λ severity. bind_f (word_f _) (λ _.
        pure_f (λ ts us h. (_, placed IsAssertion h.1.1.1.1.1 (IsAssertion.assertion h.1.1.1.2.1 h.1.1.2.1 h.1.2.1))))))));
  }

  jump_viable : (w : Reserved) → Viable (jump bound w) (IsJump w)
  unfolding jump
  jump_viable w = record {
    leads = token_f _ _ (λ x. bind_f (call_f optional_viable) (λ label. bind_f (call_f (perhaps_expression_viable _)) (λ condition. bind_f (word_f _) (λ _.
        pure_f (λ ts us h. (_, placed (IsJump w) h.1.1.1 (IsJump.jump h.1.1.2.1 h.1.2.1)))))));
  }

  condition_f : LeadsTo (λ ts us. (x : Span) × (word reserved.While x ∷ us ≡ ts)) (condition bound) (λ a. Some_of IsScheme)
  unfolding condition
  condition_f = bind_f (call_f (expression_goes_on bound)) (λ a. pure_f (λ ts us h. (_, placed IsScheme h.1.1 (IsScheme.while_ h.2.1))))

  parameter_f : LeadsTo (λ ts us. (x : Span) × (word reserved.For x ∷ us ≡ ts)) (parameter bound) (λ a. Some_of IsScheme)
  unfolding parameter
  parameter_f = token_f _ _ (λ y. bind_f (word_f _) (λ _. bind_f (call_f (bounds_go_on bound)) (λ all. pure_f (λ ts us h. (_, placed IsScheme h.1.1.1 (IsScheme.for_ h.2.1))))))

  scheme_viable : Viable (scheme bound) IsScheme
  unfolding scheme
  scheme_viable = record { leads = on_f _ condition_f (on_f _ parameter_f (pure_f (λ ts us h. (_, placed IsScheme h IsScheme.forever)))) }

-- ---- what holds statements, over a reader of those that stand one statement further in

module _ (bound : ℕ) (inner : Parser (List Statement)) (S : List Token → List Statement → List Token → Type 0) (further : Viable inner S) where
  elsif_viable : Viable (elsif bound inner) (IsElsif S)
  unfolding elsif
  elsif_viable = record { leads = bind_f (start_f (before_viable bound _)) (λ a. bind_f (call_f further) (λ all. pure_f (λ ts us h. (_, IsElsif.elsif_ h.1.1.1 h.2.1)))) }

  otherwise_viable : Viable (otherwise bound inner) (IsElse S)
  unfolding otherwise
  otherwise_viable = record {
    leads = on_f _ (after_f (λ all ts us h. (_, placed (IsElse S) h.1.1 (IsElse.otherwise h.2.1))) (call_f further)) (pure_f (λ ts us h. (_, placed (IsElse S) h IsElse.absent)));
  }

  if_viable : Viable (if_statement bound inner) (IsIf S)
  unfolding if_statement if_after
  if_viable = record {
    leads = bind_f (word_f _) (λ _. bind_f (call_f (before_viable bound _)) (λ a. bind_f (call_f further) (λ all.
        bind_f (call_f (preceded_viable bound elsif_viable)) (λ others. bind_f (call_f otherwise_viable) (λ rest. bind_f (call_f (closing_viable _)) (λ name.
        pure_f (λ ts us h. (_, placed (IsIf S) h.1.1.1.1.1.1 (IsIf.if_ h.1.1.1.1.2.1.1 h.1.1.1.2.1 h.1.1.2.1 h.1.2.1 h.2.1)))))))));
  }

  arm_viable : Viable (arm bound inner) (IsArm S)
  unfolding arm
  arm_viable = record {
    leads = bind_f (word_f _) (λ _. bind_f (call_f (choices_go_on bound)) (λ choices. bind_f (word_f _) (λ _. bind_f (call_f further) (λ all.
        pure_f (λ ts us h. (_, placed (IsArm S) h.1.1.1.1 (IsArm.arm h.1.1.2.1 h.2.1)))))));
  }

  arms_one_more : (ts us vs : List Token) (h : Some_of (IsArms S) ts us) → Some_of (IsArm S) us vs → Some_of (IsArms S) ts vs
  arms_one_more ts us vs (_, IsArms.several one rest) r = (_, IsArms.several one (many_snoc rest r.1))

  all_arms_viable : Viable (all_arms bound inner) (IsArms S)
  unfolding all_arms
  all_arms_viable = record {
    leads = bind_f (start_f arm_viable) (λ first. before_f (λ ts us h. (_, IsArms.several h.1 Many.none))
        (many_loop_f spec.begins_arm (λ all. Some_of (IsArms S)) arm_viable (λ found a b ts us vs h r. arms_one_more ts us vs h (b, r)) bound (first ∷ [])));
  }

  case_viable : Viable (case_statement bound inner) (IsCase S)
  unfolding case_statement
  case_viable = record {
    leads = bind_f (word_f _) (λ _. bind_f (call_f (before_viable bound _)) (λ subject. bind_f (call_f all_arms_viable) (λ all. bind_f (call_f (closing_viable _)) (λ name.
        pure_f (λ ts us h. (_, placed (IsCase S) h.1.1.1.1 (IsCase.case_ h.1.1.2.1.1 h.1.2.1 h.2.1)))))));
  }

  loop_viable : Viable (loop_statement bound inner) (IsLoop S)
  unfolding loop_statement
  loop_viable = record {
    leads = bind_f (start_f (scheme_viable bound)) (λ how. bind_f (word_f _) (λ _. bind_f (call_f further) (λ all. bind_f (call_f (closing_viable _)) (λ name.
        pure_f (λ ts us h. (_, IsLoop.loop_ h.1.1.1.1 h.1.2.1 h.2.1))))));
  }

  -- ---- assignments

  signal_f : (target : Name) → LeadsTo (λ ts us. (x : Span) × Some_of NameOf ts (mark delimiter.LessEqual x ∷ us)) (signal_assignment bound target) (λ a. Some_of (IsBody S))
  unfolding signal_assignment
  signal_f target = bind_f (call_f (delay_viable bound)) (λ d. bind_f (call_f (waveform_viable bound)) (λ all. bind_f (word_f _) (λ _.
      pure_f (λ ts us h. (_, IsBody.signal (IsSignalAssignment.assigned h.1.1.1.1.1 h.1.1.2.1 h.1.2.1))))))

  variable_f : (target : Name) → LeadsTo (λ ts us. (x : Span) × Some_of NameOf ts (mark delimiter.Assign x ∷ us)) (variable_assignment bound target) (λ a. Some_of (IsBody S))
  unfolding variable_assignment
  variable_f target = bind_f (call_f (expression_goes_on bound)) (λ a. bind_f (word_f _) (λ _. pure_f (λ ts us h. (_, IsBody.variable (IsVariableAssignment.assigned h.1.1.1.1 h.1.2.1)))))

  -- where neither follows the target, `:= id ;` would do
  assignment_to_f : (target : Name) → LeadsTo (Some_of NameOf) (assignment_to bound target) (λ a. Some_of (IsBody S))
  unfolding assignment_to
  assignment_to_f target = on_f _ (signal_f target) (on_f _ (variable_f target)
      (stop_f (one_before (mark delimiter.Assign somewhere) then one_before (id somewhere) then one_before (mark delimiter.Semicolon somewhere)) a_body.Null
      (λ ts us h. let value = identifier_expression somewhere (mark delimiter.Semicolon somewhere ∷ us) in (_, IsBody.variable (IsVariableAssignment.assigned h.1 value.1)))))

  assignment_from_f : (t : Token) → LeadsTo (λ ts us. (x : Span) × (id x ∷ us ≡ ts)) (assignment_from bound t) (λ a. Some_of (IsBody S))
  unfolding assignment_from
  assignment_from_f t = bind_f (name_from_goes_on bound t) (λ target. assignment_to_f target)

  assignment_f : LeadsTo (λ ts us. us ≡ ts) (assignment bound) (λ a. Some_of (IsBody S))
  unfolding assignment
  assignment_f = token_f _ _ (λ x. before_f (λ ts us h. (x, h)) (assignment_from_f (id x)))

  -- ---- statements

  null_f : LeadsTo (λ ts us. us ≡ ts) null (λ a. Some_of (IsBody S))
  unfolding null
  null_f = bind_f (word_f _) (λ _. bind_f (word_f _) (λ _. pure_f (λ ts us h. (_, placed (IsBody S) h.1.1 IsBody.null))))

  body_by_f : (o : Opening) → LeadsTo (λ ts us. us ≡ ts) (spec.body_by bound inner o) (λ a. Some_of (IsBody S))
  body_by_f an_opening.Named = assignment_f
  body_by_f an_opening.Wait = bind_f (start_f (wait_viable bound)) (λ a. pure_f (λ ts us h. (_, IsBody.wait h.1)))
  body_by_f an_opening.Assert = bind_f (start_f (assertion_viable bound)) (λ a. pure_f (λ ts us h. (_, IsBody.assertion h.1)))
  body_by_f an_opening.Report = bind_f (start_f report_viable) (λ a. pure_f (λ ts us h. (_, IsBody.report h.1)))
  body_by_f an_opening.If = bind_f (start_f if_viable) (λ a. pure_f (λ ts us h. (_, IsBody.if_ h.1)))
  body_by_f an_opening.Case = bind_f (start_f case_viable) (λ a. pure_f (λ ts us h. (_, IsBody.case_ h.1)))
  body_by_f an_opening.Loop = bind_f (start_f loop_viable) (λ a. pure_f (λ ts us h. (_, IsBody.loop_ h.1)))
  body_by_f an_opening.Next = bind_f (start_f (jump_viable bound _)) (λ a. pure_f (λ ts us h. (_, IsBody.next h.1)))
  body_by_f an_opening.Exit = bind_f (start_f (jump_viable bound _)) (λ a. pure_f (λ ts us h. (_, IsBody.exit h.1)))
  body_by_f an_opening.Null = null_f
  body_by_f an_opening.Other = stop_f (one_before (word reserved.Null somewhere) then one_before (mark delimiter.Semicolon somewhere)) a_body.Null (λ ts us h. (_, placed (IsBody S) h IsBody.null))

  body_viable : Viable (body bound inner) (IsBody S)
  unfolding body
  body_viable = record { leads = look_f spec.opening_of (spec.body_by bound inner) an_opening.Null (λ o. known_f _ (body_by_f o)) }

  named_after_f : (line : ℕ) (t : Token) → LeadsTo (λ ts us. (x : Span) × (id x ∷ us ≡ ts)) (named_after bound inner line t) (λ a. Some_of (IsStatement S))
  unfolding named_after
  named_after_f line t = on_f _
      (bind_f (call_f body_viable) (λ b. pure_f (λ ts us h. (_, subst (λ zs. IsStatement S zs (statement_of (line_of zs) (Some (id h.1.1.0)) h.2.0) us) h.1.1.1 (IsStatement.labelled h.2.1)))))
      (bind_f (assignment_from_f t) (λ b. pure_f (λ ts us h. (_, IsStatement.unlabelled h.1))))

  named_f : (line : ℕ) → LeadsTo (λ ts us. us ≡ ts) (named bound inner line) (λ a. Some_of (IsStatement S))
  unfolding named
  named_f line = token_f _ _ (λ x. before_f (λ ts us h. (x, h)) (named_after_f line (id x)))

  unlabelled_f : (line : ℕ) → LeadsTo (λ ts us. us ≡ ts) (unlabelled bound inner line) (λ a. Some_of (IsStatement S))
  unfolding unlabelled
  unlabelled_f line = bind_f (start_f body_viable) (λ b. pure_f (λ ts us h. (_, IsStatement.unlabelled h.1)))

  statement_by_f : (line : ℕ) (b : Bool) → LeadsTo (λ ts us. us ≡ ts) (spec.statement_by bound inner line b) (λ a. Some_of (IsStatement S))
  statement_by_f line true = named_f line
  statement_by_f line false = unlabelled_f line

  statement_viable : Viable (statement bound inner) (IsStatement S)
  unfolding statement
  statement_viable = record {
    leads = on_line_f (spec.statement_at bound inner) (λ line. look_f spec.is_identifier (spec.statement_by bound inner line) false (λ b. known_f _ (statement_by_f line b)));
  }

  level_viable : Viable (level bound inner) (Many (IsStatement S))
  unfolding level
  level_viable = many_viable bound spec.begins_statement statement_viable

-- ---- without the parameter: no statements stand one statement further in than the bound allows

pub statements_viable : (bound depth : ℕ) → Viable (statements_at bound depth) (StatementsWithin (suc depth))
unfolding statements_at
statements_viable bound zero = record { leads = spent_f none_before [] (λ ts us h. (_, placed (Many (IsStatement (StatementsWithin zero))) h Many.none)) }
statements_viable bound (suc depth) = level_viable bound (statements_at bound depth) (StatementsWithin (suc depth)) (statements_viable bound depth)
