-- What a reader of statements answers hangs on no token behind its place, and its bounds suffice.
use Rattle.std.proofs.Common.{ℕ, zero, suc, ◌≤◌, Bool, true, false, List, [], ◌∷◌, arith}
use Rattle.vhdl_tokens.specs.declared.token.Kind.{Kind}
use Rattle.vhdl_tokens.specs.declared.token.Kind.TheVariants as kind
use Rattle.vhdl_tokens.specs.declared.token.Token.{Token}
use Rattle.vhdl_tokens.specs.declared.token.Delimiter.TheVariants as delimiter
use Rattle.vhdl_tokens.specs.declared.reserved.Reserved.{Reserved}
use Rattle.vhdl_tokens.specs.declared.reserved.Reserved.TheVariants as reserved
use Rattle.vhdl_tree.specs.declared.expressions.Expr.{Expr}
use Rattle.vhdl_tree.specs.declared.expressions.Name.{Name}
use Rattle.vhdl_tree.specs.declared.statements.Statement.{Statement}
use Rattle.vhdl_reader_expressions.specs.Steps.{Parser}
use Rattle.vhdl_reader_expressions.proofs.Local.{Law, law_down, bind_law, pure_law, stop_law, spent_law, on_law, word_law, token_law, optional_law, perhaps_law}
use Rattle.vhdl_reader_expressions.proofs.Loops.{moves_of, moves_down, many_law, preceded_law, separated_law}
use Rattle.vhdl_reader_expressions.proofs.Bounded.{expression_bounded, choices_bounded, name_bounded, name_from_bounded, bounds_bounded}
use Rattle.vhdl_reader_statements.specs.declared.tables.Opening.{Opening}
use Rattle.vhdl_reader_statements.specs.declared.tables.Opening.TheVariants as an_opening
use Rattle.vhdl_reader_statements.specs.Reading as spec
use Rattle.vhdl_reader_statements.specs.Reading.{perhaps_token, inertial, report, null, closing, expression_before, perhaps_expression, rejection, delay_within, element, waveform_within, names_within, on_names, wait, assertion, jump, signal_assignment, variable_assignment, assignment_to, assignment_from, assignment, parameter, condition, scheme, elsif, otherwise, if_after, if_statement, arm, all_arms, case_statement, loop_statement, body, named_after, named, unlabelled, statement, level, statements_at}
use Rattle.vhdl_reader_statements.proofs.Enters.{Enters, word_enters, token_enters, bind_enters, behind_enters, stop_enters, look_enters, on_line_enters}

-- ---- what holds no expressions

perhaps_token_law : {n : ℕ} (w : Reserved) (k : Kind) → Law n (perhaps_token w k)
unfolding perhaps_token
perhaps_token_law w k = perhaps_law _ (token_law k)

inertial_law : {n : ℕ} → Law n inertial
unfolding inertial
inertial_law = on_law _ pure_law pure_law

report_enters : {n : ℕ} → Enters n report
unfolding report
report_enters = word_enters _ (λ _. bind_law (token_law _) (λ text. bind_law (perhaps_token_law _ _) (λ severity. bind_law (word_law _) (λ _. pure_law))))

null_enters : {n : ℕ} → Enters n null
unfolding null
null_enters = word_enters _ (λ _. bind_law (word_law _) (λ _. pure_law))

closing_law : {n : ℕ} (w : Reserved) → Law n (closing w)
unfolding closing
closing_law w = bind_law (word_law _) (λ _. bind_law (word_law _) (λ _. bind_law (optional_law _) (λ name. bind_law (word_law _) (λ _. pure_law))))

-- ---- what holds no statements: of n tokens

module _ (bound n : ℕ) (fits : n ≤ bound) where
  before_law : (w : Reserved) → Law n (expression_before bound w)
  unfolding expression_before
  before_law w = bind_law (law_down fits (expression_bounded bound)) (λ a. bind_law (word_law _) (λ _. pure_law))

  perhaps_expression_law : (w : Reserved) → Law n (perhaps_expression bound w)
  unfolding perhaps_expression
  perhaps_expression_law w = perhaps_law _ (law_down fits (expression_bounded bound))

  rejection_law : Law n (rejection bound)
  unfolding rejection
  rejection_law = bind_law (before_law _) (λ limit. pure_law)

  pub delay_law : Law n (delay_within bound)
  unfolding delay_within
  delay_law = on_law _ pure_law (on_law _ rejection_law inertial_law)

  element_law : Law n (element bound)
  unfolding element
  element_law = bind_law (law_down fits (expression_bounded bound)) (λ value. bind_law (perhaps_expression_law _) (λ after. pure_law))

  pub waveform_law : Law n (waveform_within bound)
  unfolding waveform_within
  waveform_law = separated_law bound (kind.Delimiter delimiter.Comma) fits element_law

  pub names_law : Law n (names_within bound)
  unfolding names_within
  names_law = separated_law bound (kind.Delimiter delimiter.Comma) fits (law_down fits (name_bounded bound))

  on_names_law : Law n (on_names bound)
  unfolding on_names
  on_names_law = on_law _ names_law pure_law

  wait_enters : Enters n (wait bound)
  unfolding wait
  wait_enters = token_enters _ (λ t. bind_law on_names_law (λ all. bind_law (perhaps_expression_law _) (λ until. bind_law (perhaps_expression_law _) (λ time.
      bind_law (word_law _) (λ _. pure_law)))))

  assertion_enters : Enters n (assertion bound)
  unfolding assertion
  assertion_enters = word_enters _ (λ _. bind_law (law_down fits (expression_bounded bound)) (λ a. bind_law (perhaps_token_law _ _) (λ text.
      bind_law (perhaps_token_law _ _) (λ severity. bind_law (word_law _) (λ _. pure_law)))))

  jump_enters : (w : Reserved) → Enters n (jump bound w)
  unfolding jump
  jump_enters w = token_enters _ (λ t. bind_law (optional_law _) (λ label. bind_law (perhaps_expression_law _) (λ a. bind_law (word_law _) (λ _. pure_law))))

  signal_law : (target : Name) → Law n (signal_assignment bound target)
  unfolding signal_assignment
  signal_law target = bind_law delay_law (λ d. bind_law waveform_law (λ all. bind_law (word_law _) (λ _. pure_law)))

  variable_law : (target : Name) → Law n (variable_assignment bound target)
  unfolding variable_assignment
  variable_law target = bind_law (law_down fits (expression_bounded bound)) (λ a. bind_law (word_law _) (λ _. pure_law))

  assignment_to_law : (target : Name) → Law n (assignment_to bound target)
  unfolding assignment_to
  assignment_to_law target = on_law _ (signal_law target) (on_law _ (variable_law target) stop_law)

  assignment_from_law : (identifier : Token) → Law n (assignment_from bound identifier)
  unfolding assignment_from
  assignment_from_law identifier = bind_law (law_down fits (name_from_bounded bound identifier)) (λ target. assignment_to_law target)

  assignment_enters : Enters n (assignment bound)
  unfolding assignment
  assignment_enters = token_enters _ (λ identifier. assignment_from_law identifier)

  condition_law : Law n (condition bound)
  unfolding condition
  condition_law = bind_law (law_down fits (expression_bounded bound)) (λ a. pure_law)

  parameter_law : Law n (parameter bound)
  unfolding parameter
  parameter_law = bind_law (token_law _) (λ t. bind_law (word_law _) (λ _. bind_law (law_down fits (bounds_bounded bound)) (λ all. pure_law)))

  scheme_law : Law n (scheme bound)
  unfolding scheme
  scheme_law = on_law _ condition_law (on_law _ parameter_law pure_law)

-- ---- what holds statements, over a reader of those that stand one statement further in, whose bounds suffice for n tokens:
-- of one token more, as each takes one before them

module _ (bound n : ℕ) (more : suc n ≤ bound) (inner : Parser (List Statement)) (further : Law n inner) where
  fits : n ≤ bound
  fits = omega arith

  elsif_law : Law n (elsif bound inner)
  unfolding elsif
  elsif_law = bind_law (before_law bound n fits _) (λ a. bind_law further (λ all. pure_law))

  otherwise_law : Law n (otherwise bound inner)
  unfolding otherwise
  otherwise_law = on_law _ further pure_law

  if_after_law : (test : Expr) (all : List Statement) → Law n (if_after bound inner test all)
  unfolding if_after
  if_after_law test all = bind_law (preceded_law bound (kind.Word reserved.Elsif) [] fits elsif_law) (λ others. bind_law otherwise_law (λ rest.
      bind_law (closing_law _) (λ name. pure_law)))

  if_enters : Enters n (if_statement bound inner)
  unfolding if_statement
  if_enters = word_enters _ (λ _. bind_law (before_law bound n fits _) (λ a. bind_law further (λ all. if_after_law a all)))

  arm_enters : Enters n (arm bound inner)
  unfolding arm
  arm_enters = word_enters _ (λ _. bind_law (law_down fits (choices_bounded bound)) (λ choices. bind_law (word_law _) (λ _. bind_law further (λ all. pure_law))))

  arm_law : Law n (arm bound inner)
  arm_law = law_down (omega arith) arm_enters.law

  all_arms_law : Law n (all_arms bound inner)
  unfolding all_arms
  all_arms_law = bind_law arm_law (λ first. many_law bound (first ∷ []) fits arm_law (moves_of (moves_down (omega arith) arm_enters.moves)))

  case_enters : Enters n (case_statement bound inner)
  unfolding case_statement
  case_enters = word_enters _ (λ _. bind_law (before_law bound n fits _) (λ subject. bind_law all_arms_law (λ all. bind_law (closing_law _) (λ name. pure_law))))

  loop_enters : Enters n (loop_statement bound inner)
  unfolding loop_statement
  loop_enters = behind_enters (scheme_law bound (suc n) more) (λ how. word_enters _ (λ _. bind_law further (λ all. bind_law (closing_law _) (λ name. pure_law))))

  body_by_enters : (o : Opening) → Enters n (spec.body_by bound inner o)
  body_by_enters an_opening.Named = assignment_enters bound n fits
  body_by_enters an_opening.Wait = bind_enters (wait_enters bound n fits) (λ a. pure_law)
  body_by_enters an_opening.Assert = bind_enters (assertion_enters bound n fits) (λ a. pure_law)
  body_by_enters an_opening.Report = bind_enters report_enters (λ a. pure_law)
  body_by_enters an_opening.If = bind_enters if_enters (λ a. pure_law)
  body_by_enters an_opening.Case = bind_enters case_enters (λ a. pure_law)
  body_by_enters an_opening.Loop = bind_enters loop_enters (λ a. pure_law)
  body_by_enters an_opening.Next = bind_enters (jump_enters bound n fits _) (λ a. pure_law)
  body_by_enters an_opening.Exit = bind_enters (jump_enters bound n fits _) (λ a. pure_law)
  body_by_enters an_opening.Null = null_enters
  body_by_enters an_opening.Other = stop_enters

  body_enters : Enters n (body bound inner)
  unfolding body
  body_enters = look_enters spec.opening_of (spec.body_by bound inner) body_by_enters

  named_after_law : (line : ℕ) (identifier : Token) → Law n (named_after bound inner line identifier)
  unfolding named_after
  named_after_law line identifier = on_law _ (bind_law (law_down (omega arith) body_enters.law) (λ b. pure_law)) (bind_law (assignment_from_law bound n fits identifier) (λ b. pure_law))

  named_enters : (line : ℕ) → Enters n (named bound inner line)
  unfolding named
  named_enters line = token_enters _ (λ identifier. named_after_law line identifier)

  unlabelled_enters : (line : ℕ) → Enters n (unlabelled bound inner line)
  unfolding unlabelled
  unlabelled_enters line = bind_enters body_enters (λ b. pure_law)

  statement_by_enters : (line : ℕ) (b : Bool) → Enters n (spec.statement_by bound inner line b)
  statement_by_enters line true = named_enters line
  statement_by_enters line false = unlabelled_enters line

  statement_enters : Enters n (statement bound inner)
  unfolding statement
  statement_enters = on_line_enters (spec.statement_at bound inner) (λ line. look_enters spec.is_identifier (spec.statement_by bound inner line) (statement_by_enters line))

  level_law : Law (suc n) (level bound inner)
  unfolding level
  level_law = many_law bound [] more statement_enters.law (moves_of statement_enters.moves)

-- ---- without the parameter: a bound on depth suffices for fewer tokens than it says

pub statements_law : (bound depth : ℕ) → depth ≤ bound → Law depth (statements_at bound depth)
unfolding statements_at
statements_law bound zero fits = spent_law
statements_law bound (suc depth) fits = level_law bound depth fits (statements_at bound depth) (statements_law bound depth (omega arith))
