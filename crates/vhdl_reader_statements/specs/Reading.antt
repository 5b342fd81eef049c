-- The readers of sequential statements as functions on tokens, beside which the code is proved.
use Rattle.std.specs.Prelude.{ℕ, zero, suc, Bool, true, false, Option, Some, None, List, [], ◌∷◌}
use Rattle.vhdl_tokens.specs.declared.token.Kind.{Kind}
use Rattle.vhdl_tokens.specs.declared.token.Kind.TheVariants as kind
use Rattle.vhdl_tokens.specs.declared.token.Token.{Token}
use Rattle.vhdl_tokens.specs.declared.token.Delimiter.TheVariants as delimiter
use Rattle.vhdl_tokens.specs.declared.reserved.Reserved.{Reserved}
use Rattle.vhdl_tokens.specs.declared.reserved.Reserved.TheVariants as reserved
use Rattle.vhdl_tree.specs.declared.expressions.Expr.{Expr}
use Rattle.vhdl_tree.specs.declared.expressions.Name.{Name}
use Rattle.vhdl_tree.specs.declared.statements.Statement.{Statement}
use Rattle.vhdl_tree.specs.declared.statements.Body.{Body}
use Rattle.vhdl_tree.specs.declared.statements.Body.TheVariants as a_body
use Rattle.vhdl_tree.specs.declared.statements.Wait.{Wait}
use Rattle.vhdl_tree.specs.declared.statements.Assertion.{Assertion}
use Rattle.vhdl_tree.specs.declared.statements.Report.{Report}
use Rattle.vhdl_tree.specs.declared.statements.Delay.{Delay}
use Rattle.vhdl_tree.specs.declared.statements.Delay.TheVariants as a_delay
use Rattle.vhdl_tree.specs.declared.statements.Element.{Element}
use Rattle.vhdl_tree.specs.declared.statements.If.{If}
use Rattle.vhdl_tree.specs.declared.statements.Elsif.{Elsif}
use Rattle.vhdl_tree.specs.declared.statements.Case.{Case}
use Rattle.vhdl_tree.specs.declared.statements.Arm.{Arm}
use Rattle.vhdl_tree.specs.declared.statements.Scheme.{Scheme}
use Rattle.vhdl_tree.specs.declared.statements.Scheme.TheVariants as a_scheme
use Rattle.vhdl_tree.specs.declared.statements.Loop.{Loop}
use Rattle.vhdl_tree.specs.declared.statements.Jump.{Jump}
use Rattle.vhdl_tree.specs.Statements.{statement_of, if_of, elsif_of, case_of, arm_of, loop_of}
use Rattle.vhdl_reader_expressions.specs.Steps.{Parser, ◌>>=◌, ◌>>◌, pure, stop, spent, on, look, on_line, word, token, optional, many_from, preceded_from, perhaps}
use Rattle.vhdl_reader_expressions.specs.Reading.{expression_within, choices_within, name_within, name_from_within, bounds_within}
use Rattle.vhdl_reader_statements.specs.declared.tables.Opening.{Opening}
use Rattle.vhdl_reader_statements.specs.declared.tables.Opening.TheVariants as an_opening

-- ---- what the next token is

-- what a statement without its label may begin with
abbrev pub opening_of : Option Kind → Opening
opening_of (Some kind.Identifier) = an_opening.Named
opening_of (Some (kind.Word reserved.Wait)) = an_opening.Wait
opening_of (Some (kind.Word reserved.Assert)) = an_opening.Assert
opening_of (Some (kind.Word reserved.Report)) = an_opening.Report
opening_of (Some (kind.Word reserved.If)) = an_opening.If
opening_of (Some (kind.Word reserved.Case)) = an_opening.Case
opening_of (Some (kind.Word reserved.While)) = an_opening.Loop
opening_of (Some (kind.Word reserved.For)) = an_opening.Loop
opening_of (Some (kind.Word reserved.Loop)) = an_opening.Loop
opening_of (Some (kind.Word reserved.Next)) = an_opening.Next
opening_of (Some (kind.Word reserved.Exit)) = an_opening.Exit
opening_of (Some (kind.Word reserved.Null)) = an_opening.Null
opening_of _ = an_opening.Other

abbrev pub is_opening : Opening → Bool
is_opening an_opening.Other = false
is_opening _ = true

-- a statement begins here
abbrev pub begins_statement : Option Kind → Bool
begins_statement k = is_opening (opening_of k)

abbrev pub is_identifier : Option Kind → Bool
is_identifier (Some kind.Identifier) = true
is_identifier _ = false

-- an arm of a case statement begins here
abbrev pub begins_arm : Option Kind → Bool
begins_arm (Some (kind.Word reserved.When)) = true
begins_arm _ = false

-- ---- what holds no expressions

unfoldable pub perhaps_token : Reserved → Kind → Parser (Option Token)
perhaps_token w k = perhaps (kind.Word w) (token k)

unfoldable pub inertial : Parser Delay
inertial = on (kind.Word reserved.Inertial) (pure a_delay.Inertial) (pure a_delay.Inertial)

unfoldable pub report : Parser Report
report = do
  word (kind.Word reserved.Report)
  text ← token kind.Text
  severity ← perhaps_token reserved.Severity kind.Identifier
  word (kind.Delimiter delimiter.Semicolon)
  pure (record { text = text; severity = severity })

unfoldable pub null : Parser Body
null = do word (kind.Word reserved.Null); word (kind.Delimiter delimiter.Semicolon); pure a_body.Null

-- the end of a compound statement
unfoldable pub closing : Reserved → Parser (Option Token)
closing w = do
  word (kind.Word reserved.End)
  word (kind.Word w)
  name ← optional kind.Identifier
  word (kind.Delimiter delimiter.Semicolon)
  pure name

-- ---- what holds no statements, with a bound on the turns of loops and on the depth of brackets

module _ (bound : ℕ) where
  -- an expression, and the word behind it
  unfoldable pub expression_before : Reserved → Parser Expr
  expression_before w = do a ← expression_within bound; word (kind.Word w); pure a

  unfoldable pub perhaps_expression : Reserved → Parser (Option Expr)
  perhaps_expression w = perhaps (kind.Word w) (expression_within bound)

  -- the limit of what is rejected
  unfoldable pub rejection : Parser Delay
  rejection = do limit ← expression_before reserved.Inertial; pure (a_delay.Reject limit)

  -- a delay, if there is one
  unfoldable pub delay_within : Parser Delay
  delay_within = on (kind.Word reserved.Transport) (pure a_delay.Transport) (on (kind.Word reserved.Reject) rejection inertial)

  unfoldable pub element : Parser Element
  element = do value ← expression_within bound; after ← perhaps_expression reserved.After; pure (record { value = value; after = after })

  abbrev pub elements : List Element → Parser (List Element)
  elements found = preceded_from bound (kind.Delimiter delimiter.Comma) element found

  unfoldable pub waveform_within : Parser (List Element)
  waveform_within = do first ← element; elements (first ∷ [])

  abbrev pub more_names : List Name → Parser (List Name)
  more_names found = preceded_from bound (kind.Delimiter delimiter.Comma) (name_within bound) found

  unfoldable pub names_within : Parser (List Name)
  names_within = do first ← name_within bound; more_names (first ∷ [])

  unfoldable pub on_names : Parser (List Name)
  on_names = on (kind.Word reserved.On) names_within (pure [])

  unfoldable pub wait : Parser Wait
  wait = do
    t ← token (kind.Word reserved.Wait)
    all ← on_names
    until ← perhaps_expression reserved.Until
    time ← perhaps_expression reserved.For
    word (kind.Delimiter delimiter.Semicolon)
    pure (record { word = t; on = all; until = until; time = time })

  unfoldable pub assertion : Parser Assertion
  assertion = do
    word (kind.Word reserved.Assert)
    condition ← expression_within bound
    text ← perhaps_token reserved.Report kind.Text
    severity ← perhaps_token reserved.Severity kind.Identifier
    word (kind.Delimiter delimiter.Semicolon)
    pure (record { condition = condition; text = text; severity = severity })

  unfoldable pub jump : Reserved → Parser Jump
  jump w = do
    t ← token (kind.Word w)
    label ← optional kind.Identifier
    condition ← perhaps_expression reserved.When
    word (kind.Delimiter delimiter.Semicolon)
    pure (record { word = t; label = label; condition = condition })

  -- what follows the target and `<=`
  unfoldable pub signal_assignment : Name → Parser Body
  signal_assignment target = do
    delay ← delay_within
    waveform ← waveform_within
    word (kind.Delimiter delimiter.Semicolon)
    pure (a_body.Signal (record { target = target; delay = delay; waveform = waveform }))

  -- what follows the target and `:=`
  unfoldable pub variable_assignment : Name → Parser Body
  variable_assignment target = do
    value ← expression_within bound
    word (kind.Delimiter delimiter.Semicolon)
    pure (a_body.Variable (record { target = target; value = value }))

  unfoldable pub assignment_to : Name → Parser Body
  assignment_to target = on (kind.Delimiter delimiter.LessEqual) (signal_assignment target) (on (kind.Delimiter delimiter.Assign) (variable_assignment target) stop)

  -- an assignment whose target begins with this identifier
  unfoldable pub assignment_from : Token → Parser Body
  assignment_from identifier = do target ← name_from_within bound identifier; assignment_to target

  unfoldable pub assignment : Parser Body
  assignment = do identifier ← token kind.Identifier; assignment_from identifier

  unfoldable pub parameter : Parser Scheme
  parameter = do t ← token kind.Identifier; word (kind.Word reserved.In); all ← bounds_within bound; pure (a_scheme.For t all)

  unfoldable pub condition : Parser Scheme
  condition = do a ← expression_within bound; pure (a_scheme.While a)

  unfoldable pub scheme : Parser Scheme
  scheme = on (kind.Word reserved.While) condition (on (kind.Word reserved.For) parameter (pure a_scheme.Forever))

-- ---- what holds statements, over the reader of those that stand one statement further in

module _ (bound : ℕ) (inner : Parser (List Statement)) where
  -- what follows the word `elsif`
  unfoldable pub elsif : Parser Elsif
  elsif = do condition ← expression_before bound reserved.Then; all ← inner; pure (elsif_of condition all)

  abbrev pub elsifs : List Elsif → Parser (List Elsif)
  elsifs found = preceded_from bound (kind.Word reserved.Elsif) elsif found

  unfoldable pub otherwise : Parser (List Statement)
  otherwise = on (kind.Word reserved.Else) inner (pure [])

  -- what follows the statements of an if
  unfoldable pub if_after : Expr → List Statement → Parser If
  if_after condition all = do
    others ← elsifs []
    rest ← otherwise
    name ← closing reserved.If
    pure (if_of condition all others rest name)

  unfoldable pub if_statement : Parser If
  if_statement = do
    word (kind.Word reserved.If)
    condition ← expression_before bound reserved.Then
    all ← inner
    if_after condition all

  unfoldable pub arm : Parser Arm
  arm = do
    word (kind.Word reserved.When)
    choices ← choices_within bound
    word (kind.Delimiter delimiter.Arrow)
    all ← inner
    pure (arm_of choices all)

  abbrev pub arms : List Arm → Parser (List Arm)
  arms found = many_from bound begins_arm arm found

  unfoldable pub all_arms : Parser (List Arm)
  all_arms = do first ← arm; arms (first ∷ [])

  unfoldable pub case_statement : Parser Case
  case_statement = do
    word (kind.Word reserved.Case)
    subject ← expression_before bound reserved.Is
    all ← all_arms
    name ← closing reserved.Case
    pure (case_of subject all name)

  unfoldable pub loop_statement : Parser Loop
  loop_statement = do
    how ← scheme bound
    word (kind.Word reserved.Loop)
    all ← inner
    name ← closing reserved.Loop
    pure (loop_of how all name)

  abbrev pub body_by : Opening → Parser Body
  body_by an_opening.Named = assignment bound
  body_by an_opening.Wait = do a ← wait bound; pure (a_body.Wait a)
  body_by an_opening.Assert = do a ← assertion bound; pure (a_body.Assert a)
  body_by an_opening.Report = do a ← report; pure (a_body.Report a)
  body_by an_opening.If = do a ← if_statement; pure (a_body.If a)
  body_by an_opening.Case = do a ← case_statement; pure (a_body.Case a)
  body_by an_opening.Loop = do a ← loop_statement; pure (a_body.Loop a)
  body_by an_opening.Next = do a ← jump bound reserved.Next; pure (a_body.Next a)
  body_by an_opening.Exit = do a ← jump bound reserved.Exit; pure (a_body.Exit a)
  body_by an_opening.Null = null
  body_by an_opening.Other = stop

  unfoldable pub body : Parser Body
  body = look opening_of body_by

  -- a statement whose first token, at this line, is this identifier: its label, or where its target begins
  unfoldable pub named_after : ℕ → Token → Parser Statement
  named_after line identifier = on (kind.Delimiter delimiter.Colon)
      (do b ← body; pure (statement_of line (Some identifier) b))
      (do b ← assignment_from bound identifier; pure (statement_of line None b))

  unfoldable pub named : ℕ → Parser Statement
  named line = do identifier ← token kind.Identifier; named_after line identifier

  unfoldable pub unlabelled : ℕ → Parser Statement
  unlabelled line = do b ← body; pure (statement_of line None b)

  abbrev pub statement_by : ℕ → Bool → Parser Statement
  statement_by line true = named line
  statement_by line false = unlabelled line

  abbrev pub statement_at : ℕ → Parser Statement
  statement_at line = look is_identifier (statement_by line)

  unfoldable pub statement : Parser Statement
  statement = on_line statement_at

  abbrev pub statements : List Statement → Parser (List Statement)
  statements found = many_from bound begins_statement statement found

  -- statements, up to a token that begins none
  unfoldable pub level : Parser (List Statement)
  level = statements []

-- statements, with a bound on how deep they nest
unfoldable pub statements_at : ℕ → ℕ → Parser (List Statement)
statements_at bound zero = spent
statements_at bound (suc depth) = level bound (statements_at bound depth)

-- the same, with one bound
unfoldable pub statements_within : ℕ → Parser (List Statement)
statements_within bound = statements_at bound bound
