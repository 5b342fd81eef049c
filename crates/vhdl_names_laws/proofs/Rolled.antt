-- When a statement is known, form by form.
use Rattle.std.proofs.Common.{◌≡◌, ℕ, Bool, true, ◌&&◌, Option, List, map, ap, sym, ◌∙◌}
use Rattle.vhdl_names_laws.specs.Known.{all_known, known_value}
use Rattle.vhdl_names_laws.specs.KnownUnits.{arm_step, body_step, case_step, elsif_step, if_step, known_arm, known_body, known_case, known_elsif, known_if, known_loop, known_statement, loop_step, statement_step}
use Rattle.vhdl_names_laws.specs.KnownParts.{known_assertion, known_assignment, known_choices, known_jump, known_scheme, known_wait}
use Rattle.vhdl_units.specs.declared.declarations.Declared.{Declared}
use Rattle.vhdl_units.specs.declared.statements.ResolvedArm.{ResolvedArm, roll-ResolvedArm}
use Rattle.vhdl_units.specs.declared.statements.ResolvedAssertion.{ResolvedAssertion}
use Rattle.vhdl_units.specs.declared.statements.ResolvedAssignment.{ResolvedAssignment}
use Rattle.vhdl_units.specs.declared.statements.ResolvedBody.{ResolvedBody}
use Rattle.vhdl_units.specs.declared.statements.ResolvedCase.{ResolvedCase, roll-ResolvedCase}
use Rattle.vhdl_units.specs.declared.statements.ResolvedElsif.{ResolvedElsif, roll-ResolvedElsif}
use Rattle.vhdl_units.specs.declared.statements.ResolvedIf.{ResolvedIf, roll-ResolvedIf}
use Rattle.vhdl_units.specs.declared.statements.ResolvedJump.{ResolvedJump}
use Rattle.vhdl_units.specs.declared.statements.ResolvedLoop.{ResolvedLoop, roll-ResolvedLoop}
use Rattle.vhdl_units.specs.declared.statements.ResolvedReport.{ResolvedReport}
use Rattle.vhdl_units.specs.declared.statements.ResolvedScheme.{ResolvedScheme}
use Rattle.vhdl_units.specs.declared.statements.ResolvedStatement.{ResolvedStatement, roll-ResolvedStatement}
use Rattle.vhdl_units.specs.declared.statements.ResolvedWait.{ResolvedWait}
use Rattle.vhdl_units.specs.declared.values.ChoiceValue.{ChoiceValue}
use Rattle.vhdl_units.specs.declared.values.Value.{Value}
use Rattle.vhdl_units.specs.declared.statements.ResolvedBody.TheVariants as body
use Rattle.vhdl_units.specs.declared.statements.ResolvedBody.TheOpen.{ResolvedBody-F}
use Rattle.vhdl_units.specs.declared.statements.ResolvedBody.TheFolds.{fold-roll-ResolvedArm, fold-roll-ResolvedBody, fold-roll-ResolvedCase, fold-roll-ResolvedElsif, fold-roll-ResolvedIf, fold-roll-ResolvedLoop, fold-roll-ResolvedStatement}

pub wait_body : (w : ResolvedWait) → known_body (body.Wait w) ≡ known_wait w
wait_body w = ap known_body (sym (body.rolls-Wait w)) ∙ fold-roll-ResolvedBody Bool Bool Bool Bool Bool Bool Bool body_step arm_step case_step elsif_step if_step loop_step statement_step (ResolvedBody-F.Wait w)

pub assertion_body : (x : ResolvedAssertion) → known_body (body.Assert x) ≡ known_assertion x
assertion_body x = ap known_body (sym (body.rolls-Assert x)) ∙ fold-roll-ResolvedBody Bool Bool Bool Bool Bool Bool Bool body_step arm_step case_step elsif_step if_step loop_step statement_step (ResolvedBody-F.Assert x)

pub report_body : (r : ResolvedReport) → known_body (body.Report r) ≡ true
report_body r = ap known_body (sym (body.rolls-Report r)) ∙ fold-roll-ResolvedBody Bool Bool Bool Bool Bool Bool Bool body_step arm_step case_step elsif_step if_step loop_step statement_step (ResolvedBody-F.Report r)

pub signal_body : (s : ResolvedAssignment) → known_body (body.Signal s) ≡ known_assignment s
signal_body s = ap known_body (sym (body.rolls-Signal s)) ∙ fold-roll-ResolvedBody Bool Bool Bool Bool Bool Bool Bool body_step arm_step case_step elsif_step if_step loop_step statement_step (ResolvedBody-F.Signal s)

pub variable_body : (target value : Value) → known_body (body.Variable target value) ≡ (known_value target && known_value value)
variable_body target value = ap known_body (sym (body.rolls-Variable target value)) ∙ fold-roll-ResolvedBody Bool Bool Bool Bool Bool Bool Bool body_step arm_step case_step elsif_step if_step loop_step statement_step (ResolvedBody-F.Variable target value)

pub if_body : (s : ResolvedIf) → known_body (body.If s) ≡ known_if s
if_body s = ap known_body (sym (body.rolls-If s)) ∙ fold-roll-ResolvedBody Bool Bool Bool Bool Bool Bool Bool body_step arm_step case_step elsif_step if_step loop_step statement_step (ResolvedBody-F.If s)

pub case_body : (s : ResolvedCase) → known_body (body.Case s) ≡ known_case s
case_body s = ap known_body (sym (body.rolls-Case s)) ∙ fold-roll-ResolvedBody Bool Bool Bool Bool Bool Bool Bool body_step arm_step case_step elsif_step if_step loop_step statement_step (ResolvedBody-F.Case s)

pub loop_body : (s : ResolvedLoop) → known_body (body.Loop s) ≡ known_loop s
loop_body s = ap known_body (sym (body.rolls-Loop s)) ∙ fold-roll-ResolvedBody Bool Bool Bool Bool Bool Bool Bool body_step arm_step case_step elsif_step if_step loop_step statement_step (ResolvedBody-F.Loop s)

pub next_body : (j : ResolvedJump) → known_body (body.Next j) ≡ known_jump j
next_body j = ap known_body (sym (body.rolls-Next j)) ∙ fold-roll-ResolvedBody Bool Bool Bool Bool Bool Bool Bool body_step arm_step case_step elsif_step if_step loop_step statement_step (ResolvedBody-F.Next j)

pub exit_body : (j : ResolvedJump) → known_body (body.Exit j) ≡ known_jump j
exit_body j = ap known_body (sym (body.rolls-Exit j)) ∙ fold-roll-ResolvedBody Bool Bool Bool Bool Bool Bool Bool body_step arm_step case_step elsif_step if_step loop_step statement_step (ResolvedBody-F.Exit j)

pub null_body : known_body body.Null ≡ true
null_body = ap known_body (sym body.rolls-Null) ∙ fold-roll-ResolvedBody Bool Bool Bool Bool Bool Bool Bool body_step arm_step case_step elsif_step if_step loop_step statement_step ResolvedBody-F.Null

pub arm_rolled : (choices : List ChoiceValue) (statements : List ResolvedStatement) → known_arm (roll-ResolvedArm (record { choices = choices; statements = statements })) ≡ (known_choices choices && all_known (map known_statement statements))
arm_rolled choices statements = fold-roll-ResolvedArm Bool Bool Bool Bool Bool Bool Bool body_step arm_step case_step elsif_step if_step loop_step statement_step (record { choices = choices; statements = statements })

pub case_rolled : (subject : Value) (arms : List ResolvedArm) → known_case (roll-ResolvedCase (record { subject = subject; arms = arms })) ≡ (known_value subject && all_known (map known_arm arms))
case_rolled subject arms = fold-roll-ResolvedCase Bool Bool Bool Bool Bool Bool Bool body_step arm_step case_step elsif_step if_step loop_step statement_step (record { subject = subject; arms = arms })

pub elsif_rolled : (condition : Value) (statements : List ResolvedStatement) → known_elsif (roll-ResolvedElsif (record { condition = condition; statements = statements })) ≡ (known_value condition && all_known (map known_statement statements))
elsif_rolled condition statements = fold-roll-ResolvedElsif Bool Bool Bool Bool Bool Bool Bool body_step arm_step case_step elsif_step if_step loop_step statement_step (record { condition = condition; statements = statements })

pub if_rolled : (condition : Value) (statements : List ResolvedStatement) (elsifs : List ResolvedElsif) (otherwise : List ResolvedStatement) → known_if (roll-ResolvedIf (record { condition = condition; statements = statements; elsifs = elsifs; otherwise = otherwise })) ≡ (known_value condition && (all_known (map known_statement statements) && (all_known (map known_elsif elsifs) && all_known (map known_statement otherwise))))
if_rolled condition statements elsifs otherwise = fold-roll-ResolvedIf Bool Bool Bool Bool Bool Bool Bool body_step arm_step case_step elsif_step if_step loop_step statement_step (record { condition = condition; statements = statements; elsifs = elsifs; otherwise = otherwise })

pub loop_rolled : (scheme : ResolvedScheme) (statements : List ResolvedStatement) → known_loop (roll-ResolvedLoop (record { scheme = scheme; statements = statements })) ≡ (known_scheme scheme && all_known (map known_statement statements))
loop_rolled scheme statements = fold-roll-ResolvedLoop Bool Bool Bool Bool Bool Bool Bool body_step arm_step case_step elsif_step if_step loop_step statement_step (record { scheme = scheme; statements = statements })

pub statement_rolled : (line : ℕ) (label : Option Declared) (body : ResolvedBody) → known_statement (roll-ResolvedStatement (record { line = line; label = label; body = body })) ≡ known_body body
statement_rolled line label body = fold-roll-ResolvedStatement Bool Bool Bool Bool Bool Bool Bool body_step arm_step case_step elsif_step if_step loop_step statement_step (record { line = line; label = label; body = body })
