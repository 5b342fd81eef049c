-- What simple statements and the heads of others mean (IEEE Std 1076-2008, clauses 10 and 11).
use Rattle.std.specs.Char.{to_ascii_lowercase}
use Rattle.std.specs.Prelude.{List, None, Option, Some, [], map, ℕ}
use Rattle.vhdl_names_checker.specs.Around.{Around}
use Rattle.vhdl_names_checker.specs.Declaring.{next_number}
use Rattle.vhdl_names_checker.specs.Faults.{loops_within, subject}
use Rattle.vhdl_names_meaning.specs.Names.{target_of}
use Rattle.vhdl_names_meaning.specs.Ranges.{common_type, range_at}
use Rattle.vhdl_names_meaning.specs.declared.candidates.Denoted.{Denoted}
use Rattle.vhdl_names_meaning.specs.declared.candidates.RangeCandidate.{RangeCandidate}
use Rattle.vhdl_names_resolving.specs.Declarations.{declared}
use Rattle.vhdl_names_resolving.specs.Values.{choice_here, denoted_here, optional_at, range_here, target_here, value_at}
use Rattle.vhdl_names_rules.specs.Statements.{severity_named}
use Rattle.vhdl_names_scope.specs.Names.{word_in}
use Rattle.vhdl_tokens.specs.Meaning.{span}
use Rattle.vhdl_tokens.specs.Values.{text_value}
use Rattle.vhdl_tokens.specs.declared.token.Token.{Token}
use Rattle.vhdl_tree.specs.declared.expressions.Choice.{Choice}
use Rattle.vhdl_tree.specs.declared.expressions.Expr.{Expr}
use Rattle.vhdl_tree.specs.declared.statements.Assertion.{Assertion}
use Rattle.vhdl_tree.specs.declared.statements.Delay.{Delay}
use Rattle.vhdl_tree.specs.declared.statements.Element.{Element}
use Rattle.vhdl_tree.specs.declared.statements.Jump.{Jump}
use Rattle.vhdl_tree.specs.declared.statements.Report.{Report}
use Rattle.vhdl_tree.specs.declared.statements.Scheme.{Scheme}
use Rattle.vhdl_tree.specs.declared.statements.SignalAssignment.{SignalAssignment}
use Rattle.vhdl_tree.specs.declared.statements.VariableAssignment.{VariableAssignment}
use Rattle.vhdl_tree.specs.declared.statements.Wait.{Wait}
use Rattle.vhdl_tree.specs.declared.units.Alternative.{Alternative}
use Rattle.vhdl_tree.specs.declared.units.ConcurrentAssignment.{ConcurrentAssignment}
use Rattle.vhdl_tree.specs.declared.units.Sensitivity.{Sensitivity}
use Rattle.vhdl_units.specs.declared.base_type.BaseType.{BaseType}
use Rattle.vhdl_units.specs.declared.statements.ResolvedAssertion.{ResolvedAssertion}
use Rattle.vhdl_units.specs.declared.statements.ResolvedAssignment.{ResolvedAssignment}
use Rattle.vhdl_units.specs.declared.statements.ResolvedBody.{ResolvedBody}
use Rattle.vhdl_units.specs.declared.statements.ResolvedDelay.{ResolvedDelay}
use Rattle.vhdl_units.specs.declared.statements.ResolvedElement.{ResolvedElement}
use Rattle.vhdl_units.specs.declared.statements.ResolvedJump.{ResolvedJump}
use Rattle.vhdl_units.specs.declared.statements.ResolvedReport.{ResolvedReport}
use Rattle.vhdl_units.specs.declared.statements.ResolvedScheme.{ResolvedScheme}
use Rattle.vhdl_units.specs.declared.statements.ResolvedWait.{ResolvedWait}
use Rattle.vhdl_units.specs.declared.statements.Severity.{Severity}
use Rattle.vhdl_units.specs.declared.units.ResolvedAlternative.{ResolvedAlternative}
use Rattle.vhdl_units.specs.declared.units.ResolvedConcurrentAssignment.{ResolvedConcurrentAssignment}
use Rattle.vhdl_units.specs.declared.units.ResolvedSensitivity.{ResolvedSensitivity}
use Rattle.vhdl_units.specs.declared.values.ChoiceValue.{ChoiceValue}
use Rattle.vhdl_units.specs.declared.values.Value.{Value}
use Rattle.vhdl_units.specs.declared.base_type.BaseType.TheVariants as base
use Rattle.vhdl_units.specs.declared.statements.ResolvedBody.TheVariants as body
use Rattle.vhdl_tree.specs.declared.statements.Delay.TheVariants as delay
use Rattle.vhdl_names_meaning.specs.declared.candidates.Denoted.TheVariants as denoted
use Rattle.vhdl_units.specs.declared.statements.ResolvedDelay.TheVariants as resolved_delay
use Rattle.vhdl_units.specs.declared.statements.ResolvedScheme.TheVariants as resolved_scheme
use Rattle.vhdl_units.specs.declared.units.ResolvedSensitivity.TheVariants as resolved_sensitivity
use Rattle.vhdl_tree.specs.declared.statements.Scheme.TheVariants as scheme
use Rattle.vhdl_tree.specs.declared.units.Sensitivity.TheVariants as sensitivity
use Rattle.vhdl_units.specs.declared.statements.Severity.TheVariants as severity

-- ---- assertions and reports

-- the level that is named, or else this one
unfoldable pub severity_or : Severity → Option Severity → Severity
severity_or otherwise None = otherwise
severity_or otherwise (Some level) = level

unfoldable pub severity_of : List ℕ → Severity → Option Token → Severity
severity_of text otherwise None = otherwise
severity_of text otherwise (Some token) = severity_or otherwise (severity_named (map to_ascii_lowercase (span text token)))

unfoldable pub bytes_or : Option (List ℕ) → List ℕ
bytes_or (Some bytes) = bytes
bytes_or None = []

-- the characters of a string literal
unfoldable pub string_of : List ℕ → Token → List ℕ
string_of text token = bytes_or (text_value (span text token))

unfoldable pub optional_string : List ℕ → Option Token → Option (List ℕ)
optional_string text None = None
optional_string text (Some token) = Some (string_of text token)

unfoldable pub report_resolved : List ℕ → Report → ResolvedReport
report_resolved text r = record { text = string_of text r.text; severity = severity_of text severity.Note r.severity }

-- ---- next and exit

unfoldable pub jump_loops : List ℕ → Option Token → List (Option (List ℕ)) → ℕ
jump_loops text None labels = 0
jump_loops text (Some token) labels = loops_within (word_in text token) labels

-- ---- targets

unfoldable pub target_type : Denoted → BaseType
target_type (denoted.Object o parts t is_static) = t
target_type _ = base.Integer

unfoldable pub type_or_integer : Option BaseType → BaseType
type_or_integer (Some t) = t
type_or_integer None = base.Integer

module _ (text : List ℕ) (a : Around) where
  unfoldable pub wait_resolved : Wait → ResolvedWait
  wait_resolved w = record { on = map (target_here text a) w.on; until = optional_at text a base.Boolean w.until; time = optional_at text a base.Time w.time }

  unfoldable pub assertion_resolved : Assertion → ResolvedAssertion
  assertion_resolved x = record {
    condition = value_at text a base.Boolean x.condition;
    text = optional_string text x.text;
    severity = severity_of text severity.Error x.severity;
  }

  unfoldable pub jump_resolved : Jump → ResolvedJump
  jump_resolved j = record { loops = jump_loops text j.label a.loops; condition = optional_at text a base.Boolean j.condition }

  -- ---- assignments

  unfoldable pub delay_resolved : Delay → ResolvedDelay
  delay_resolved delay.Inertial = resolved_delay.Inertial
  delay_resolved (delay.Reject e) = resolved_delay.Reject (value_at text a base.Time e)
  delay_resolved delay.Transport = resolved_delay.Transport

  unfoldable pub element_resolved : BaseType → Element → ResolvedElement
  element_resolved t e = record { value = value_at text a t e.value; after = optional_at text a base.Time e.after }

  unfoldable pub waveform_resolved : BaseType → List Element → List ResolvedElement
  waveform_resolved t elements = map (element_resolved t) elements

  unfoldable pub assignment_to : Denoted → Delay → List Element → ResolvedAssignment
  assignment_to d delay waveform = record { target = target_of d; delay = delay_resolved delay; waveform = waveform_resolved (target_type d) waveform }

  unfoldable pub assignment_resolved : SignalAssignment → ResolvedAssignment
  assignment_resolved s = assignment_to (denoted_here text a s.target) s.delay s.waveform

  unfoldable pub variable_to : Denoted → Expr → ResolvedBody
  variable_to d value = body.Variable (target_of d) (value_at text a (target_type d) value)

  unfoldable pub variable_resolved : VariableAssignment → ResolvedBody
  variable_resolved s = variable_to (denoted_here text a s.target) s.value

  unfoldable pub alternative_resolved : BaseType → Alternative → ResolvedAlternative
  alternative_resolved t x = record { condition = value_at text a base.Boolean x.condition; otherwise = waveform_resolved t x.otherwise }

  unfoldable pub concurrent_to : Denoted → ConcurrentAssignment → ResolvedConcurrentAssignment
  concurrent_to d s = record {
    postponed = s.postponed;
    target = target_of d;
    delay = delay_resolved s.delay;
    waveform = waveform_resolved (target_type d) s.waveform;
    alternatives = map (alternative_resolved (target_type d)) s.alternatives;
    condition = optional_at text a base.Boolean s.condition;
  }

  unfoldable pub concurrent_resolved : ConcurrentAssignment → ResolvedConcurrentAssignment
  concurrent_resolved s = concurrent_to (denoted_here text a s.target) s

  -- ---- case statements, where what they choose by is known

  unfoldable pub subject_resolved : Expr → Value
  subject_resolved e = value_at text a (type_or_integer (subject a.subjects)) e

  unfoldable pub choices_resolved : List Choice → List ChoiceValue
  choices_resolved choices = map (choice_here text a (type_or_integer (subject a.subjects))) choices

  -- ---- loops

  unfoldable pub loop_over : Token → BaseType → RangeCandidate → ResolvedScheme
  loop_over token t r = resolved_scheme.For (declared text (next_number a) token) t (range_at t r)

  unfoldable pub for_resolved : Token → RangeCandidate → ResolvedScheme
  for_resolved token r = loop_over token (type_or_integer (common_type r)) r

  unfoldable pub scheme_resolved : Scheme → ResolvedScheme
  scheme_resolved scheme.Forever = resolved_scheme.Forever
  scheme_resolved (scheme.While e) = resolved_scheme.While (value_at text a base.Boolean e)
  scheme_resolved (scheme.For token b) = for_resolved token (range_here text a b)

  -- ---- processes

  unfoldable pub sensitivity_resolved : Sensitivity → ResolvedSensitivity
  sensitivity_resolved sensitivity.Unlisted = resolved_sensitivity.Unlisted
  sensitivity_resolved sensitivity.All = resolved_sensitivity.All
  sensitivity_resolved (sensitivity.Names names) = resolved_sensitivity.Names (map (target_here text a) names)
