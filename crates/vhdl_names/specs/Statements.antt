-- Sequential statements and declarations: their events, in the order of their text, and what they mean (IEEE Std
-- 1076-2008, clauses 6 and 10).
use Rattle.std.specs.Prelude.{Bool, List, None, Option, Some, [], map, ◌++◌, ◌∷◌}
use Rattle.vhdl_names_checker.specs.Events.{Event}
use Rattle.vhdl_names_checker.specs.Progress.{Progress, step, walk}
use Rattle.vhdl_names.specs.Parts.{Part, all_at, events_of, with_last}
use Rattle.vhdl_names_resolving.specs.Declarations.{attribute_resolved, enumeration_resolved, label_here, objects_resolved, subtyped_resolved}
use Rattle.vhdl_names_resolving.specs.Statements.{assertion_resolved, assignment_resolved, choices_resolved, jump_resolved, report_resolved, scheme_resolved, subject_resolved, variable_resolved, wait_resolved}
use Rattle.vhdl_names_resolving.specs.Values.{value_at}
use Rattle.vhdl_tokens.specs.declared.token.Token.{Token}
use Rattle.vhdl_tree.specs.declared.declarations.AttributeSpecification.{AttributeSpecification}
use Rattle.vhdl_tree.specs.declared.declarations.Declaration.{Declaration}
use Rattle.vhdl_tree.specs.declared.declarations.Subtype.{Subtype}
use Rattle.vhdl_tree.specs.declared.declarations.SubtypeDeclaration.{SubtypeDeclaration}
use Rattle.vhdl_tree.specs.declared.declarations.TypeDeclaration.{TypeDeclaration}
use Rattle.vhdl_tree.specs.declared.expressions.Expr.{Expr}
use Rattle.vhdl_tree.specs.declared.statements.Arm.{Arm}
use Rattle.vhdl_tree.specs.declared.statements.Assertion.{Assertion}
use Rattle.vhdl_tree.specs.declared.statements.Body.{Body}
use Rattle.vhdl_tree.specs.declared.statements.Case.{Case}
use Rattle.vhdl_tree.specs.declared.statements.Elsif.{Elsif}
use Rattle.vhdl_tree.specs.declared.statements.If.{If}
use Rattle.vhdl_tree.specs.declared.statements.Jump.{Jump}
use Rattle.vhdl_tree.specs.declared.statements.Loop.{Loop}
use Rattle.vhdl_tree.specs.declared.statements.Report.{Report}
use Rattle.vhdl_tree.specs.declared.statements.SignalAssignment.{SignalAssignment}
use Rattle.vhdl_tree.specs.declared.statements.Statement.{Statement}
use Rattle.vhdl_tree.specs.declared.statements.VariableAssignment.{VariableAssignment}
use Rattle.vhdl_tree.specs.declared.statements.Wait.{Wait}
use Rattle.vhdl_units.specs.declared.entry.Class.{Class}
use Rattle.vhdl_units.specs.declared.declarations.Declared.{Declared}
use Rattle.vhdl_units.specs.declared.declarations.ResolvedDeclaration.{ResolvedDeclaration}
use Rattle.vhdl_units.specs.declared.declarations.ResolvedObjects.{ResolvedObjects}
use Rattle.vhdl_units.specs.declared.statements.ResolvedArm.{ResolvedArm, roll-ResolvedArm}
use Rattle.vhdl_units.specs.declared.statements.ResolvedBody.{ResolvedBody}
use Rattle.vhdl_units.specs.declared.statements.ResolvedCase.{ResolvedCase, roll-ResolvedCase}
use Rattle.vhdl_units.specs.declared.statements.ResolvedElsif.{ResolvedElsif, roll-ResolvedElsif}
use Rattle.vhdl_units.specs.declared.statements.ResolvedIf.{ResolvedIf, roll-ResolvedIf}
use Rattle.vhdl_units.specs.declared.statements.ResolvedLoop.{ResolvedLoop, roll-ResolvedLoop}
use Rattle.vhdl_units.specs.declared.statements.ResolvedStatement.{ResolvedStatement, roll-ResolvedStatement}
use Rattle.vhdl_units.specs.declared.values.Value.{Value}
use Rattle.vhdl_units.specs.declared.base_type.BaseType.TheVariants as base
use Rattle.vhdl_units.specs.declared.entry.Class.TheVariants as class
use Rattle.vhdl_tree.specs.declared.declarations.Declaration.TheVariants as declaration
use Rattle.vhdl_units.specs.declared.statements.ResolvedBody.TheVariants as resolved
use Rattle.vhdl_units.specs.declared.declarations.ResolvedDeclaration.TheVariants as resolved_declaration
use Rattle.vhdl_tree.specs.declared.statements.Body.TheOpen.{Arm-F, Case-F, Elsif-F, If-F, Loop-F, Statement-F, Body-F}  -- keep
use Rattle.vhdl_tree.specs.declared.statements.Body.TheFolds.{fold-Statement, fold-Body, fold-If, fold-Elsif, fold-Case, fold-Arm, fold-Loop}  -- keep

-- what a condition means
unfoldable pub condition_in : Progress → Expr → Value
condition_in p e = value_at p.text p.around base.Boolean e

-- ---- labels

-- A label is declared where it stands.
unfoldable pub label_events : Option Token → List Event
label_events None = []
label_events (Some token) = Event.Labelled token ∷ []

unfoldable pub of_label : Option Token → Part (Option Declared)
of_label label = record { events = label_events label; at = λ p. label_here p.text p.around label }

-- ---- statements without others in them

unfoldable pub of_wait : Wait → Part ResolvedBody
of_wait s = record { events = Event.Waits s ∷ []; at = λ p. resolved.Wait (wait_resolved p.text p.around s) }

unfoldable pub of_assertion : Assertion → Part ResolvedBody
of_assertion s = record { events = Event.Asserted s ∷ []; at = λ p. resolved.Assert (assertion_resolved p.text p.around s) }

unfoldable pub of_report : Report → Part ResolvedBody
of_report s = record { events = Event.Reported s ∷ []; at = λ p. resolved.Report (report_resolved p.text s) }

unfoldable pub of_assignment : SignalAssignment → Part ResolvedBody
of_assignment s = record { events = Event.Assigned s.target s.delay s.waveform [] None ∷ []; at = λ p. resolved.Signal (assignment_resolved p.text p.around s) }

unfoldable pub of_variable : VariableAssignment → Part ResolvedBody
of_variable s = record { events = Event.AssignedVariable s.target s.value ∷ []; at = λ p. variable_resolved p.text p.around s }

unfoldable pub of_next : Jump → Part ResolvedBody
of_next j = record { events = Event.Jumped j ∷ []; at = λ p. resolved.Next (jump_resolved p.text p.around j) }

unfoldable pub of_exit : Jump → Part ResolvedBody
of_exit j = record { events = Event.Jumped j ∷ []; at = λ p. resolved.Exit (jump_resolved p.text p.around j) }

unfoldable pub of_null : Part ResolvedBody
of_null = record { events = []; at = λ p. resolved.Null }

-- ---- statements with others in them, by the parts that these are

unfoldable pub if_at : Value → List (Part ResolvedStatement) → List (Part ResolvedElsif) → List (Part ResolvedStatement) → Progress → ResolvedIf
if_at condition statements elsifs otherwise p = roll-ResolvedIf (record {
  condition = condition;
  statements = all_at statements p;
  elsifs = all_at elsifs (walk (events_of statements) p);
  otherwise = all_at otherwise (walk (events_of elsifs) (walk (events_of statements) p));
})

unfoldable pub elsif_at : Value → List (Part ResolvedStatement) → Progress → ResolvedElsif
elsif_at condition statements p = roll-ResolvedElsif (record { condition = condition; statements = all_at statements p })

-- What it chooses by is known behind its beginning.
unfoldable pub case_at : Expr → List (Part ResolvedArm) → Progress → ResolvedCase
case_at subject arms p = roll-ResolvedCase (record { subject = subject_resolved p.text p.around subject; arms = all_at arms p })

-- ---- whole statements

-- What a statement does stands with its label, whose name may stand again at its end.
abbrev pub Labelled : Type 0 → Type 0
Labelled X = Option Token → Part X

unfoldable pub if_step : If-F (Labelled ResolvedBody) (Bool → Part ResolvedArm) (Labelled ResolvedCase) (Part ResolvedElsif) (Labelled ResolvedIf) (Labelled ResolvedLoop) (Part ResolvedStatement) → Labelled ResolvedIf
if_step s label = record {
  events = Event.Tested s.condition ∷ (events_of s.statements ++ (events_of s.elsifs ++ (events_of s.otherwise ++ Event.EndIf label s.end_name ∷ [])));
  at = λ p. if_at (condition_in p s.condition) s.statements s.elsifs s.otherwise (step (Event.Tested s.condition) p);
}

unfoldable pub elsif_step : Elsif-F (Labelled ResolvedBody) (Bool → Part ResolvedArm) (Labelled ResolvedCase) (Part ResolvedElsif) (Labelled ResolvedIf) (Labelled ResolvedLoop) (Part ResolvedStatement) → Part ResolvedElsif
elsif_step s = record {
  events = Event.Tested s.condition ∷ events_of s.statements;
  at = λ p. elsif_at (condition_in p s.condition) s.statements (step (Event.Tested s.condition) p);
}

unfoldable pub case_step : Case-F (Labelled ResolvedBody) (Bool → Part ResolvedArm) (Labelled ResolvedCase) (Part ResolvedElsif) (Labelled ResolvedIf) (Labelled ResolvedLoop) (Part ResolvedStatement) → Labelled ResolvedCase
case_step s label = record {
  events = Event.Chosen s.subject ∷ (events_of (with_last s.arms) ++ Event.EndCase label s.end_name ∷ []);
  at = λ p. case_at s.subject (with_last s.arms) (step (Event.Chosen s.subject) p);
}

unfoldable pub arm_step : Arm-F (Labelled ResolvedBody) (Bool → Part ResolvedArm) (Labelled ResolvedCase) (Part ResolvedElsif) (Labelled ResolvedIf) (Labelled ResolvedLoop) (Part ResolvedStatement) → Bool → Part ResolvedArm
arm_step s is_last = record {
  events = Event.Arm is_last s.choices ∷ events_of s.statements;
  at = λ p. roll-ResolvedArm (record { choices = choices_resolved p.text p.around s.choices; statements = all_at s.statements (step (Event.Arm is_last s.choices) p) });
}

unfoldable pub loop_step : Loop-F (Labelled ResolvedBody) (Bool → Part ResolvedArm) (Labelled ResolvedCase) (Part ResolvedElsif) (Labelled ResolvedIf) (Labelled ResolvedLoop) (Part ResolvedStatement) → Labelled ResolvedLoop
loop_step s label = record {
  events = Event.Looped label s.scheme ∷ (events_of s.statements ++ Event.EndLoop s.scheme label s.end_name ∷ []);
  at = λ p. roll-ResolvedLoop (record { scheme = scheme_resolved p.text p.around s.scheme; statements = all_at s.statements (step (Event.Looped label s.scheme) p) });
}

unfoldable pub if_body : Part ResolvedIf → Part ResolvedBody
if_body x = record { events = x.events; at = λ p. resolved.If (x.at p) }

unfoldable pub case_body : Part ResolvedCase → Part ResolvedBody
case_body x = record { events = x.events; at = λ p. resolved.Case (x.at p) }

unfoldable pub loop_body : Part ResolvedLoop → Part ResolvedBody
loop_body x = record { events = x.events; at = λ p. resolved.Loop (x.at p) }

unfoldable pub body_step : Body-F (Labelled ResolvedBody) (Bool → Part ResolvedArm) (Labelled ResolvedCase) (Part ResolvedElsif) (Labelled ResolvedIf) (Labelled ResolvedLoop) (Part ResolvedStatement) → Labelled ResolvedBody
body_step (Body-F.Wait s) label = of_wait s
body_step (Body-F.Assert s) label = of_assertion s
body_step (Body-F.Report s) label = of_report s
body_step (Body-F.Signal s) label = of_assignment s
body_step (Body-F.Variable s) label = of_variable s
body_step (Body-F.If s) label = if_body (s label)
body_step (Body-F.Case s) label = case_body (s label)
body_step (Body-F.Loop s) label = loop_body (s label)
body_step (Body-F.Next s) label = of_next s
body_step (Body-F.Exit s) label = of_exit s
body_step Body-F.Null label = of_null

unfoldable pub statement_step : Statement-F (Labelled ResolvedBody) (Bool → Part ResolvedArm) (Labelled ResolvedCase) (Part ResolvedElsif) (Labelled ResolvedIf) (Labelled ResolvedLoop) (Part ResolvedStatement) → Part ResolvedStatement
statement_step s = record {
  events = label_events s.label ++ (s.body s.label).events;
  at = λ p. roll-ResolvedStatement (record { line = s.line; label = label_here p.text p.around s.label; body = (s.body s.label).at (walk (label_events s.label) p) });
}

unfoldable pub of_statement : Statement → Part ResolvedStatement
of_statement = fold-Statement (Labelled ResolvedBody) (Bool → Part ResolvedArm) (Labelled ResolvedCase) (Part ResolvedElsif) (Labelled ResolvedIf) (Labelled ResolvedLoop) (Part ResolvedStatement) body_step arm_step case_step elsif_step if_step loop_step statement_step

-- the parts of statements
unfoldable pub of_body : Body → Labelled ResolvedBody
of_body = fold-Body (Labelled ResolvedBody) (Bool → Part ResolvedArm) (Labelled ResolvedCase) (Part ResolvedElsif) (Labelled ResolvedIf) (Labelled ResolvedLoop) (Part ResolvedStatement) body_step arm_step case_step elsif_step if_step loop_step statement_step

unfoldable pub of_if : If → Labelled ResolvedIf
of_if = fold-If (Labelled ResolvedBody) (Bool → Part ResolvedArm) (Labelled ResolvedCase) (Part ResolvedElsif) (Labelled ResolvedIf) (Labelled ResolvedLoop) (Part ResolvedStatement) body_step arm_step case_step elsif_step if_step loop_step statement_step

unfoldable pub of_elsif : Elsif → Part ResolvedElsif
of_elsif = fold-Elsif (Labelled ResolvedBody) (Bool → Part ResolvedArm) (Labelled ResolvedCase) (Part ResolvedElsif) (Labelled ResolvedIf) (Labelled ResolvedLoop) (Part ResolvedStatement) body_step arm_step case_step elsif_step if_step loop_step statement_step

unfoldable pub of_case : Case → Labelled ResolvedCase
of_case = fold-Case (Labelled ResolvedBody) (Bool → Part ResolvedArm) (Labelled ResolvedCase) (Part ResolvedElsif) (Labelled ResolvedIf) (Labelled ResolvedLoop) (Part ResolvedStatement) body_step arm_step case_step elsif_step if_step loop_step statement_step

unfoldable pub of_arm : Arm → Bool → Part ResolvedArm
of_arm = fold-Arm (Labelled ResolvedBody) (Bool → Part ResolvedArm) (Labelled ResolvedCase) (Part ResolvedElsif) (Labelled ResolvedIf) (Labelled ResolvedLoop) (Part ResolvedStatement) body_step arm_step case_step elsif_step if_step loop_step statement_step

unfoldable pub of_loop : Loop → Labelled ResolvedLoop
of_loop = fold-Loop (Labelled ResolvedBody) (Bool → Part ResolvedArm) (Labelled ResolvedCase) (Part ResolvedElsif) (Labelled ResolvedIf) (Labelled ResolvedLoop) (Part ResolvedStatement) body_step arm_step case_step elsif_step if_step loop_step statement_step

unfoldable pub of_statements : List Statement → List (Part ResolvedStatement)
of_statements statements = map of_statement statements

-- ---- declarations

unfoldable pub of_objects : Class → List Token → Subtype → Option Expr → Part ResolvedObjects
of_objects c names s initial = record { events = Event.Objects c names s initial ∷ []; at = λ p. objects_resolved p.text p.around c names s initial }

unfoldable pub object_declaration : Part ResolvedObjects → Part ResolvedDeclaration
object_declaration x = record { events = x.events; at = λ p. resolved_declaration.Objects (x.at p) }

unfoldable pub of_enumeration : TypeDeclaration → Part ResolvedDeclaration
of_enumeration d = record { events = Event.Enumeration d ∷ []; at = λ p. enumeration_resolved p.text p.around d }

unfoldable pub of_subtyped : SubtypeDeclaration → Part ResolvedDeclaration
of_subtyped d = record { events = Event.Subtyped d ∷ []; at = λ p. subtyped_resolved p.text p.around d }

unfoldable pub of_attribute : AttributeSpecification → Part ResolvedDeclaration
of_attribute s = record { events = Event.Attributed s ∷ []; at = λ p. attribute_resolved p.text p.around s }

unfoldable pub of_declaration : Declaration → Part ResolvedDeclaration
of_declaration (declaration.Type d) = of_enumeration d
of_declaration (declaration.Subtype d) = of_subtyped d
of_declaration (declaration.Constant d) = object_declaration (of_objects class.Constant d.names d.subtype (Some d.value))
of_declaration (declaration.Signal d) = object_declaration (of_objects class.Signal d.names d.subtype d.initial)
of_declaration (declaration.Variable d) = object_declaration (of_objects class.Variable d.names d.subtype d.initial)
of_declaration (declaration.Attribute s) = of_attribute s

unfoldable pub of_declarations : List Declaration → List (Part ResolvedDeclaration)
of_declarations declarations = map of_declaration declarations
