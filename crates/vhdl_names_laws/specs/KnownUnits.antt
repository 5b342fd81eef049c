-- Statements and units with a meaning: nothing in them is `Unknown` or missing (IEEE Std 1076-2008, clauses 3, 10, 11, 13).
use Rattle.std.specs.Prelude.{Bool, is_some, map, true, ◌&&◌}
use Rattle.vhdl_names_laws.specs.Known.{all_known, known_value}
use Rattle.vhdl_names_laws.specs.KnownParts.{known_assertion, known_assignment, known_choices, known_concurrent_assignment, known_declaration, known_instance, known_jump, known_objects, known_scheme, known_sensitivity, known_wait}
use Rattle.vhdl_units.specs.declared.statements.ResolvedArm.{ResolvedArm}
use Rattle.vhdl_units.specs.declared.statements.ResolvedBody.{ResolvedBody}
use Rattle.vhdl_units.specs.declared.statements.ResolvedCase.{ResolvedCase}
use Rattle.vhdl_units.specs.declared.statements.ResolvedElsif.{ResolvedElsif}
use Rattle.vhdl_units.specs.declared.statements.ResolvedIf.{ResolvedIf}
use Rattle.vhdl_units.specs.declared.statements.ResolvedLoop.{ResolvedLoop}
use Rattle.vhdl_units.specs.declared.statements.ResolvedStatement.{ResolvedStatement}
use Rattle.vhdl_units.specs.declared.units.ResolvedArchitecture.{ResolvedArchitecture}
use Rattle.vhdl_units.specs.declared.units.ResolvedConcurrent.{ResolvedConcurrent}
use Rattle.vhdl_units.specs.declared.units.ResolvedConcurrentBody.{ResolvedConcurrentBody}
use Rattle.vhdl_units.specs.declared.units.ResolvedEntity.{ResolvedEntity}
use Rattle.vhdl_units.specs.declared.units.ResolvedProcess.{ResolvedProcess}
use Rattle.vhdl_units.specs.declared.units.ResolvedUnit.{ResolvedUnit}
use Rattle.vhdl_units.specs.declared.units.Units.{Units}
use Rattle.vhdl_units.specs.declared.units.ResolvedConcurrentBody.TheVariants as concurrent_body
use Rattle.vhdl_units.specs.declared.units.ResolvedUnit.TheVariants as unit
use Rattle.vhdl_units.specs.declared.statements.ResolvedBody.TheOpen.{ResolvedBody-F, ResolvedArm-F, ResolvedCase-F, ResolvedElsif-F, ResolvedIf-F, ResolvedLoop-F, ResolvedStatement-F}  -- keep
use Rattle.vhdl_units.specs.declared.statements.ResolvedBody.TheFolds.{fold-ResolvedBody, fold-ResolvedArm, fold-ResolvedCase, fold-ResolvedElsif, fold-ResolvedIf, fold-ResolvedLoop, fold-ResolvedStatement}  -- keep

-- ---- sequential statements

abbrev pub body_step : ResolvedBody-F Bool Bool Bool Bool Bool Bool Bool → Bool
body_step (ResolvedBody-F.Wait w) = known_wait w
body_step (ResolvedBody-F.Assert x) = known_assertion x
body_step (ResolvedBody-F.Report r) = true
body_step (ResolvedBody-F.Signal s) = known_assignment s
body_step (ResolvedBody-F.Variable target value) = known_value target && known_value value
body_step (ResolvedBody-F.If s) = s
body_step (ResolvedBody-F.Case s) = s
body_step (ResolvedBody-F.Loop s) = s
body_step (ResolvedBody-F.Next j) = known_jump j
body_step (ResolvedBody-F.Exit j) = known_jump j
body_step ResolvedBody-F.Null = true

abbrev pub arm_step : ResolvedArm-F Bool Bool Bool Bool Bool Bool Bool → Bool
arm_step s = known_choices s.choices && all_known s.statements

abbrev pub case_step : ResolvedCase-F Bool Bool Bool Bool Bool Bool Bool → Bool
case_step s = known_value s.subject && all_known s.arms

abbrev pub elsif_step : ResolvedElsif-F Bool Bool Bool Bool Bool Bool Bool → Bool
elsif_step s = known_value s.condition && all_known s.statements

abbrev pub if_step : ResolvedIf-F Bool Bool Bool Bool Bool Bool Bool → Bool
if_step s = known_value s.condition && (all_known s.statements && (all_known s.elsifs && all_known s.otherwise))

abbrev pub loop_step : ResolvedLoop-F Bool Bool Bool Bool Bool Bool Bool → Bool
loop_step s = known_scheme s.scheme && all_known s.statements

abbrev pub statement_step : ResolvedStatement-F Bool Bool Bool Bool Bool Bool Bool → Bool
statement_step s = s.body

abbrev pub known_body : ResolvedBody → Bool
known_body = fold-ResolvedBody Bool Bool Bool Bool Bool Bool Bool body_step arm_step case_step elsif_step if_step loop_step statement_step

abbrev pub known_arm : ResolvedArm → Bool
known_arm = fold-ResolvedArm Bool Bool Bool Bool Bool Bool Bool body_step arm_step case_step elsif_step if_step loop_step statement_step

abbrev pub known_case : ResolvedCase → Bool
known_case = fold-ResolvedCase Bool Bool Bool Bool Bool Bool Bool body_step arm_step case_step elsif_step if_step loop_step statement_step

abbrev pub known_elsif : ResolvedElsif → Bool
known_elsif = fold-ResolvedElsif Bool Bool Bool Bool Bool Bool Bool body_step arm_step case_step elsif_step if_step loop_step statement_step

abbrev pub known_if : ResolvedIf → Bool
known_if = fold-ResolvedIf Bool Bool Bool Bool Bool Bool Bool body_step arm_step case_step elsif_step if_step loop_step statement_step

abbrev pub known_loop : ResolvedLoop → Bool
known_loop = fold-ResolvedLoop Bool Bool Bool Bool Bool Bool Bool body_step arm_step case_step elsif_step if_step loop_step statement_step

abbrev pub known_statement : ResolvedStatement → Bool
known_statement = fold-ResolvedStatement Bool Bool Bool Bool Bool Bool Bool body_step arm_step case_step elsif_step if_step loop_step statement_step

-- ---- concurrent statements

unfoldable pub known_process : ResolvedProcess → Bool
known_process s = known_sensitivity s.sensitivity && (all_known (map known_declaration s.declarations) && all_known (map known_statement s.statements))

unfoldable pub known_concurrent_body : ResolvedConcurrentBody → Bool
known_concurrent_body (concurrent_body.Process s) = known_process s
known_concurrent_body (concurrent_body.Assignment s) = known_concurrent_assignment s
known_concurrent_body (concurrent_body.Instance i) = known_instance i

unfoldable pub known_concurrent : ResolvedConcurrent → Bool
known_concurrent s = known_concurrent_body s.body

-- ---- units

unfoldable pub known_entity : ResolvedEntity → Bool
known_entity e = all_known (map known_objects e.generics) && all_known (map known_objects e.ports)

-- its entity is there
unfoldable pub known_architecture : ResolvedArchitecture → Bool
known_architecture a = is_some a.entity && (all_known (map known_declaration a.declarations) && all_known (map known_concurrent a.statements))

unfoldable pub known_unit : ResolvedUnit → Bool
known_unit (unit.Entity e) = known_entity e
known_unit (unit.Architecture a) = known_architecture a

unfoldable pub known_units : Units → Bool
known_units u = all_known (map known_unit u.units)
