use Rattle.std.proofs.Common.{arith, refl, ◌∙◌}
use Rattle.vhdl_names_checker.specs.Progress.{walk}
use Rattle.vhdl_names.specs.Statements.{case_body, if_body, loop_body, of_elsif, of_label, of_null, of_statement, of_statements}
use Rattle.vhdl_names.proofs.Parts.{arm_part, arms_end, arms_turn, assertion_is, case_is, case_part, elsif_part, exit_is, if_is, if_part, loop_is, loop_part, next_is, null_is, report_is, signal_is, statement_part, variable_is, wait_is}
use Rattle.vhdl_names.proofs.Walks.{part_end, part_turn, parts_begin}
use Rattle.vhdl_names.proofs.statements.+statement.Goals as goal

pub check_body-returns-in-Wait-clause-walk : goal.check_body-returns-in-Wait-clause-walk
check_body-returns-in-Wait-clause-walk t c = rw (c.in-Wait.is, wait_is) c.check_wait.ensures.walk

pub check_body-returns-in-Wait-clause-meaning : goal.check_body-returns-in-Wait-clause-meaning
check_body-returns-in-Wait-clause-meaning t c = rw (c.in-Wait.is, wait_is) c.check_wait.ensures.meaning

pub check_body-returns-in-Assert-clause-walk : goal.check_body-returns-in-Assert-clause-walk
check_body-returns-in-Assert-clause-walk t c = rw (c.in-Assert.is, assertion_is) c.check_assertion.ensures.walk

pub check_body-returns-in-Assert-clause-meaning : goal.check_body-returns-in-Assert-clause-meaning
check_body-returns-in-Assert-clause-meaning t c = rw (c.in-Assert.is, assertion_is) c.check_assertion.ensures.meaning

pub check_body-returns-in-Report-clause-walk : goal.check_body-returns-in-Report-clause-walk
check_body-returns-in-Report-clause-walk t c = rw (c.in-Report.is, report_is) c.check_report.ensures.walk

pub check_body-returns-in-Report-clause-meaning : goal.check_body-returns-in-Report-clause-meaning
check_body-returns-in-Report-clause-meaning t c = rw (c.in-Report.is, report_is) c.check_report.ensures.meaning

pub check_body-returns-in-Signal-clause-walk : goal.check_body-returns-in-Signal-clause-walk
check_body-returns-in-Signal-clause-walk t c = rw (c.in-Signal.is, signal_is) c.check_assignment.ensures.walk

pub check_body-returns-in-Signal-clause-meaning : goal.check_body-returns-in-Signal-clause-meaning
check_body-returns-in-Signal-clause-meaning t c = rw (c.in-Signal.is, signal_is) c.check_assignment.ensures.meaning

pub check_body-returns-in-Variable-clause-walk : goal.check_body-returns-in-Variable-clause-walk
check_body-returns-in-Variable-clause-walk t c = rw (c.in-Variable.is, variable_is) c.check_variable.ensures.walk

pub check_body-returns-in-Variable-clause-meaning : goal.check_body-returns-in-Variable-clause-meaning
check_body-returns-in-Variable-clause-meaning t c = rw (c.in-Variable.is, variable_is) c.check_variable.ensures.meaning

pub check_body-returns-in-Next-clause-walk : goal.check_body-returns-in-Next-clause-walk
check_body-returns-in-Next-clause-walk t c = rw (c.in-Next.is, next_is) c.check_next.ensures.walk

pub check_body-returns-in-Next-clause-meaning : goal.check_body-returns-in-Next-clause-meaning
check_body-returns-in-Next-clause-meaning t c = rw (c.in-Next.is, next_is) c.check_next.ensures.meaning

pub check_body-returns-in-Exit-clause-walk : goal.check_body-returns-in-Exit-clause-walk
check_body-returns-in-Exit-clause-walk t c = rw (c.in-Exit.is, exit_is) c.check_exit.ensures.walk

pub check_body-returns-in-Exit-clause-meaning : goal.check_body-returns-in-Exit-clause-meaning
check_body-returns-in-Exit-clause-meaning t c = rw (c.in-Exit.is, exit_is) c.check_exit.ensures.meaning

pub check_body-returns-in_ok-check_if-in-If-clause-walk : goal.check_body-returns-in_ok-check_if-in-If-clause-walk
unfolding if_body
check_body-returns-in_ok-check_if-in-If-clause-walk t c = rw (c.in-If.is, if_is) c.in_ok-check_if-in-If.ensures.walk

pub check_body-returns-in_ok-check_if-in-If-clause-meaning : goal.check_body-returns-in_ok-check_if-in-If-clause-meaning
unfolding if_body
check_body-returns-in_ok-check_if-in-If-clause-meaning t c = rw (c.in-If.is, if_is, c.in_ok-check_if-in-If.ensures.meaning) refl

pub check_body-returns-in_ok-check_case-in-Case-clause-walk : goal.check_body-returns-in_ok-check_case-in-Case-clause-walk
unfolding case_body
check_body-returns-in_ok-check_case-in-Case-clause-walk t c = rw (c.in-Case.is, case_is) c.in_ok-check_case-in-Case.ensures.walk

pub check_body-returns-in_ok-check_case-in-Case-clause-meaning : goal.check_body-returns-in_ok-check_case-in-Case-clause-meaning
unfolding case_body
check_body-returns-in_ok-check_case-in-Case-clause-meaning t c = rw (c.in-Case.is, case_is, c.in_ok-check_case-in-Case.ensures.meaning) refl

pub check_body-returns-in_ok-check_loop-in-Loop-clause-walk : goal.check_body-returns-in_ok-check_loop-in-Loop-clause-walk
unfolding loop_body
check_body-returns-in_ok-check_loop-in-Loop-clause-walk t c = rw (c.in-Loop.is, loop_is) c.in_ok-check_loop-in-Loop.ensures.walk

pub check_body-returns-in_ok-check_loop-in-Loop-clause-meaning : goal.check_body-returns-in_ok-check_loop-in-Loop-clause-meaning
unfolding loop_body
check_body-returns-in_ok-check_loop-in-Loop-clause-meaning t c = rw (c.in-Loop.is, loop_is, c.in_ok-check_loop-in-Loop.ensures.meaning) refl

pub check_body-returns-in-Null-clause-walk : goal.check_body-returns-in-Null-clause-walk
unfolding of_null walk
check_body-returns-in-Null-clause-walk t c = rw (c.in-Null.is, null_is) refl

pub check_body-returns-in-Null-clause-meaning : goal.check_body-returns-in-Null-clause-meaning
unfolding of_null
check_body-returns-in-Null-clause-meaning t c = rw (c.in-Null.is, null_is) refl

pub check_statement-returns-clause-walk : goal.check_statement-returns-clause-walk
unfolding of_label
check_statement-returns-clause-walk t c = (statement_part c.args.statement.now _ c.in_ok-label.ensures.walk c.in_ok-label.ensures.meaning c.in_ok-body.ensures.walk c.in_ok-body.ensures.meaning).0

pub check_statement-returns-clause-meaning : goal.check_statement-returns-clause-meaning
unfolding of_label
check_statement-returns-clause-meaning t c = (statement_part c.args.statement.now _ c.in_ok-label.ensures.walk c.in_ok-label.ensures.meaning c.in_ok-body.ensures.walk c.in_ok-body.ensures.meaning).1

pub check_if-returns-clause-walk : goal.check_if-returns-clause-walk
check_if-returns-clause-walk t c = (if_part c.args.statement.now c.args.label.now _ c.in_ok-condition.ensures c.in_ok-tested.ensures
    c.as_slice.ensures c.in_ok-statements.ensures.walk c.in_ok-statements.ensures.meaning
    c.as_slice-2.ensures c.in_ok-elsifs.ensures.walk c.in_ok-elsifs.ensures.meaning
    c.as_slice-3.ensures c.in_ok-otherwise.ensures.walk c.in_ok-otherwise.ensures.meaning c.in_ok-end_if.ensures).0

pub check_if-returns-clause-meaning : goal.check_if-returns-clause-meaning
check_if-returns-clause-meaning t c = (if_part c.args.statement.now c.args.label.now _ (c.into_inner.ensures ∙ (c.new-condition.ensures ∙ c.in_ok-condition.ensures)) c.in_ok-tested.ensures
    c.as_slice.ensures c.in_ok-statements.ensures.walk c.in_ok-statements.ensures.meaning
    c.as_slice-2.ensures c.in_ok-elsifs.ensures.walk c.in_ok-elsifs.ensures.meaning
    c.as_slice-3.ensures c.in_ok-otherwise.ensures.walk c.in_ok-otherwise.ensures.meaning c.in_ok-end_if.ensures).1

pub check_elsif-returns-clause-walk : goal.check_elsif-returns-clause-walk
check_elsif-returns-clause-walk t c = (elsif_part c.args.elsif.now _ c.in_ok-condition.ensures c.in_ok-tested.ensures c.as_slice.ensures c.in_ok-statements.ensures.walk c.in_ok-statements.ensures.meaning).0

pub check_elsif-returns-clause-meaning : goal.check_elsif-returns-clause-meaning
check_elsif-returns-clause-meaning t c = (elsif_part c.args.elsif.now _ (c.into_inner.ensures ∙ (c.new-condition.ensures ∙ c.in_ok-condition.ensures)) c.in_ok-tested.ensures c.as_slice.ensures c.in_ok-statements.ensures.walk c.in_ok-statements.ensures.meaning).1

pub check_case-returns-clause-walk : goal.check_case-returns-clause-walk
check_case-returns-clause-walk t c = (case_part c.args.statement.now c.args.label.now _ c.in_ok-chosen.ensures c.in_ok-subject.ensures c.as_slice.ensures c.in_ok-arms.ensures.walk c.in_ok-arms.ensures.meaning c.in_ok-end_case.ensures).0

pub check_case-returns-clause-meaning : goal.check_case-returns-clause-meaning
check_case-returns-clause-meaning t c = (case_part c.args.statement.now c.args.label.now _ c.in_ok-chosen.ensures (c.into_inner.ensures ∙ (c.new-subject.ensures ∙ c.in_ok-subject.ensures)) c.as_slice.ensures c.in_ok-arms.ensures.walk c.in_ok-arms.ensures.meaning c.in_ok-end_case.ensures).1

pub check_arm-returns-clause-walk : goal.check_arm-returns-clause-walk
check_arm-returns-clause-walk t c = (arm_part c.args.arm.now c.args.is_last _ c.as_slice.ensures c.in_ok-choices.ensures c.as_slice-2.ensures c.in_ok-arm.ensures c.as_slice-3.ensures c.in_ok-statements.ensures.walk c.in_ok-statements.ensures.meaning).0

pub check_arm-returns-clause-meaning : goal.check_arm-returns-clause-meaning
check_arm-returns-clause-meaning t c = (arm_part c.args.arm.now c.args.is_last _ c.as_slice.ensures c.in_ok-choices.ensures c.as_slice-2.ensures c.in_ok-arm.ensures c.as_slice-3.ensures c.in_ok-statements.ensures.walk c.in_ok-statements.ensures.meaning).1

pub check_loop-returns-clause-walk : goal.check_loop-returns-clause-walk
check_loop-returns-clause-walk t c = (loop_part c.args.statement.now c.args.label.now _ c.in_ok-scheme.ensures c.in_ok-looped.ensures c.as_slice.ensures c.in_ok-statements.ensures.walk c.in_ok-statements.ensures.meaning c.in_ok-end_loop.ensures).0

pub check_loop-returns-clause-meaning : goal.check_loop-returns-clause-meaning
check_loop-returns-clause-meaning t c = (loop_part c.args.statement.now c.args.label.now _ c.in_ok-scheme.ensures c.in_ok-looped.ensures c.as_slice.ensures c.in_ok-statements.ensures.walk c.in_ok-statements.ensures.meaning c.in_ok-end_loop.ensures).1

pub check_statements-loop-statement-init : goal.check_statements-loop-statement-init
check_statements-loop-statement-init t c = parts_begin _ _ _ c.new-resolved.ensures

pub check_statements-loop-statement-preserved : goal.check_statements-loop-statement-preserved
check_statements-loop-statement-preserved t c = part_turn of_statement c.args.statements.now c.loop-statement.statement-index c.statement-item.result _ _ _ c.loop-statement.checker _ _
    (omega arith) (cc) c.loop-statement.invariant c.in_ok-check_statement.ensures.walk c.in_ok-check_statement.ensures.meaning c.in_ok-push.ensures.ok

pub check_statements-returns-clause-walk : goal.check_statements-returns-clause-walk
unfolding of_statements
check_statements-returns-clause-walk t c = (part_end of_statement c.args.statements.now c.loop-statement.statement-index _ _ _ (omega arith) c.loop-statement.invariant).0

pub check_statements-returns-clause-meaning : goal.check_statements-returns-clause-meaning
unfolding of_statements
check_statements-returns-clause-meaning t c = (part_end of_statement c.args.statements.now c.loop-statement.statement-index _ _ _ (omega arith) c.loop-statement.invariant).1

pub check_elsifs-loop-elsif-init : goal.check_elsifs-loop-elsif-init
check_elsifs-loop-elsif-init t c = parts_begin _ _ _ c.new-resolved.ensures

pub check_elsifs-loop-elsif-preserved : goal.check_elsifs-loop-elsif-preserved
check_elsifs-loop-elsif-preserved t c = part_turn of_elsif c.args.elsifs.now c.loop-elsif.elsif-index c.elsif-item.result _ _ _ c.loop-elsif.checker _ _
    (omega arith) (cc) c.loop-elsif.invariant c.in_ok-check_elsif.ensures.walk c.in_ok-check_elsif.ensures.meaning c.in_ok-push.ensures.ok

pub check_elsifs-returns-clause-walk : goal.check_elsifs-returns-clause-walk
check_elsifs-returns-clause-walk t c = (part_end of_elsif c.args.elsifs.now c.loop-elsif.elsif-index _ _ _ (omega arith) c.loop-elsif.invariant).0

pub check_elsifs-returns-clause-meaning : goal.check_elsifs-returns-clause-meaning
check_elsifs-returns-clause-meaning t c = (part_end of_elsif c.args.elsifs.now c.loop-elsif.elsif-index _ _ _ (omega arith) c.loop-elsif.invariant).1

pub check_arms-loop-position-init : goal.check_arms-loop-position-init
check_arms-loop-position-init t c = parts_begin _ _ _ c.new-resolved.ensures

pub check_arms-loop-position-preserved : goal.check_arms-loop-position-preserved
check_arms-loop-position-preserved t c = arms_turn c.args.arms.now c.loop-position.position c.index-arms-position.result _ _ _ c.loop-position.checker _ _
    (omega arith) (cc) c.loop-position.invariant c.in_ok-check_arm.ensures.walk c.in_ok-check_arm.ensures.meaning c.in_ok-push.ensures.ok

pub check_arms-returns-clause-walk : goal.check_arms-returns-clause-walk
check_arms-returns-clause-walk t c = (arms_end c.args.arms.now c.loop-position.position _ _ _ (omega arith) c.loop-position.invariant).0

pub check_arms-returns-clause-meaning : goal.check_arms-returns-clause-meaning
check_arms-returns-clause-meaning t c = (arms_end c.args.arms.now c.loop-position.position _ _ _ (omega arith) c.loop-position.invariant).1
