use Rattle.vhdl_names.proofs.Wholes.{process_part}
use Rattle.vhdl_names.proofs.units.check_process.Goals as goal

pub returns-clause-walk : goal.returns-clause-walk
returns-clause-walk c = (process_part c.args.label.now c.args.process.now _ _ c.in_ok-sensitivity.ensures.walk c.in_ok-sensitivity.ensures.meaning c.is_listed.ensures c.in_ok-process.ensures
    c.as_slice.ensures c.in_ok-declarations.ensures.walk c.in_ok-declarations.ensures.meaning c.as_slice-2.ensures c.in_ok-statements.ensures.walk c.in_ok-statements.ensures.meaning c.in_ok-end_process.ensures).0

pub returns-clause-meaning : goal.returns-clause-meaning
returns-clause-meaning c = (process_part c.args.label.now c.args.process.now _ _ c.in_ok-sensitivity.ensures.walk c.in_ok-sensitivity.ensures.meaning c.is_listed.ensures c.in_ok-process.ensures
    c.as_slice.ensures c.in_ok-declarations.ensures.walk c.in_ok-declarations.ensures.meaning c.as_slice-2.ensures c.in_ok-statements.ensures.walk c.in_ok-statements.ensures.meaning c.in_ok-end_process.ensures).1
