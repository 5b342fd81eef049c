use Rattle.vhdl_names.proofs.Wholes.{architecture_part}
use Rattle.vhdl_names.proofs.units.check_architecture.Goals as goal

pub returns-clause-walk : goal.returns-clause-walk
returns-clause-walk c = (architecture_part c.args.text.now c.args.architecture.now _ _ c.in_ok-name.ensures c.in_ok-entity.ensures c.is_bare.ensures c.in_ok-architecture.ensures
    c.as_slice.ensures c.in_ok-declarations.ensures.walk c.in_ok-declarations.ensures.meaning c.as_slice-2.ensures c.in_ok-statements.ensures.walk c.in_ok-statements.ensures.meaning c.in_ok-end_architecture.ensures).0

pub returns-clause-meaning : goal.returns-clause-meaning
returns-clause-meaning c = (architecture_part c.args.text.now c.args.architecture.now _ _ c.in_ok-name.ensures c.in_ok-entity.ensures c.is_bare.ensures c.in_ok-architecture.ensures
    c.as_slice.ensures c.in_ok-declarations.ensures.walk c.in_ok-declarations.ensures.meaning c.as_slice-2.ensures c.in_ok-statements.ensures.walk c.in_ok-statements.ensures.meaning c.in_ok-end_architecture.ensures).1
