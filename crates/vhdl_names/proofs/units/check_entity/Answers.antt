use Rattle.vhdl_names.proofs.Wholes.{entity_part}
use Rattle.vhdl_names.proofs.units.check_entity.Goals as goal

pub returns-clause-walk : goal.returns-clause-walk
returns-clause-walk c = (entity_part c.args.entity.now _ c.in_ok-name.ensures c.in_ok-entity.ensures c.as_slice.ensures c.in_ok-generics.ensures.walk c.in_ok-generics.ensures.meaning
    c.as_slice-2.ensures c.in_ok-ports.ensures.walk c.in_ok-ports.ensures.meaning c.in_ok-end_entity.ensures).0

pub returns-clause-meaning : goal.returns-clause-meaning
returns-clause-meaning c = (entity_part c.args.entity.now _ c.in_ok-name.ensures c.in_ok-entity.ensures c.as_slice.ensures c.in_ok-generics.ensures.walk c.in_ok-generics.ensures.meaning
    c.as_slice-2.ensures c.in_ok-ports.ensures.walk c.in_ok-ports.ensures.meaning c.in_ok-end_entity.ensures).1
