use Rattle.vhdl_names_operators.proofs.Sole.{common_one}
use Rattle.vhdl_names_operators.proofs.places.one_shared.Goals as goal

pub returns-in-Nothing : goal.returns-in-Nothing
returns-in-Nothing c types others h = common_one types others _ _ h c.in-Nothing.is

pub returns-in-One : goal.returns-in-One
returns-in-One c types others h = common_one types others _ _ h c.in-One.is

pub returns-in-Several : goal.returns-in-Several
returns-in-Several c types others h = common_one types others _ _ h c.in-Several.is
