use Rattle.vhdl_names_overloads.proofs.Together.{shared_among}
use Rattle.vhdl_names_overloads.proofs.types.Types.shared.Goals as goal

pub returns-in-Some-Some : goal.returns-in-Some-Some
returns-in-Some-Some c = shared_among _ _ _ _ _ c.in-Some-Some.ensures c.in-Some-Some.ensures' c.shared_literals.ensures
