use Rattle.std.proofs.Common.{refl}
use Rattle.vhdl_names_scope.specs.Standard.{before, characters, behind, standard}
use Rattle.vhdl_names_scope.proofs.predefined.standard_numbers.Goals as goal

pub returns : goal.returns
unfolding standard before characters behind
returns c = refl
