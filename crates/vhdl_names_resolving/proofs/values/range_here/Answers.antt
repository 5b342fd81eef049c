use Rattle.vhdl_names_checker.specs.Telling.{seen_here}
use Rattle.vhdl_names_resolving.specs.Values.{range_here}
use Rattle.vhdl_names_resolving.proofs.values.range_here.Goals as goal

pub returns : goal.returns
unfolding range_here seen_here
returns c = rw (← c.regions.ensures) c.range_candidate.ensures
