use Rattle.vhdl_names_checker.specs.Telling.{bounds_here, seen_here}
use Rattle.vhdl_names_checker.proofs.telling.bounds_here.Goals as goal

pub returns : goal.returns
unfolding bounds_here seen_here
returns c = rw (← c.regions.ensures) c.tell_bounds.ensures
