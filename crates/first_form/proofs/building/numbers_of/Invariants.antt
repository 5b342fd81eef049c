use Rattle.std.proofs.Common.{take, Ok}
use Rattle.first_form.specs.Building.{AreNumbered}
use Rattle.first_form.proofs.building.numbers_of.Given as goal

abbrev pub invariant-loop-number : goal.invariant-loop-number
invariant-loop-number l = AreNumbered (Ok l.numbers) (take l.number l.signals)
