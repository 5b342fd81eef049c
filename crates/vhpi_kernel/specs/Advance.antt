use Rattle.std.specs.Prelude.{◌≡◌, Some, ◌⊎◌}
use Rattle.sim_journal.specs.declared.End.{End}
use Rattle.vhpi_kernel.specs.Simulation.{Simulation, SectionDone, EndReached}
use Rattle.vhpi_kernel.specs.declared.Step.{Step}
use Rattle.vhpi_kernel.specs.declared.Step.TheVariants as steps

-- the run had ended before, and nothing changes
pub record HasEnded (old new : Simulation) (end : End) : Type 0 where
  pub before : old.ended ≡ Some end
  pub same : new ≡ old

-- what a step is: a section is done, or the run has ended
abbrev pub Advances : Step → Simulation → Simulation → Type 0
Advances steps.CycleEnd old new = SectionDone old new
Advances (steps.Ended end) old new = EndReached old new end ⊎ HasEnded old new end
