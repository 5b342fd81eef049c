use Rattle.std.specs.Prelude.{◌≡◌, List, [], ◌++◌, Option, Some, None, Bool, false, ◌∷◌, ℕ, ◌+◌, ◌-◌, length}
use Rattle.sim_design.specs.declared.Design.{Design}
use Rattle.sim_journal.specs.declared.Entry.{Entry}
use Rattle.sim_journal.specs.declared.Entry.TheVariants as entries
use Rattle.sim_journal.specs.declared.End.{End}
use Rattle.vhpi_kernel.specs.State.{State, first_state}
use Rattle.vhpi_kernel.specs.Cycle.{Task, Tasks, cycle, initialization}
use Rattle.vhpi_kernel.specs.declared.Plan.{Plan}
use Rattle.vhpi_kernel.specs.Run.{IsLeft, end_at}

-- a run under way: its design and plan, the state, the entries that were not yet taken from the
-- journal, what is left of the section, the end if it has ended, and whether it met want of memory
pub record Simulation : Type 0 where
  pub design : Design
  pub plan : Plan
  pub state : State
  pub journal : List Entry
  pub tasks : List Task
  pub ended : Option End
  pub failed : Bool

-- a run that begins
abbrev pub first_simulation : Design → Plan → Simulation
first_simulation d plan = record { design = d; plan = plan; state = first_state d; journal = []; tasks = initialization; ended = None; failed = false }

-- the same design is run under the same plan
abbrev pub IsOfSameRun : Simulation → Simulation → Type 0
IsOfSameRun old new = (new.design ≡ old.design) × (new.plan ≡ old.plan)

-- the entries that are still to come, with the end
abbrev pub left_by : Option End → Simulation → List Entry → End → Type 0
left_by (Some e) w es end = (es ≡ []) × (end ≡ e)
left_by None w es end = IsLeft w.design w.plan w.tasks w.state es end

abbrev pub Left : Simulation → List Entry → End → Type 0
Left w es end = left_by w.ended w es end

-- the new simulation goes on from the old one with these entries: whatever may come after the new one
-- may come, after these entries, after the old one
abbrev pub Extends : Simulation → List Entry → Simulation → Type 0
Extends old added new = (es : List Entry) (end : End) → Left new es end → Left old (added ++ es) end

-- the tasks of the section that is under way or, between sections, of the cycle that follows
abbrev pub section : List Task → List Task
section [] = cycle
section (k ∷ ks) = k ∷ ks

-- what is left of the section, or the next cycle where no end applies, is done
pub record SectionDone (old new : Simulation) : Type 0 where
  pub running : old.ended ≡ None
  pub goes_on : old.tasks ≡ [] → end_at old.plan old.state ≡ None
  pub added : List Entry
  pub done : Tasks old.design (section old.tasks) old.state added new.state
  pub after : new ≡ record old { state = new.state; journal = old.journal ++ added; tasks = [] }

-- an end applied between two sections
pub record EndReached (old new : Simulation) (end : End) : Type 0 where
  pub running : old.ended ≡ None
  pub between : old.tasks ≡ []
  pub applies : end_at old.plan old.state ≡ Some end
  pub after : new ≡ record old { journal = old.journal ++ entries.Ended end ∷ []; ended = Some end }

-- how many sections are still to come at the most
abbrev pub sections_left : Simulation → ℕ
sections_left w = (w.plan.limit - w.state.cycle) + length w.tasks
