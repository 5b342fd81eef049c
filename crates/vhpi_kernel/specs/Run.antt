use Rattle.std.specs.Prelude.{◌≡◌, ℕ, List, [], ◌∷◌, ◌++◌, Option, Some, None, if◌then◌else◌, nat_le, zero, suc}
use Rattle.sim_design.specs.declared.Design.{Design}
use Rattle.sim_journal.specs.declared.Entry.{Entry}
use Rattle.sim_journal.specs.declared.Entry.TheVariants as entries
use Rattle.sim_journal.specs.declared.End.{End}
use Rattle.sim_journal.specs.declared.End.TheVariants as ends
use Rattle.vhpi_kernel.specs.declared.Plan.{Plan}
use Rattle.vhpi_kernel.specs.State.{State, Next, first_state}
use Rattle.vhpi_kernel.specs.Cycle.{Task, Tasks, Cycle, Init}

-- the end that applies between two cycles, if one does; the first of them in this order
abbrev pub end_by : Plan → State → Option ℕ → Option End
end_by plan s None = Some (ends.Quiet s.now s.cycle)
end_by plan s (Some next) = if nat_le plan.limit s.cycle then Some (ends.CycleLimit s.now s.cycle) else None

abbrev pub end_at : Plan → State → Option End
end_at plan s = end_by plan s (Next s)

-- some steps that lead to a state, and then the rest of a run
pub record Leads (steps : State → List Entry → State → Type 0) (rest : State → List Entry → Type 0) (s : State) (es : List Entry) : Type 0 where
  pub front : List Entry
  pub back : List Entry
  pub mid : State
  pub whole : es ≡ front ++ back
  pub first : steps s front mid
  pub last : rest mid back

-- the rest of a run that has n cycles more: the end entry where an end applies, else one cycle and so on
abbrev pub RestIn : Design → Plan → ℕ → State → List Entry → End → Type 0
RestIn d plan zero s es end = (end_at plan s ≡ Some end) × (es ≡ entries.Ended end ∷ [])
RestIn d plan (suc n) s es end = (end_at plan s ≡ None) × Leads (Cycle d) (λ t fs. RestIn d plan n t fs end) s es

-- the rest of a run from a state between two cycles
abbrev pub IsRest : Design → Plan → State → List Entry → End → Type 0
IsRest d plan s es end = (n : ℕ) × RestIn d plan n s es end

-- what is left of a section, and the rest of the run
abbrev pub IsLeft : Design → Plan → List Task → State → List Entry → End → Type 0
IsLeft d plan ks s es end = Leads (Tasks d ks) (λ t fs. IsRest d plan t fs end) s es

-- a whole run of a design writes these entries and ends so: the initialization, and then cycles
abbrev pub IsRun : Design → Plan → List Entry → End → Type 0
IsRun d plan es end = Leads (Init d) (λ t fs. IsRest d plan t fs end) (first_state d) es

-- the entries are the first ones of a run
abbrev pub Part : Design → Plan → List Entry → Type 0
Part d plan es = (more : List Entry) × (end : End) × IsRun d plan (es ++ more) end
