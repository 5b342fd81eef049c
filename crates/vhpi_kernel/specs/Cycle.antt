use Rattle.std.specs.Prelude.{◌≡◌, ℕ, ◌+◌, List, [], ◌∷◌, ◌++◌, if◌then◌else◌, nat_eq, length, unwrap_or}
use Rattle.sim_design.specs.declared.Design.{Design}
use Rattle.sim_journal.specs.declared.Entry.{Entry}
use Rattle.sim_journal.specs.declared.Entry.TheVariants as entries
use Rattle.vhpi_kernel.specs.State.{State, Next, Update, events, table, driving_value, all_ran}

-- what is done in the initialization (14.7.5.2) and in a simulation cycle (14.7.5.3), step by step
pub data Task : Type 0 where
  -- the initial values of all nets are computed; no net has an event
  ComputeValues : Task
  -- each process runs to its wait
  RunProcesses : Task
  -- time goes on to the next time
  StartCycle : Task
  -- drivers whose next transaction has the time now are active; nets are updated
  UpdateSignals : Task

abbrev pub initialization : List Task
initialization = ComputeValues ∷ RunProcesses ∷ []

-- no process resumes, since each has waited for good since the initialization
abbrev pub cycle : List Task
cycle = StartCycle ∷ UpdateSignals ∷ []

-- time goes on: a delta cycle where the next time is now
abbrev pub moved_to : ℕ → State → State
moved_to time s = record s { now = time; delta = if nat_eq time s.now then s.delta + 1 else 0; cycle = s.cycle + 1 }

abbrev pub moved : State → State
moved s = moved_to (unwrap_or (Next s) s.now) s

-- what a task writes into the journal, and the state after it
abbrev pub Does : Design → Task → State → List Entry → State → Type 0
Does d ComputeValues s es t = (es ≡ []) × (t ≡ record s { values = table (length d.nets) (driving_value d s.waves) })
Does d RunProcesses s es t = (es ≡ []) × (t ≡ record s { waves = all_ran s.now d.processes s.waves })
Does d StartCycle s es t = (es ≡ entries.Time t.now t.delta t.cycle ∷ []) × (t ≡ moved s)
Does d UpdateSignals s es t = (es ≡ events (length d.nets) s.values t.values) × (t ≡ Update d s)

-- one thing and then another: the entries of the first come first
pub record Then (f g : State → List Entry → State → Type 0) (s : State) (es : List Entry) (t : State) : Type 0 where
  pub front : List Entry
  pub back : List Entry
  pub mid : State
  pub whole : es ≡ front ++ back
  pub first : f s front mid
  pub second : g mid back t

abbrev pub Tasks : Design → List Task → State → List Entry → State → Type 0
Tasks d [] s es t = (es ≡ []) × (t ≡ s)
Tasks d (k ∷ ks) s es t = Then (Does d k) (Tasks d ks) s es t

-- the initialization, from the state in which a run begins, and one simulation cycle
abbrev pub Init : Design → State → List Entry → State → Type 0
Init d s es t = Tasks d initialization s es t

abbrev pub Cycle : Design → State → List Entry → State → Type 0
Cycle d s es t = Tasks d cycle s es t
