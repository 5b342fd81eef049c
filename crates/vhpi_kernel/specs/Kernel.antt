use Rattle.std.specs.Prelude.{◌≡◌, ◌≤◌, ℕ, ℤ, List, [], Bool, true, false, Option, length}
use Rattle.sim_design.specs.declared.Design.{Design}
use Rattle.sim_design.specs.Design.{IsSound, IsNumbered}
use Rattle.sim_waves.specs.Waveform.{Waveform}
use Rattle.sim_journal.specs.declared.Entry.{Entry}
use Rattle.sim_journal.specs.declared.Entry.TheVariants as entries
use Rattle.vhpi_kernel.specs.State.{State}
use Rattle.vhpi_kernel.specs.Cycle.{Task, initialization}
use Rattle.vhpi_kernel.specs.Index.{IsIndex}

-- what is left of the section between two calls: the initialization, where it isn't done
abbrev pub tasks_left : Bool → List Task
tasks_left true = []
tasks_left false = initialization

-- the waveforms are those of the design's drivers, and the index has the driver of each net
pub record IsWired (d : Design) (index : List (Option ℕ)) (waves : List Waveform) : Type 0 where
  pub sound : IsSound d
  pub numbered : IsNumbered d
  pub waves_len : length waves ≡ length d.processes
  pub drivers : IsIndex index (length d.nets) d.processes

-- what holds of a kernel's fields between two calls
pub record IsReady (d : Design) (now delta cycle : ℕ) (values : List ℤ) (waves : List Waveform) (index : List (Option ℕ)) (begun : Bool) : Type 0 where
  pub wired : IsWired d index waves
  pub values_len : length values ≡ length d.nets
  pub deltas : delta ≤ cycle
  pub first : begun ≡ false → now ≡ 0

-- the entry of a cycle that begins
abbrev pub time_entry : State → Entry
time_entry s = entries.Time s.now s.delta s.cycle
