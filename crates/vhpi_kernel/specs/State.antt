use Rattle.std.specs.Prelude.{ℕ, ℤ, pos, ◌+◌, List, [], ◌∷◌, ◌++◌, Bool, Option, Some, None, if◌then◌else◌, map, min, nat_eq, length, slice_get, slice_index_or, zero, suc}
use Rattle.std.specs.List.{list_any}
use Rattle.std.specs.Ordering.{int_eq}
use Rattle.sim_design.specs.declared.Design.{Design}
use Rattle.sim_design.specs.declared.Net.{Net}
use Rattle.sim_design.specs.declared.Process.{Process}
use Rattle.sim_design.specs.declared.WaveformElement.{WaveformElement}
use Rattle.vhpi_values.specs.declared.driving.Transaction.{Transaction}
use Rattle.vhpi_values.specs.declared.driving.DelayMode.TheVariants as mode
use Rattle.sim_waves.specs.Waveform.{Waveform, Assign, is_active, at_time, first_time}
use Rattle.sim_journal.specs.declared.Entry.{Entry}
use Rattle.sim_journal.specs.declared.Entry.TheVariants as entries

-- the state of a simulation: the time now, how many delta cycles there were at this time, the
-- number of the cycle, the current value of each net, and the waveform of each driver
pub record State : Type 0 where
  pub now : ℕ
  pub delta : ℕ
  pub cycle : ℕ
  pub values : List ℤ
  pub waves : List Waveform

-- the sooner of two times; none is later than every time
abbrev pub sooner : Option ℕ → Option ℕ → Option ℕ
sooner None b = b
sooner (Some a) None = Some a
sooner (Some a) (Some b) = Some (min a b)

abbrev pub next_of : List Waveform → Option ℕ
next_of [] = None
next_of (w ∷ ws) = sooner (first_time w.pending) (next_of ws)

-- the next time (14.7.5.3): the least time of a pending transaction, if there is one
abbrev pub Next : State → Option ℕ
Next s = next_of s.waves

-- the sources of a net (14.7.3.2): the waveforms of the drivers that have it as target, by number
abbrev pub sources : ℕ → List Process → List Waveform → List Waveform
sources net [] ws = []
sources net (p ∷ ps) [] = []
sources net (p ∷ ps) (w ∷ ws) = if nat_eq p.target net then w ∷ sources net ps ws else sources net ps ws

-- the value that the sources give: the default where there is none, and that of one unchanged;
-- BIT is unresolved, so there are no others
abbrev pub value_of : ℤ → List Waveform → ℤ
value_of default [] = default
value_of default (w ∷ ws) = w.current

abbrev pub default_in : Option Net → ℤ
default_in (Some n) = n.default
default_in None = pos 0

-- the default value of a net, and its driving value by the waveforms as they are
abbrev pub default_at : Design → ℕ → ℤ
default_at d net = default_in (slice_get d.nets net)

abbrev pub driving_value : Design → List Waveform → ℕ → ℤ
driving_value d ws net = value_of (default_at d net) (sources net d.processes ws)

-- one of the sources of the net is active now
abbrev pub is_sourced : Design → ℕ → List Waveform → ℕ → Bool
is_sourced d now ws net = list_any (is_active now) (sources net d.processes ws)

-- f 0, f 1 and so on, n of them
abbrev pub table : {A : Type 0} → ℕ → (ℕ → A) → List A
table zero f = []
table (suc n) f = table n f ++ f n ∷ []

-- the value of a net
abbrev pub value_at : List ℤ → ℕ → ℤ
value_at vs net = slice_index_or vs net (pos 0)

-- the new value of a net (14.7.3): its driving value where a source is active now, else the old one
abbrev pub updated_value : Design → ℕ → List ℤ → List Waveform → ℕ → ℤ
updated_value d now values ws net =
    if is_sourced d now ws net then driving_value d (map (at_time now) ws) net else value_at values net

-- the state after the update of all drivers and nets
abbrev pub Update : Design → State → State
Update d s = record s { values = table (length d.nets) (updated_value d s.now s.values s.waves); waves = map (at_time s.now) s.waves }

-- the net has an event (14.7.3.1): its value changes; the entry that says so
abbrev pub event_of : List ℤ → List ℤ → ℕ → List Entry
event_of old new net = if int_eq (value_at old net) (value_at new net) then [] else entries.Event net (value_at new net) ∷ []

-- the entries of the nets before `n` that have an event, by number
abbrev pub events : ℕ → List ℤ → List ℤ → List Entry
events zero old new = []
events (suc n) old new = events n old new ++ event_of old new n

-- a transaction of an assignment that is made now
abbrev pub transaction : ℕ → WaveformElement → Transaction
transaction now e = record { value = e.value; time = now + e.delay }

-- the first delay of a waveform, the rejection limit of an assignment that names none (10.5.2.1)
abbrev pub first_delay : List WaveformElement → ℕ
first_delay [] = 0
first_delay (e ∷ es) = e.delay

-- the process runs to its wait: it assigns its waveform with inertial delay
abbrev pub ran : ℕ → Process → Waveform → Waveform
ran now p w = Assign mode.Inertial (first_delay p.waveform) (map (transaction now) p.waveform) w

abbrev pub all_ran : ℕ → List Process → List Waveform → List Waveform
all_ran now [] ws = []
all_ran now (p ∷ ps) [] = []
all_ran now (p ∷ ps) (w ∷ ws) = ran now p w ∷ all_ran now ps ws

-- the driver of a process before it has run: the default of its net, and nothing to come
abbrev pub first_wave : Design → Process → Waveform
first_wave d p = record { current = default_at d p.target; pending = [] }

-- the state in which a run begins
abbrev pub first_state : Design → State
first_state d = record { now = 0; delta = 0; cycle = 0; values = map (λ n. n.default) d.nets; waves = map (first_wave d) d.processes }
