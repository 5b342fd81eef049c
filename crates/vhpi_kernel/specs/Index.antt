use Rattle.std.specs.Prelude.{◌≡◌, ℕ, ℤ, pos, ◌<◌, List, [], ◌∷◌, Bool, false, Option, Some, None, if◌then◌else◌, nat_eq, length, slice_get, slice_index_or, suc, zero, ◌++◌}
use Rattle.std.specs.Option.{option_map}
use Rattle.std.specs.Ordering.{int_eq}
use Rattle.sim_design.specs.declared.Net.{Net}
use Rattle.sim_design.specs.declared.Process.{Process}
use Rattle.sim_journal.specs.declared.Entry.{Entry}
use Rattle.sim_journal.specs.declared.Entry.TheVariants as entries
use Rattle.sim_waves.specs.Waveform.{Waveform}
use Rattle.vhpi_kernel.specs.State.{value_at, default_in}

-- the number of the first driver of a net
abbrev pub driver_of : ℕ → List Process → Option ℕ
driver_of net [] = None
driver_of net (p ∷ ps) = if nat_eq p.target net then Some 0 else option_map suc (driver_of net ps)

-- the driver of a net, after one more is noted for the net `noted`
abbrev pub noted_at : ℕ → ℕ → ℕ → Option ℕ → Option ℕ
noted_at noted number net (Some k) = Some k
noted_at noted number net None = if nat_eq noted net then Some number else None

-- the index has the driver of each net
abbrev pub IsIndex : List (Option ℕ) → ℕ → List Process → Type 0
IsIndex index nets ps = (length index ≡ nets) × ((net : ℕ) → net < nets → slice_index_or index net None ≡ driver_of net ps)

-- the waveform of a driver
abbrev pub wave_at : List Waveform → ℕ → Waveform
wave_at ws k = slice_index_or ws k (record { current = pos 0; pending = [] })

-- the value of a net by the waveform of its driver, or else its default
abbrev pub value_by : ℤ → List Waveform → Option ℕ → ℤ
value_by default ws None = default
value_by default ws (Some k) = (wave_at ws k).current

-- whether the driver of a net is active
abbrev pub active_by : List Bool → Option ℕ → Bool
active_by active None = false
active_by active (Some k) = slice_index_or active k false

-- a driver that there is
abbrev pub IsWithin : Option ℕ → ℕ → Type 0
IsWithin None n = Unit {0}
IsWithin (Some k) n = k < n

-- the value that drives a net, by the index
abbrev pub indexed_value : List Net → List (Option ℕ) → List Waveform → ℕ → ℤ
indexed_value nets index ws net = value_by (default_in (slice_get nets net)) ws (slice_index_or index net None)

-- the new value of a net with this driver: that of the driver if it is active, else the old one
abbrev pub updated_by : Option ℕ → List Bool → List Waveform → List ℤ → ℕ → ℤ
updated_by driver active ws old net = if active_by active driver then value_by (pos 0) ws driver else value_at old net

abbrev pub updated_value_by : List (Option ℕ) → List Bool → List Waveform → List ℤ → ℕ → ℤ
updated_value_by index active ws old net = updated_by (slice_index_or index net None) active ws old net

-- the event of a net that gets a value
abbrev pub event_to : List ℤ → ℕ → ℤ → List Entry
event_to old net value = if int_eq (value_at old net) value then [] else entries.Event net value ∷ []

-- the events of the nets before n, where each gets the value f of its number
abbrev pub events_by : ℕ → List ℤ → (ℕ → ℤ) → List Entry
events_by zero old f = []
events_by (suc n) old f = events_by n old f ++ event_to old n (f n)
