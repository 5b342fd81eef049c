use Rattle.std.proofs.Common.{◌≡◌, ℕ, ℤ, pos, ◌<◌, List, [], ◌∷◌, length, map, Bool, true, false, Option, Some, None, refl, sym, ap, subst, ◌∙◌, arith, zero, suc, if◌then◌else◌, nat_eq, nat_lt, ◌&&◌, slice_index_or}
use Rattle.std.proofs.lemmas.Bool.{and_parts}
use Rattle.std.proofs.lemmas.List.{length-map}
use Rattle.std.specs.List.{list_all}
use Rattle.std.specs.Option.{option_map}
use Rattle.sim_design.specs.declared.Design.{Design}
use Rattle.sim_design.specs.declared.Process.{Process}
use Rattle.sim_design.specs.Design.{has_root, is_net, is_process, is_waveform, have_bit_positions, have_own_targets, IsSound}
use Rattle.sim_waves.specs.Waveform.{Waveform, is_active, at_time}
use Rattle.vhpi_kernel.specs.State.{table, driving_value, updated_value, default_at, value_at, events}
use Rattle.vhpi_kernel.specs.Index.{driver_of, IsWithin, value_by, active_by, indexed_value, updated_value_by, events_by}
use Rattle.vhpi_kernel.specs.Kernel.{IsWired}
use Rattle.vhpi_kernel.proofs.Sources.{driving_is, is_sourced_is}
use Rattle.vhpi_kernel.proofs.Tables.{same_table, same_events}

pub own_targets : (d : Design) → IsSound d → have_own_targets d.processes ≡ true
own_targets d sound = (and_parts _ (have_own_targets d.processes) sound).1

waveforms_of : (instances nets : ℕ) (ps : List Process) → list_all (is_process instances nets) ps ≡ true → list_all (λ p. is_waveform p.waveform) ps ≡ true
waveforms_of instances nets [] h = refl
waveforms_of instances nets (p ∷ ps) h =
    let parts : (is_process instances nets p ≡ true) × (list_all (is_process instances nets) ps ≡ true) = and_parts _ _ h in
    let places : (nat_lt p.instance instances && nat_lt p.target nets && is_waveform p.waveform) ≡ true = (and_parts _ (have_bit_positions p.waveform) parts.0).0 in
    let waveform : is_waveform p.waveform ≡ true = (and_parts (nat_lt p.instance instances && nat_lt p.target nets) (is_waveform p.waveform) places).1 in
    rw (waveform, waveforms_of instances nets ps parts.1) refl

pub waveforms : (d : Design) → IsSound d → list_all (λ p. is_waveform p.waveform) d.processes ≡ true
waveforms d sound =
    let front : _ ≡ true = (and_parts _ (have_own_targets d.processes) sound).0 in
    waveforms_of (length d.instances) (length d.nets) d.processes (and_parts (has_root d && list_all (is_net (length d.instances)) d.nets) (list_all (is_process (length d.instances) (length d.nets)) d.processes) front).1

-- the driver of a net is one of the drivers
within_suc : (o : Option ℕ) (n : ℕ) → IsWithin o n → IsWithin (option_map suc o) (suc n)
within_suc None n h = tt
within_suc (Some k) n h = omega arith

within_by : (b : Bool) (o : Option ℕ) (n : ℕ) → IsWithin o n → IsWithin (if◌then◌else◌ {A = Option ℕ} b (Some zero) (option_map suc o)) (suc n)
within_by true o n h = omega arith
within_by false o n h = within_suc o n h

driver_within : (net : ℕ) (ps : List Process) → IsWithin (driver_of net ps) (length ps)
driver_within net [] = tt
driver_within net (p ∷ ps) = within_by (nat_eq p.target net) (driver_of net ps) (length ps) (driver_within net ps)

pub drivers_within : (d : Design) (index : List (Option ℕ)) (waves : List Waveform) (nets size : ℕ) → IsWired d index waves → nets ≡ length d.nets → size ≡ length waves → (e : ℕ) → e < nets → IsWithin (slice_index_or index e None) size
drivers_within d index waves nets size wired is count =
    λ e inside.
    let here : e < length d.nets = omega (arith, is) in
    let driver : slice_index_or index e None ≡ driver_of e d.processes = wired.drivers.1 e here in
    let total : length d.processes ≡ size = sym (count ∙ wired.waves_len) in
    rw driver (subst (λ (n : ℕ). IsWithin (driver_of e d.processes) n) total (driver_within e d.processes))

-- the values that the index gives are those that the sources give
pub driving_same : (d : Design) (index : List (Option ℕ)) (waves : List Waveform) → IsWired d index waves → table (length d.nets) (indexed_value d.nets index waves) ≡ table (length d.nets) (driving_value d waves)
driving_same d index waves wired =
    same_table (length d.nets) (indexed_value d.nets index waves) (driving_value d waves)
    (λ e inside. ap (value_by (default_at d e) waves) (wired.drivers.1 e inside) ∙ sym (driving_is d waves e (own_targets d wired.sound) wired.waves_len))

chosen : (active : List Bool) (ws : List Waveform) (o : Option ℕ) (a b v : ℤ) → if◌then◌else◌ {A = ℤ} (active_by active o) (value_by a ws o) v ≡ if◌then◌else◌ {A = ℤ} (active_by active o) (value_by b ws o) v
chosen active ws None a b v = refl
chosen active ws (Some k) a b v = refl

updated_at : (d : Design) (now : ℕ) (index : List (Option ℕ)) (waves : List Waveform) (old : List ℤ) → IsWired d index waves → (e : ℕ) → e < length d.nets → updated_value_by index (map (is_active now) waves) (map (at_time now) waves) old e ≡ updated_value d now old waves e
updated_at d now index waves old wired e inside =
    let own : have_own_targets d.processes ≡ true = own_targets d wired.sound in
    let driver : slice_index_or index e None ≡ driver_of e d.processes = wired.drivers.1 e inside in
    let size : length (map (at_time now) waves) ≡ length d.processes = length-map waves (at_time now) ∙ wired.waves_len in
    rw (driver, is_sourced_is d now waves e own wired.waves_len, driving_is d (map (at_time now) waves) e own size)
    (chosen (map (is_active now) waves) (map (at_time now) waves) (driver_of e d.processes) (pos 0) (default_at d e) (value_at old e))

pub updated_same : (d : Design) (now : ℕ) (index : List (Option ℕ)) (waves next : List Waveform) (active : List Bool) (old : List ℤ) → IsWired d index waves → next ≡ map (at_time now) waves → active ≡ map (is_active now) waves → length old ≡ length d.nets → table (length old) (updated_value_by index active next old) ≡ table (length d.nets) (updated_value d now old waves)
updated_same d now index waves next active old wired is acts size =
    rw (is, acts, size) (same_table (length d.nets) (updated_value_by index (map (is_active now) waves) (map (at_time now) waves) old) (updated_value d now old waves) (updated_at d now index waves old wired))

pub events_same : (n m : ℕ) (old new : List ℤ) (f : ℕ → ℤ) → n ≡ m → new ≡ table n f → events_by n old f ≡ events m old new
events_same n m old new f is values = rw (values, ← is) (same_events n n old f (omega arith))
