use Rattle.std.proofs.Common.{◌≡◌, ℕ, ℤ, pos, ◌+◌, ◌<◌, List, [], ◌∷◌, ◌++◌, length, take, get_or, map, Bool, true, false, Option, Some, None, refl, sym, subst, ◌∙◌, arith, zero, suc, if◌then◌else◌, nat_eq, ◌||◌, eqb-true, length-take}
use Rattle.std.proofs.Math.ListN.{get_or-map}
use Rattle.std.proofs.Math.Bool.{or-false}
use Rattle.std.specs.List.{list_any}
use Rattle.std.specs.Option.{option_map}
use Rattle.std.proofs.lemmas.List.{take_more}
use Rattle.sim_design.specs.declared.Design.{Design}
use Rattle.sim_design.specs.declared.Process.{Process}
use Rattle.sim_design.specs.Design.{is_target, have_own_targets}
use Rattle.sim_waves.specs.Waveform.{Waveform, is_active}
use Rattle.vhpi_kernel.specs.State.{sources, value_of, driving_value, is_sourced, default_at}
use Rattle.vhpi_kernel.specs.Index.{driver_of, noted_at, wave_at, value_by, active_by}

noted_step : (c : Bool) (n : ℕ) → option_map suc (if◌then◌else◌ {A = Option ℕ} c (Some n) None) ≡ if◌then◌else◌ {A = Option ℕ} c (Some (suc n)) None
noted_step true n = refl
noted_step false n = refl

append_step : (b : Bool) (t n net : ℕ) (o : Option ℕ) → if◌then◌else◌ {A = Option ℕ} b (Some zero) (option_map suc (noted_at t n net o)) ≡ noted_at t (suc n) net (if◌then◌else◌ {A = Option ℕ} b (Some zero) (option_map suc o))
append_step true t n net o = refl
append_step false t n net (Some k) = refl
append_step false t n net None = noted_step (nat_eq t net) n

-- one process more notes its net
pub driver-append : (net : ℕ) (xs : List Process) (p : Process) → driver_of net (xs ++ p ∷ []) ≡ noted_at p.target (length xs) net (driver_of net xs)
driver-append net [] p = refl
driver-append net (x ∷ xs) p = rw (driver-append net xs p) (append_step (nat_eq x.target net) p.target (length xs) net (driver_of net xs))

pub driver_more : (net : ℕ) (ps : List Process) (k : ℕ) (d : Process) → k < length ps → driver_of net (take (k + 1) ps) ≡ noted_at (get_or ps k d).target k net (driver_of net (take k ps))
driver_more net ps k d within =
    let size : length (take k ps) ≡ k = omega (arith, length-take k ps) in
    rw (take_more ps k d within, driver-append net (take k ps) (get_or ps k d), size) refl

-- a net that no process assigns to has no source
no_source_by : (b : Bool) (w : Waveform) (ws : List Waveform) (r : Bool) → (b || r) ≡ false → (r ≡ false → ws ≡ []) → if◌then◌else◌ {A = List Waveform} b (w ∷ ws) ws ≡ []
no_source_by true w ws r none rest = cc
no_source_by false w ws r none rest = rest none

pub no_source : (net : ℕ) (ps : List Process) (ws : List Waveform) → is_target net ps ≡ false → sources net ps ws ≡ []
no_source net [] ws none = refl
no_source net (p ∷ ps) [] none = refl
no_source net (p ∷ ps) (w ∷ ws) none = no_source_by (nat_eq p.target net) w (sources net ps ws) (is_target net ps) none (no_source net ps ws)

-- the waveform of the driver of a net is its only source
abbrev source_by : List Waveform → Option ℕ → List Waveform
source_by ws None = []
source_by ws (Some k) = wave_at ws k ∷ []

source_step : (w : Waveform) (ws : List Waveform) (o : Option ℕ) → source_by ws o ≡ source_by (w ∷ ws) (option_map suc o)
source_step w ws None = refl
source_step w ws (Some k) = refl

one_by : (b : Bool) (w : Waveform) (ws rest : List Waveform) (o : Option ℕ) → (b ≡ true → rest ≡ []) → rest ≡ source_by ws o → if◌then◌else◌ {A = List Waveform} b (w ∷ rest) rest ≡ source_by (w ∷ ws) (if◌then◌else◌ {A = Option ℕ} b (Some zero) (option_map suc o))
one_by true w ws rest o none is = rw (none refl) refl
one_by false w ws rest o none is = is ∙ source_step w ws o

own_rest : (b r : Bool) → if◌then◌else◌ {A = Bool} b false r ≡ true → (b ≡ false) × (r ≡ true)
own_rest true r h = cc
own_rest false r h = (refl, h)

pub one_source : (net : ℕ) (ps : List Process) (ws : List Waveform) → have_own_targets ps ≡ true → length ws ≡ length ps → sources net ps ws ≡ source_by ws (driver_of net ps)
one_source net [] ws own size = refl
one_source net (p ∷ ps) [] own size = absurd (omega (arith, size))
one_source net (p ∷ ps) (w ∷ ws) own size =
    let rest : (is_target p.target ps ≡ false) × (have_own_targets ps ≡ true) = own_rest (is_target p.target ps) (have_own_targets ps) own in
    let none : nat_eq p.target net ≡ true → sources net ps ws ≡ [] =
    λ e. no_source net ps ws (subst (λ (n : ℕ). is_target n ps ≡ false) (eqb-true p.target net e) rest.0) in
    one_by (nat_eq p.target net) w ws (sources net ps ws) (driver_of net ps) none (one_source net ps ws rest.1 (omega (arith, size)))

-- so its driving value is the one that the index gives
value_is : (default : ℤ) (ws : List Waveform) (o : Option ℕ) → value_of default (source_by ws o) ≡ value_by default ws o
value_is default ws None = refl
value_is default ws (Some k) = refl

pub driving_is : (d : Design) (ws : List Waveform) (net : ℕ) → have_own_targets d.processes ≡ true → length ws ≡ length d.processes → driving_value d ws net ≡ value_by (default_at d net) ws (driver_of net d.processes)
driving_is d ws net own size = rw (one_source net d.processes ws own size) (value_is (default_at d net) ws (driver_of net d.processes))

sourced_is : (now : ℕ) (ws : List Waveform) (o : Option ℕ) → list_any (is_active now) (source_by ws o) ≡ active_by (map (is_active now) ws) o
sourced_is now ws None = refl
sourced_is now ws (Some k) = or-false (is_active now (wave_at ws k)) ∙ sym (get_or-map (is_active now) ws k (record { current = pos 0; pending = [] }))

pub is_sourced_is : (d : Design) (now : ℕ) (ws : List Waveform) (net : ℕ) → have_own_targets d.processes ≡ true → length ws ≡ length d.processes → is_sourced d now ws net ≡ active_by (map (is_active now) ws) (driver_of net d.processes)
is_sourced_is d now ws net own size = rw (one_source net d.processes ws own size) (sourced_is now ws (driver_of net d.processes))
