use Rattle.std.specs.Prelude.{ℕ, ℤ, pos, ◌-◌, ◌^◌, ◌<◌, List, [], ◌∷◌, ◌++◌, Bool, true, false, ◌&&◌, ◌||◌, nat_lt, nat_le, nat_eq, length, IsTrue, codes, slice_get, Some, None, Option, if◌then◌else◌}
use Rattle.std.specs.List.{list_all, list_any}
use Rattle.std.specs.Ordering.{int_eq}
use Rattle.sim_design.specs.declared.Instance.{Instance}
use Rattle.sim_design.specs.declared.Net.{Net}
use Rattle.sim_design.specs.declared.Process.{Process}
use Rattle.sim_design.specs.declared.WaveformElement.{WaveformElement}
use Rattle.sim_design.specs.declared.Design.{Design}

-- TIME'HIGH, in femtoseconds
abbrev pub time_high : ℕ
time_high = 2 ^ 63 - 1

-- the delays ascend strictly from `above` on
abbrev pub ascends_above : ℕ → List WaveformElement → Bool
ascends_above above [] = true
ascends_above above (e ∷ es) = nat_lt above e.delay && ascends_above e.delay es

-- a waveform has an element, and its delays ascend strictly (10.5.2.2)
abbrev pub is_ascending : List WaveformElement → Bool
is_ascending [] = false
is_ascending (e ∷ es) = ascends_above e.delay es

-- a delay that doesn't pass TIME'HIGH
abbrev pub is_in_time : WaveformElement → Bool
is_in_time e = nat_le e.delay time_high

-- a waveform: its delays ascend strictly, and none of them passes TIME'HIGH
abbrev pub is_waveform : List WaveformElement → Bool
is_waveform es = is_ascending es && list_all is_in_time es

-- a value of type BIT: the position of `'0'` or that of `'1'`
abbrev pub is_bit_position : ℤ → Bool
is_bit_position value = int_eq value (pos 0) || int_eq value (pos 1)

-- each value of a waveform is one of type BIT
abbrev pub have_bit_positions : List WaveformElement → Bool
have_bit_positions es = list_all (λ e. is_bit_position e.value) es

-- the net names an instance that is there, and its default is a value of its type
abbrev pub is_net : ℕ → Net → Bool
is_net instances n = nat_lt n.instance instances && is_bit_position n.default

-- one of the processes assigns to the net
abbrev pub is_target : ℕ → List Process → Bool
is_target net ps = list_any (λ p. nat_eq p.target net) ps

-- no two processes assign to one net: BIT is unresolved, so a net has at most one source (14.7.3.2)
abbrev pub have_own_targets : List Process → Bool
have_own_targets [] = true
have_own_targets (p ∷ ps) = if (is_target p.target ps) then false else have_own_targets ps

-- the process names what is there, and assigns a waveform of values of the target's type
abbrev pub is_process : ℕ → ℕ → Process → Bool
is_process instances nets p =
    nat_lt p.instance instances && nat_lt p.target nets && is_waveform p.waveform && have_bit_positions p.waveform

-- there is a root, the first instance
abbrev pub has_root : Design → Bool
has_root d = nat_lt 0 (length d.instances)

-- what holds of every elaborated design: it has a root, places are in range, waveforms are waveforms,
-- each value is one of its type, and an unresolved net has at most one source
abbrev pub is_sound : Design → Bool
is_sound d =
    has_root d
    && list_all (is_net (length d.instances)) d.nets
    && list_all (is_process (length d.instances) (length d.nets)) d.processes
    && have_own_targets d.processes

abbrev pub IsSound : Design → Type 0
IsSound d = IsTrue (is_sound d)

-- nets and processes can be numbered with 32 bits
pub record IsNumbered (d : Design) : Type 0 where
  pub nets : length d.nets < 2 ^ 32
  pub processes : length d.processes < 2 ^ 32

-- the full name of an instance: `:` and its name, since the root is the only one
abbrev pub name_under_root : Option Instance → List ℕ
name_under_root (Some i) = codes ":" ++ i.name
name_under_root None = []

abbrev pub instance_name : Design → ℕ → List ℕ
instance_name d i = name_under_root (slice_get d.instances i)

-- the full name of a net: that of its instance, `:` and its own
abbrev pub name_in : Design → Option Net → List ℕ
name_in d (Some n) = instance_name d n.instance ++ (codes ":" ++ n.name)
name_in d None = []

abbrev pub net_name : Design → ℕ → List ℕ
net_name d e = name_in d (slice_get d.nets e)
