-- What a form stands for, and what has to hold of it.
use Rattle.std.specs.Prelude.{ℕ, ◌*◌, ◌^◌, List, [], ◌∷◌, Bool, true, false, ◌&&◌, ◌||◌, suc, ◌==◌, map, Option, Some, None, is_some, unwrap_or, pos, if◌then◌else◌}
use Rattle.std.specs.Option.{option_map}
use Rattle.std.specs.List.{list_all, list_any}
use Rattle.std.specs.Str.{bytes_eq}
use Rattle.sim_design.specs.declared.Net.{Net}
use Rattle.sim_design.specs.declared.Process.{Process}
use Rattle.sim_design.specs.declared.WaveformElement.{WaveformElement}
use Rattle.sim_design.specs.declared.Design.{Design}
use Rattle.sim_design.specs.Design.{is_waveform, have_own_targets}
use Rattle.first_form.specs.declared.form.TimeUnit.{TimeUnit}
use Rattle.first_form.specs.declared.form.TimeUnit.TheVariants.{Femtosecond, Picosecond, Nanosecond, Microsecond, Millisecond, Second, Minute, Hour}
use Rattle.first_form.specs.declared.form.Element.{Element}
use Rattle.first_form.specs.declared.form.Assignment.{Assignment}
use Rattle.first_form.specs.declared.form.Form.{Form}

-- What a form stands for.

abbrev pub femtoseconds_in : TimeUnit → ℕ
femtoseconds_in Femtosecond = 1
femtoseconds_in Picosecond = 10 ^ 3
femtoseconds_in Nanosecond = 10 ^ 6
femtoseconds_in Microsecond = 10 ^ 9
femtoseconds_in Millisecond = 10 ^ 12
femtoseconds_in Second = 10 ^ 15
femtoseconds_in Minute = 60 * 10 ^ 15
femtoseconds_in Hour = 3600 * 10 ^ 15

-- the time of an element, in femtoseconds
abbrev pub delay_of : Element → ℕ
delay_of e = e.number * femtoseconds_in e.unit

-- `'1'` has position 1 of type BIT, `'0'` position 0
abbrev pub transaction_of : Element → WaveformElement
transaction_of e = record { value = if e.literal == 49 then pos 1 else pos 0; delay = delay_of e }

abbrev pub waveform_of : List Element → List WaveformElement
waveform_of es = map transaction_of es

-- the number of the signal of a name, in the order of the text
abbrev pub number_in : List (List ℕ) → List ℕ → Option ℕ
number_in [] name = None
number_in (s ∷ signals) name = if bytes_eq s name then Some 0 else option_map suc (number_in signals name)

abbrev pub net_of : List ℕ → Net
net_of name = record { instance = 0; name = name; default = pos 0 }

abbrev pub process_of : List (List ℕ) → Assignment → Process
process_of signals a =
    record { instance = 0; target = unwrap_or (number_in signals a.target) 0; waveform = waveform_of a.elements }

abbrev pub processes_of : Form → List Process
processes_of f = map (process_of f.signals) f.assignments

-- one instance, a net for each signal, and a process for each assignment
abbrev pub design_of : Form → Design
design_of f = record {
  instances = record { name = f.entity; architecture = f.architecture } ∷ [];
  nets = map net_of f.signals;
  processes = processes_of f;
}

-- What has to hold of a form.

-- no two names are equal
abbrev pub are_distinct : List (List ℕ) → Bool
are_distinct [] = true
are_distinct (s ∷ signals) = if list_any (bytes_eq s) signals then false else are_distinct signals

-- the character is `'0'` or `'1'`
abbrev pub is_bit : Element → Bool
is_bit e = e.literal == 48 || e.literal == 49

-- each character is '0' or '1', and the times ascend strictly and don't pass TIME'HIGH
abbrev pub is_wave : List Element → Bool
is_wave es = list_all is_bit es && is_waveform (waveform_of es)

-- the target is one of the signals, and the waveform is one
abbrev pub is_assignment : List (List ℕ) → Assignment → Bool
is_assignment signals a = is_some (number_in signals a.target) && is_wave a.elements

-- the signals' names differ, each assignment is right, and no signal is the target of two of them
abbrev pub is_right : Form → Bool
is_right f =
    are_distinct f.signals
    && list_all (is_assignment f.signals) f.assignments
    && have_own_targets (processes_of f)
