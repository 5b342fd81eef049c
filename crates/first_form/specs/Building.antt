-- What the functions that test a form and build its design give.
use Rattle.std.specs.Prelude.{◌≡◌, ℕ, List, Bool, true, false, ◌&&◌, nat_le, map, Option, Some, None, Result, Ok, Err, is_some, if◌then◌else◌}
use Rattle.std.specs.Borrow.{Bor}
use Rattle.std.specs.Ordering.{nat_cmp}
use Rattle.std.specs.List.{list_all}
use Rattle.std.specs.Str.{bytes_eq}
use Rattle.std.specs.Cmp.Lexicographic.{slice_cmp}
use Rattle.std.specs.BTreeMap.{BTreeMap, get_by}
use Rattle.sim_design.specs.declared.Process.{Process}
use Rattle.sim_design.specs.declared.WaveformElement.{WaveformElement}
use Rattle.sim_design.specs.declared.Design.{Design}
use Rattle.sim_design.specs.Design.{time_high, have_own_targets}
use Rattle.first_form.specs.declared.fault.FormError.{FormError}
use Rattle.first_form.specs.declared.fault.FormError.TheVariants.{NotBuilt, NoMemory}
use Rattle.first_form.specs.declared.form.Element.{Element}
use Rattle.first_form.specs.declared.form.Assignment.{Assignment}
use Rattle.first_form.specs.declared.form.Form.{Form}
use Rattle.first_form.specs.Form.{number_in, delay_of, transaction_of, waveform_of, process_of, design_of, are_distinct, is_bit, is_wave, is_assignment, is_right}

-- the numbers of signals by their names
abbrev pub Numbers : Type 0
Numbers = BTreeMap (Bor (List ℕ)) ℕ

abbrev pub number_at : Numbers → List ℕ → Option ℕ
number_at numbers name = get_by (λ k. slice_cmp nat_cmp name k.now) numbers

-- a name that had no number has this one, and no other name's number changes
abbrev pub AddsNumber : Result (Unit {0}) FormError → Numbers → List ℕ → ℕ → Numbers → Type 0
AddsNumber (Ok _) old name number new =
    (number_at old name ≡ None) × ((q : List ℕ) → number_at new q ≡ (if bytes_eq name q then Some number else number_at old q))
AddsNumber (Err NotBuilt) old name number new = is_some (number_at old name) ≡ true
AddsNumber (Err NoMemory) old name number new = Unit {0}

-- the numbers are those of the signals, which have different names
abbrev pub AreNumbered : Result Numbers FormError → List (List ℕ) → Type 0
AreNumbered (Ok numbers) signals = (are_distinct signals ≡ true) × ((q : List ℕ) → number_at numbers q ≡ number_in signals q)
AreNumbered (Err NotBuilt) signals = are_distinct signals ≡ false
AreNumbered (Err NoMemory) signals = Unit {0}

abbrev pub is_transaction : Element → Bool
is_transaction e = is_bit e && nat_le (delay_of e) time_high

abbrev pub transaction_from : Element → Option WaveformElement
transaction_from e = if is_transaction e then Some (transaction_of e) else None

abbrev pub waveform_from : List Element → Option (List WaveformElement)
waveform_from es = if is_wave es then Some (waveform_of es) else None

abbrev pub process_with : Option ℕ → Assignment → Option Process
process_with None a = None
process_with (Some number) a =
    if is_wave a.elements then Some (record { instance = 0; target = number; waveform = waveform_of a.elements }) else None

abbrev pub processes_from : List (List ℕ) → List Assignment → Option (List Process)
processes_from signals as' =
    if list_all (is_assignment signals) as' && have_own_targets (map (process_of signals) as')
    then Some (map (process_of signals) as') else None

abbrev pub design_from : Form → Option Design
design_from f = if is_right f then Some (design_of f) else None
