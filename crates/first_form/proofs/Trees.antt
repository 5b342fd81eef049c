-- What follows for every tree of the first form.
use Rattle.std.proofs.Common.{◌≡◌, ℕ, Bool, true, false, cond, ◌&&◌, nat_lt, pos, if◌then◌else◌, ◌==◌, List, [], ◌∷◌, Option, Some, None, Result, Ok, Err, IfOk, is_some, unwrap_or, length, map, refl, sym, ap, ◌∙◌, subst, arith}
use Rattle.std.proofs.lemmas.Bool.{and_parts, and_from, lt-ltb}
use Rattle.std.proofs.lemmas.Option.{same_Some, none-some, cond_some}
use Rattle.std.proofs.lemmas.List.{length-map}
use Rattle.std.specs.List.{list_all}
use Rattle.vhdl_tree.specs.declared.units.DesignFile.{DesignFile}
use Rattle.sim_design.specs.declared.Design.{Design}
use Rattle.sim_design.specs.Design.{IsSound, is_bit_position, have_bit_positions, is_net, is_process, is_waveform, have_own_targets}
use Rattle.first_form.specs.declared.fault.FormError.{FormError}
use Rattle.first_form.specs.declared.fault.FormError.TheVariants.{NotBuilt, NoMemory}
use Rattle.first_form.specs.declared.form.Element.{Element}
use Rattle.first_form.specs.declared.form.Assignment.{Assignment}
use Rattle.first_form.specs.declared.form.Form.{Form}
use Rattle.first_form.specs.Form.{is_right, design_of, net_of, process_of, processes_of, number_in, is_assignment, is_wave, is_bit, waveform_of, are_distinct}
use Rattle.first_form.specs.Answers.{Fails, Gives}
use Rattle.first_form.specs.Reading.{form_in}
use Rattle.first_form.specs.Building.{design_from}
use Rattle.first_form.specs.FirstForm.{IsForm, HasNoDesign, IsReading}
use Rattle.first_form.proofs.Names.{number_in-within}

-- a tree is of the first form with one design at most
pub form_only : (text : List ℕ) (tree : DesignFile) (a b : Design) → IsForm text tree a → IsForm text tree b → a ≡ b
form_only text tree a b h k = h.design ∙ (ap design_of (same_Some h.form k.form (sym h.read ∙ k.read)) ∙ sym k.design)

pub no_form : (text : List ℕ) (tree : DesignFile) (fault : FormError) → Fails fault (form_in text tree) → HasNoDesign fault text tree
no_form text tree NoMemory e = tt
no_form text tree NotBuilt e = λ d h. none-some h.form (sym e ∙ h.read)

no_design : (text : List ℕ) (tree : DesignFile) (f : Form) (fault : FormError) → form_in text tree ≡ Some f
    → Fails fault (design_from f) → HasNoDesign fault text tree
no_design text tree f NoMemory e n = tt
no_design text tree f NotBuilt e n = λ d h.
    refused (is_right f) (design_of f) (subst (λ f. is_right f ≡ true) (same_Some h.form f (sym h.read ∙ e)) h.right) n
  where
    refused : (b : Bool) (d : Design) → b ≡ true → cond b (Some d) None ≡ None → ⊥
    refused true d t n = none-some d (sym n)
    refused false d t n = cc

has_design : (text : List ℕ) (tree : DesignFile) (f : Form) (d : Design) → form_in text tree ≡ Some f → design_from f ≡ Some d → IsForm text tree d
has_design text tree f d e n =
    let g = cond_some (is_right f) (design_of f) d n in
    record { form = f; read = e; right = g.0; design = sym g.1 }

pub is_reading : (text : List ℕ) (tree : DesignFile) (f : Form) (result : Result Design FormError) → form_in text tree ≡ Some f
    → Gives (λ d. d) result (design_from f) → IsReading result text tree
is_reading text tree f (Ok d) e g = has_design text tree f d e g
is_reading text tree f (Err fault) e g = no_design text tree f fault e g

nets_fit : (signals : List (List ℕ)) → list_all (is_net 1) (map net_of signals) ≡ true
nets_fit [] = refl
nets_fit (s ∷ signals) = nets_fit signals

-- each value is `'0'` or `'1'`
value_fits : (b : Bool) → is_bit_position (if b then pos 1 else pos 0) ≡ true
value_fits true = refl
value_fits false = refl

values_fit : (es : List Element) → have_bit_positions (waveform_of es) ≡ true
values_fit [] = refl
values_fit (e ∷ es) = rw (value_fits (e.literal == 49), values_fit es) refl

process_fits : (signals : List (List ℕ)) (a : Assignment) → is_assignment signals a ≡ true
    → is_process 1 (length (map net_of signals)) (process_of signals a) ≡ true
process_fits signals a h =
    let both = and_parts (is_some (number_in signals a.target)) (is_wave a.elements) h in
    let wave = and_parts (list_all is_bit a.elements) (is_waveform (waveform_of a.elements)) both.1 in
    let places = at (number_in signals a.target) refl both.0 in
    and_from (nat_lt (unwrap_or (number_in signals a.target) 0) (length (map net_of signals)) && is_waveform (waveform_of a.elements)) (have_bit_positions (waveform_of a.elements))
    (and_from (nat_lt (unwrap_or (number_in signals a.target) 0) (length (map net_of signals))) (is_waveform (waveform_of a.elements)) places wave.1) (values_fit a.elements)
  where
    at : (o : Option ℕ) → number_in signals a.target ≡ o → is_some o ≡ true → nat_lt (unwrap_or o 0) (length (map net_of signals)) ≡ true
    at None e s = cc
    at (Some n) e s = let below = number_in-within signals a.target n e in lt-ltb n (length (map net_of signals)) (omega (arith, below, length-map signals net_of))

processes_fit : (signals : List (List ℕ)) (as' : List Assignment) → list_all (is_assignment signals) as' ≡ true
    → list_all (is_process 1 (length (map net_of signals))) (map (process_of signals) as') ≡ true
processes_fit signals [] h = refl
processes_fit signals (a ∷ as') h =
    let both = and_parts (is_assignment signals a) (list_all (is_assignment signals) as') h in
    and_from (is_process 1 (length (map net_of signals)) (process_of signals a)) (list_all (is_process 1 (length (map net_of signals))) (map (process_of signals) as')) (process_fits signals a both.0) (processes_fit signals as' both.1)

design_is_sound : (f : Form) → is_right f ≡ true → IsSound (design_of f)
design_is_sound f h =
    let two = and_parts (are_distinct f.signals && list_all (is_assignment f.signals) f.assignments) (have_own_targets (processes_of f)) h in
    let one = and_parts (are_distinct f.signals) (list_all (is_assignment f.signals) f.assignments) two.0 in
    rw (nets_fit f.signals, processes_fit f.signals f.assignments one.1, two.1) refl

-- the design of a tree of the first form is sound
pub form_sound : (text : List ℕ) (tree : DesignFile) (d : Design) → IsForm text tree d → IsSound d
form_sound text tree d h = subst IsSound (sym h.design) (design_is_sound h.form h.right)

pub read_sound : (text : List ℕ) (tree : DesignFile) (result : Result Design FormError) → IsReading result text tree → IfOk result (λ d. IsSound d)
read_sound text tree (Ok d) h = form_sound text tree d h
read_sound text tree (Err e) h = tt
