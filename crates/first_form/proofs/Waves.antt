-- The waveform of an assignment, read from its first element on.
use Rattle.std.proofs.Common.{◌≡◌, ◌+◌, ◌<◌, ◌≤◌, ℕ, Bool, true, false, cond, ◌&&◌, nat_lt, nat_le, List, [], ◌∷◌, ◌++◌, Some, None, length, get_or, take, drop, map, refl, sym, ap, ◌∙◌, subst}
use Rattle.std.proofs.lemmas.Bool.{and_right, lt-ltb, le-ltb}
use Rattle.std.proofs.lemmas.Option.{cond_some, none-some}
use Rattle.std.proofs.lemmas.List.{map-append, drop_all, take_all}
use Rattle.std.specs.List.{list_all}
use Rattle.sim_design.specs.declared.WaveformElement.{WaveformElement}
use Rattle.sim_design.specs.Design.{time_high, ascends_above}
use Rattle.first_form.specs.declared.form.Element.{Element}
use Rattle.first_form.specs.Form.{delay_of, transaction_of, is_bit, is_wave}
use Rattle.first_form.specs.Building.{is_transaction, transaction_from, waveform_from}
use Rattle.first_form.proofs.Apart.{take_next, drop_next}

-- the elements are right and their times ascend strictly from `above` on
abbrev pub goes_on : ℕ → List Element → Bool
goes_on above [] = true
goes_on above (e ∷ es) = is_transaction e && (nat_lt above (delay_of e) && goes_on (delay_of e) es)

abbrev high : WaveformElement → Bool
high w = nat_le w.delay time_high

shuffle : (b h l bs as' hs : Bool) → ((b && bs) && ((l && as') && (h && hs))) ≡ ((b && h) && (l && (bs && (as' && hs))))
shuffle false h l bs as' hs = refl
shuffle true true true bs as' hs = refl
shuffle true true false bs as' hs = and_right bs false refl
shuffle true false l bs as' hs = and_right bs ((l && as') && false) (and_right (l && as') false refl)

goes_on-is : (above : ℕ) (es : List Element)
    → (list_all is_bit es && (ascends_above above (map transaction_of es) && list_all high (map transaction_of es))) ≡ goes_on above es
goes_on-is above [] = refl
goes_on-is above (e ∷ es) =
    shuffle (is_bit e) (nat_le (delay_of e) time_high) (nat_lt above (delay_of e)) (list_all is_bit es) (ascends_above (delay_of e) (map transaction_of es)) (list_all high (map transaction_of es))
    ∙ ap (λ r. is_transaction e && (nat_lt above (delay_of e) && r)) (goes_on-is (delay_of e) es)

pub is_wave-is : (first : Element) (more : List Element) → is_wave (first ∷ more) ≡ (is_transaction first && goes_on (delay_of first) more)
is_wave-is first more =
    let es = more in let e = first in
    shuffle (is_bit e) (nat_le (delay_of e) time_high) true (list_all is_bit es) (ascends_above (delay_of e) (map transaction_of es)) (list_all high (map transaction_of es))
    ∙ ap (λ r. is_transaction e && r) (goes_on-is (delay_of e) es)

cond_none : {A : Type 0} (b : Bool) (x : A) → cond b (Some x) None ≡ None → b ≡ false
cond_none true x h = absurd (none-some x (sym h))
cond_none false x h = refl

-- so many elements are read, the last at this time
pub record IsWaveSoFar (first : Element) (more : List Element) (made : List WaveformElement) (last turn : ℕ) : Type 0 where
  pub so_far : made ≡ map transaction_of (first ∷ take turn more)
  pub rest : is_wave (first ∷ more) ≡ goes_on last (drop turn more)

pub begins : (first : Element) (more : List Element) (made : List WaveformElement) (w : WaveformElement) → transaction_from first ≡ Some w → made ≡ w ∷ [] → IsWaveSoFar first more made w.delay 0
begins first more made w e p =
    let g = cond_some (is_transaction first) (transaction_of first) w e in
    record {
      so_far = p ∙ ap (λ w. w ∷ []) (sym g.1);
      rest = is_wave-is first more ∙ rw g.0 (ap (λ t. goes_on t more) (ap (λ w. w.delay) g.1));
    }

pub no_first : (first : Element) (more : List Element) → transaction_from first ≡ None → waveform_from (first ∷ more) ≡ None
no_first first more e =
    let g = cond_none (is_transaction first) (transaction_of first) e in
    rw (is_wave-is first more, g) refl

pub turns : (first : Element) (more : List Element) (made pushed : List WaveformElement) (last turn : ℕ) (e : Element) (w : WaveformElement) → IsWaveSoFar first more made last turn
    → turn < length more → e ≡ get_or more turn e → transaction_from e ≡ Some w → last < w.delay → pushed ≡ made ++ w ∷ []
    → IsWaveSoFar first more pushed w.delay (turn + 1)
turns first more made pushed last turn e w s within at t above p =
    let g = cond_some (is_transaction e) (transaction_of e) w t in
    let later = lt-ltb last (delay_of e) (subst (λ w. last < w.delay) (sym g.1) above) in
    record {
      so_far = rw (p, take_next more turn e within at, map-append transaction_of (first ∷ take turn more) (e ∷ [])) (ap (λ m. m ++ w ∷ []) s.so_far ∙ ap (λ w. map transaction_of (first ∷ take turn more) ++ w ∷ []) (sym g.1));
      rest = s.rest ∙ rw (drop_next more turn e within at, g.0, later) (ap (λ w. goes_on w.delay (drop (turn + 1) more)) g.1);
    }

pub stops : (first : Element) (more : List Element) (made : List WaveformElement) (last turn : ℕ) (e : Element) → IsWaveSoFar first more made last turn
    → turn < length more → e ≡ get_or more turn e → transaction_from e ≡ None → waveform_from (first ∷ more) ≡ None
stops first more made last turn e s within at t =
    let g = cond_none (is_transaction e) (transaction_of e) t in
    rw (s.rest, drop_next more turn e within at, g) refl

pub too_early : (first : Element) (more : List Element) (made : List WaveformElement) (last turn : ℕ) (e : Element) (w : WaveformElement) → IsWaveSoFar first more made last turn
    → turn < length more → e ≡ get_or more turn e → transaction_from e ≡ Some w → w.delay ≤ last → waveform_from (first ∷ more) ≡ None
too_early first more made last turn e w s within at t early =
    let g = cond_some (is_transaction e) (transaction_of e) w t in
    let not_later = le-ltb last (delay_of e) (subst (λ w. w.delay ≤ last) (sym g.1) early) in
    rw (s.rest, drop_next more turn e within at, g.0, not_later) refl

pub ends : (first : Element) (more : List Element) (made : List WaveformElement) (last turn : ℕ) → IsWaveSoFar first more made last turn
    → length more ≤ turn → waveform_from (first ∷ more) ≡ Some made
ends first more made last turn s all = rw (s.rest, s.so_far, drop_all turn more all, take_all turn more all) refl
