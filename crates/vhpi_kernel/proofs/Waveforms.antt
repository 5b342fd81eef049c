use Rattle.std.proofs.Common.{◌≡◌, ℕ, ◌+◌, ◌<◌, List, [], ◌∷◌, map, true, IsTrue, nat_lt, refl, arith}
use Rattle.std.proofs.lemmas.Bool.{and_parts, ltb-true, lt-ltb}
use Rattle.std.specs.List.{list_all}
use Rattle.sim_design.specs.declared.WaveformElement.{WaveformElement}
use Rattle.sim_design.specs.Design.{is_waveform, is_ascending, ascends_above, is_in_time}
use Rattle.sim_waves.specs.Waveform.{is_rising, rises_above}
use Rattle.vhpi_kernel.specs.State.{transaction}

-- transactions rise as the delays of their waveform do
rises : (now above : ℕ) (es : List WaveformElement) → ascends_above above es ≡ true → rises_above (now + above) (map (transaction now) es) ≡ true
rises now above [] h = refl
rises now above (e ∷ es) h =
    let parts : (nat_lt above e.delay ≡ true) × (ascends_above e.delay es ≡ true) = and_parts _ _ h in
    let less : above < e.delay = ltb-true above e.delay parts.0 in
    let here : nat_lt (now + above) (now + e.delay) ≡ true = lt-ltb (now + above) (now + e.delay) (omega arith) in
    rw (here, rises now e.delay es parts.1) refl

rising_by : (now : ℕ) (es : List WaveformElement) → is_ascending es ≡ true → is_rising (map (transaction now) es) ≡ true
rising_by now [] h = refl
rising_by now (e ∷ es) h = rises now e.delay es h

pub rising_transactions : (now : ℕ) (es : List WaveformElement) → IsTrue (is_waveform es) → IsTrue (is_rising (map (transaction now) es))
rising_transactions now es h = rising_by now es (and_parts (is_ascending es) (list_all is_in_time es) h).0
