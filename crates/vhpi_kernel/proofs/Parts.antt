use Rattle.std.proofs.Common.{◌≡◌, ℕ, ◌+◌, ◌<◌, ◌≤◌, List, [], ◌∷◌, ◌++◌, length, take, get_or, map, drop, Bool, true, refl, sym, ap, ◌∙◌, arith, zero, suc, add-one}
use Rattle.std.proofs.Math.ListN.{set}
use Rattle.std.proofs.lemmas.List.{take_more, drop_more, map-append}
use Rattle.std.proofs.lemmas.Bool.{and_parts}
use Rattle.std.specs.List.{list_all}
use Rattle.sim_design.specs.declared.Process.{Process}
use Rattle.sim_waves.specs.Waveform.{Waveform, is_active, at_time}
use Rattle.vhpi_kernel.specs.State.{ran, all_ran}

-- the list of waveforms whose first n have been advanced to the time now
abbrev pub advanced_part : ℕ → ℕ → List Waveform → List Waveform
advanced_part now zero ws = ws
advanced_part now (suc n) [] = []
advanced_part now (suc n) (w ∷ ws) = at_time now w ∷ advanced_part now n ws

advanced_all : (now n : ℕ) (ws : List Waveform) → length ws ≤ n → advanced_part now n ws ≡ map (at_time now) ws
advanced_all now zero [] within = refl
advanced_all now zero (w ∷ ws) within = absurd (omega arith)
advanced_all now (suc n) [] within = refl
advanced_all now (suc n) (w ∷ ws) within = ap (λ (l : List Waveform). at_time now w ∷ l) (advanced_all now n ws (omega arith))

pub advanced_done : (now n : ℕ) (ws cur : List Waveform) → length ws ≤ n → cur ≡ advanced_part now n ws → cur ≡ map (at_time now) ws
advanced_done now n ws cur within is = is ∙ advanced_all now n ws within

pub advanced_item : (now n : ℕ) (ws : List Waveform) (d : Waveform) → get_or (advanced_part now n ws) n d ≡ get_or ws n d
advanced_item now zero ws d = refl
advanced_item now (suc n) [] d = refl
advanced_item now (suc n) (w ∷ ws) d = advanced_item now n ws d

advanced_suc : (now n : ℕ) (ws : List Waveform) (d : Waveform) → n < length ws → set (advanced_part now n ws) n (at_time now (get_or (advanced_part now n ws) n d)) ≡ advanced_part now (suc n) ws
advanced_suc now zero [] d within = absurd (omega arith)
advanced_suc now zero (w ∷ ws) d within = refl
advanced_suc now (suc n) [] d within = absurd (omega arith)
advanced_suc now (suc n) (w ∷ ws) d within = ap (λ (l : List Waveform). at_time now w ∷ l) (advanced_suc now n ws d (omega arith))

pub advanced_more : (now n : ℕ) (ws cur : List Waveform) (d next : Waveform) → n < length ws → cur ≡ advanced_part now n ws → next ≡ at_time now (get_or cur n d) → set cur n next ≡ advanced_part now (n + 1) ws
advanced_more now n ws cur d next within is new =
    let step : set (advanced_part now n ws) n (at_time now (get_or (advanced_part now n ws) n d)) ≡ advanced_part now (suc n) ws = advanced_suc now n ws d within in
    let here : next ≡ at_time now (get_or (advanced_part now n ws) n d) = new ∙ ap (λ (l : List Waveform). at_time now (get_or l n d)) is in
    rw (add-one, is, here) step

pub active_more : (now n : ℕ) (ws cur : List Waveform) (d : Waveform) (old new : List Bool) (r : Bool) → n < length ws → cur ≡ advanced_part now n ws → r ≡ is_active now (get_or cur n d) → old ≡ map (is_active now) (take n ws) → new ≡ old ++ r ∷ [] → new ≡ map (is_active now) (take (n + 1) ws)
active_more now n ws cur d old new r within is active was more =
    let here : r ≡ is_active now (get_or ws n d) = active ∙ ap (is_active now) (ap (λ (l : List Waveform). get_or l n d) is ∙ advanced_item now n ws d) in
    rw (more, was, here, take_more ws n d within) (sym (map-append (is_active now) (take n ws) (get_or ws n d ∷ [])))

-- the list of waveforms whose first n processes have run
abbrev pub ran_part : ℕ → ℕ → List Process → List Waveform → List Waveform
ran_part now zero ps ws = ws
ran_part now (suc n) [] ws = ws
ran_part now (suc n) (p ∷ ps) [] = []
ran_part now (suc n) (p ∷ ps) (w ∷ ws) = ran now p w ∷ ran_part now n ps ws

pub ran_all : (now : ℕ) (ps : List Process) (ws : List Waveform) → length ws ≡ length ps → ran_part now (length ps) ps ws ≡ all_ran now ps ws
ran_all now [] [] size = refl
ran_all now [] (w ∷ ws) size = absurd (omega (arith, size))
ran_all now (p ∷ ps) [] size = refl
ran_all now (p ∷ ps) (w ∷ ws) size = rw (ran_all now ps ws (omega (arith, size))) refl

ran_suc : (now n : ℕ) (ps : List Process) (ws : List Waveform) (p : Process) (d : Waveform) → n < length ps → n < length ws → set (ran_part now n ps ws) n (ran now (get_or ps n p) (get_or (ran_part now n ps ws) n d)) ≡ ran_part now (suc n) ps ws
ran_suc now n [] ws p d within inside = absurd (omega arith)
ran_suc now n (q ∷ ps) [] p d within inside = absurd (omega arith)
ran_suc now zero (q ∷ ps) (w ∷ ws) p d within inside = refl
ran_suc now (suc n) (q ∷ ps) (w ∷ ws) p d within inside = ap (λ (l : List Waveform). ran now q w ∷ l) (ran_suc now n ps ws p d (omega arith) (omega arith))

pub ran_more : (now n : ℕ) (ps : List Process) (ws cur : List Waveform) (p : Process) (d next : Waveform) → n < length ps → n < length ws → cur ≡ ran_part now n ps ws → next ≡ ran now (get_or ps n p) (get_or cur n d) → set cur n next ≡ ran_part now (n + 1) ps ws
ran_more now n ps ws cur p d next within inside is new =
    let step : set (ran_part now n ps ws) n (ran now (get_or ps n p) (get_or (ran_part now n ps ws) n d)) ≡ ran_part now (suc n) ps ws = ran_suc now n ps ws p d within inside in
    let here : next ≡ ran now (get_or ps n p) (get_or (ran_part now n ps ws) n d) = new ∙ ap (λ (l : List Waveform). ran now (get_or ps n p) (get_or l n d)) is in
    rw (add-one, is, here) step

pub ran_done : (now n : ℕ) (ps : List Process) (ws cur : List Waveform) → length ws ≡ length ps → n ≡ length ps → cur ≡ ran_part now n ps ws → cur ≡ all_ran now ps ws
ran_done now n ps ws cur size end is = is ∙ (ap (λ (k : ℕ). ran_part now k ps ws) end ∙ ran_all now ps ws size)

-- a test that all from a place on pass, the later ones pass
pub rest_all : (p : Process → Bool) (n : ℕ) (xs : List Process) (d : Process) → n < length xs → list_all p (drop n xs) ≡ true → list_all p (drop (n + 1) xs) ≡ true
rest_all p n xs d within h = (and_parts (p (get_or xs n d)) (list_all p (drop (n + 1) xs)) (rw (drop_more xs n d within) at h)).1
