use Rattle.std.proofs.Common.{pos, refl, [], ◌∷◌, ◌++◌}
use Rattle.sim_journal.specs.declared.Entry.TheVariants as entries
use Rattle.sim_journal.specs.declared.End.TheVariants as ends
use Rattle.vhpi_kernel.specs.State.{State, first_state}
use Rattle.vhpi_kernel.specs.Cycle.{Cycle, Init, moved}
use Rattle.vhpi_kernel.specs.Run.{IsRun, RestIn}
use Rattle.vhpi_kernel.specs.Worked.{pulse, whole_pulse, short_pulse, first_cycle, second_cycle}

ready : State
ready = record { now = 0; delta = 0; cycle = 0; values = pos 0 ∷ []; waves = record { current = pos 0; pending = record { value = pos 1; time = 2000000 } ∷ record { value = pos 0; time = 5000000 } ∷ [] } ∷ [] }

high : State
high = record { now = 2000000; delta = 0; cycle = 1; values = pos 1 ∷ []; waves = record { current = pos 1; pending = record { value = pos 0; time = 5000000 } ∷ [] } ∷ [] }

low : State
low = record { now = 5000000; delta = 0; cycle = 2; values = pos 0 ∷ []; waves = record { current = pos 0; pending = [] } ∷ [] }

began : Init pulse (first_state pulse) [] ready
unfolding ready
began = record { front = []; back = []; mid = first_state pulse; whole = refl; first = (refl, refl); second = record { front = []; back = []; mid = ready; whole = refl; first = (refl, refl); second = (refl, refl) } }

rises : Cycle pulse ready first_cycle high
unfolding ready high
rises = record { front = entries.Time 2000000 0 1 ∷ []; back = entries.Event 0 (pos 1) ∷ []; mid = moved ready; whole = refl; first = (refl, refl); second = record { front = entries.Event 0 (pos 1) ∷ []; back = []; mid = high; whole = refl; first = (refl, refl); second = (refl, refl) } }

falls : Cycle pulse high second_cycle low
unfolding high low
falls = record { front = entries.Time 5000000 0 2 ∷ []; back = entries.Event 0 (pos 0) ∷ []; mid = moved high; whole = refl; first = (refl, refl); second = record { front = entries.Event 0 (pos 0) ∷ []; back = []; mid = low; whole = refl; first = (refl, refl); second = (refl, refl) } }

rest : RestIn pulse (record { limit = 3 }) 2 ready whole_pulse (ends.Quiet 5000000 2)
unfolding ready high low
rest = (refl, record { front = first_cycle; back = second_cycle ++ entries.Ended (ends.Quiet 5000000 2) ∷ []; mid = high; whole = refl; first = rises; last = (refl, record { front = second_cycle; back = entries.Ended (ends.Quiet 5000000 2) ∷ []; mid = low; whole = refl; first = falls; last = (refl, refl) }) })

short_rest : RestIn pulse (record { limit = 1 }) 1 ready short_pulse (ends.CycleLimit 2000000 1)
unfolding ready high
short_rest = (refl, record { front = first_cycle; back = entries.Ended (ends.CycleLimit 2000000 1) ∷ []; mid = high; whole = refl; first = rises; last = (refl, refl) })

pub whole : IsRun pulse (record { limit = 3 }) whole_pulse (ends.Quiet 5000000 2)
whole = record { front = []; back = whole_pulse; mid = ready; whole = refl; first = began; last = (2, rest) }

pub short : IsRun pulse (record { limit = 1 }) short_pulse (ends.CycleLimit 2000000 1)
short = record { front = []; back = short_pulse; mid = ready; whole = refl; first = began; last = (1, short_rest) }
