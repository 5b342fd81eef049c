use Rattle.std.specs.Prelude.{◌≡◌, ◌++◌, pos, List, [], ◌∷◌, codes}
use Rattle.sim_design.specs.declared.Design.{Design}
use Rattle.sim_journal.specs.declared.Entry.{Entry}
use Rattle.sim_journal.specs.declared.Entry.TheVariants as entries
use Rattle.sim_journal.specs.declared.End.TheVariants as ends
use Rattle.sim_journal.specs.Print.{Print}
use Rattle.vhpi_kernel.specs.Run.{IsRun}

-- a signal s that is '1' after 2 ns and '0' after 5 ns
abbrev pub pulse : Design
pulse = record {
  instances = record { name = codes "top"; architecture = codes "a" } ∷ [];
  nets = record { instance = 0; name = codes "s"; default = pos 0 } ∷ [];
  processes = record { instance = 0; target = 0; waveform = record { value = pos 1; delay = 2000000 } ∷ record { value = pos 0; delay = 5000000 } ∷ [] } ∷ [];
}

abbrev pub first_cycle : List Entry
first_cycle = entries.Time 2000000 0 1 ∷ entries.Event 0 (pos 1) ∷ []

abbrev pub second_cycle : List Entry
second_cycle = entries.Time 5000000 0 2 ∷ entries.Event 0 (pos 0) ∷ []

abbrev pub whole_pulse : List Entry
whole_pulse = first_cycle ++ (second_cycle ++ entries.Ended (ends.Quiet 5000000 2) ∷ [])

abbrev pub short_pulse : List Entry
short_pulse = first_cycle ++ entries.Ended (ends.CycleLimit 2000000 1) ∷ []

-- its run with three cycles, and with one; and the text of the first one's journal
abbrev pub PulseRuns : Type 0
PulseRuns =
    IsRun pulse (record { limit = 3 }) whole_pulse (ends.Quiet 5000000 2)
    × IsRun pulse (record { limit = 1 }) short_pulse (ends.CycleLimit 2000000 1)
    × (Print pulse whole_pulse ≡ codes "@ 2000000 0 1\n! :top:s '1'\n@ 5000000 0 2\n! :top:s '0'\n# end quiet 5000000 2\n")
