-- What the readers find that the crates above call.
use Rattle.std.proofs.Common.{ℕ, suc}
use Rattle.vhdl_tree.specs.Statements.{IsDelay, IsWaveform, IsNames, StatementsOf}
use Rattle.vhdl_reader_expressions.proofs.Sound.{Sound, sound_as}
use Rattle.vhdl_reader_expressions.proofs.FrontSteps.{Viable, viable_as}
use Rattle.vhdl_reader_statements.specs.Reading.{delay_within, waveform_within, names_within, statements_within}
use Rattle.vhdl_reader_statements.proofs.Sounds as sounds
use Rattle.vhdl_reader_statements.proofs.Fronts as fronts

pub delay_read : (bound : ℕ) → Sound (delay_within bound) IsDelay
delay_read bound = sounds.delay_sound bound

pub waveform_read : (bound : ℕ) → Sound (waveform_within bound) IsWaveform
waveform_read bound = sounds.waveform_sound bound

pub names_read : (bound : ℕ) → Sound (names_within bound) IsNames
names_read bound = sounds.names_sound bound

pub statements_read : (bound : ℕ) → Sound (statements_within bound) StatementsOf
unfolding statements_within
statements_read bound = sound_as (λ ts us all h. (bound, h)) (sounds.statements_sound bound bound)

-- ---- where they stop, some tokens more would have made what they read

pub delay_goes_on : (bound : ℕ) → Viable (delay_within bound) IsDelay
delay_goes_on bound = fronts.delay_viable bound

pub waveform_goes_on : (bound : ℕ) → Viable (waveform_within bound) IsWaveform
waveform_goes_on bound = fronts.waveform_viable bound

pub names_go_on : (bound : ℕ) → Viable (names_within bound) IsNames
names_go_on bound = fronts.names_viable bound

pub statements_go_on : (bound : ℕ) → Viable (statements_within bound) StatementsOf
unfolding statements_within
statements_go_on bound = viable_as (λ ts us all h. (suc bound, h)) (fronts.statements_viable bound bound)
