-- Statements and what is in them that stand there are read, unless a bound is used up. What the crates above need.
use Rattle.std.proofs.Common.{◌≡◌, ℕ, true}
use Rattle.vhdl_tree.specs.Statements.{IsDelay, IsWaveform, IsNames, StatementsOf}
use Rattle.vhdl_reader_expressions.proofs.Complete.{Complete}
use Rattle.vhdl_reader_expressions.proofs.Begins.{begins_expression}
use Rattle.vhdl_reader_statements.specs.Reading.{delay_within, waveform_within, names_within, statements_within}
use Rattle.vhdl_reader_statements.proofs.Follow.{EndsNames, EndsWaveform, EndsStatements}
use Rattle.vhdl_reader_statements.proofs.Completes as completes

-- an expression follows a delay
pub delay_reached : (bound : ℕ) → Complete (λ k. begins_expression k ≡ true) (delay_within bound) IsDelay
delay_reached bound = completes.delay_complete bound

pub waveform_reached : (bound : ℕ) → Complete EndsWaveform (waveform_within bound) IsWaveform
waveform_reached bound = completes.waveform_complete bound

pub names_reached : (bound : ℕ) → Complete EndsNames (names_within bound) IsNames
names_reached bound = completes.names_complete bound

pub statements_reached : (bound : ℕ) → Complete EndsStatements (statements_within bound) StatementsOf
unfolding statements_within
statements_reached bound = record { reads = λ r h. (completes.statements_complete bound bound r.0).reads r.1 h }
