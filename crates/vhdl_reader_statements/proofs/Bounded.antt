-- The laws of the readers that the crates above call: a bound on turns and depth suffices for fewer tokens than it says.
use Rattle.std.proofs.Common.{ℕ, arith}
use Rattle.vhdl_reader_expressions.proofs.Local.{Law}
use Rattle.vhdl_reader_statements.specs.Reading.{delay_within, waveform_within, names_within, statements_within}
use Rattle.vhdl_reader_statements.proofs.Laws as laws

pub delay_bounded : (bound : ℕ) → Law bound (delay_within bound)
delay_bounded bound = laws.delay_law bound bound (omega arith)

pub waveform_bounded : (bound : ℕ) → Law bound (waveform_within bound)
waveform_bounded bound = laws.waveform_law bound bound (omega arith)

pub names_bounded : (bound : ℕ) → Law bound (names_within bound)
names_bounded bound = laws.names_law bound bound (omega arith)

pub statements_bounded : (bound : ℕ) → Law bound (statements_within bound)
unfolding statements_within
statements_bounded bound = laws.statements_law bound bound (omega arith)
