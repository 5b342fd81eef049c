use Rattle.std.proofs.Common.{◌≡◌, ◌+◌, ◌≤◌, drop}
use Rattle.std.specs.Prelude.{false}
use Rattle.vhdl_names_rules.specs.Units.{words_from}
use Rattle.vhdl_names_rules.proofs.units.word_count.Given as goal

abbrev pub invariant-loop-byte : goal.invariant-loop-byte
invariant-loop-byte l = (l.count ≤ l.byte-index) × (l.count + words_from l.inside (drop l.byte-index l.bytes) ≡ words_from false l.bytes)
