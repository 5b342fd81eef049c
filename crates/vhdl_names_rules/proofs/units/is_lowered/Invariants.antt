use Rattle.std.proofs.Common.{◌≡◌, drop, map}
use Rattle.std.specs.Prelude.{bytes_eq}
use Rattle.std.specs.Char.{to_ascii_lowercase}
use Rattle.vhdl_names_rules.proofs.units.is_lowered.Given as goal

abbrev pub invariant-loop-letter : goal.invariant-loop-letter
invariant-loop-letter l = bytes_eq (map to_ascii_lowercase l.rest) (drop l.letter-index l.lowered) ≡ bytes_eq (map to_ascii_lowercase l.bytes) l.lowered
