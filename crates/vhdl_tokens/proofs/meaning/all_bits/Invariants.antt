use Rattle.std.proofs.Common.{◌≡◌, ◌++◌, drop}
use Rattle.std.specs.List.{flat_map}
use Rattle.vhdl_tokens.specs.Spelling.{bits_at}
use Rattle.vhdl_tokens.proofs.meaning.all_bits.Given as goal

abbrev pub invariant-loop-d : goal.invariant-loop-d
invariant-loop-d l = l.bits.items ++ flat_map (bits_at l.base) (drop l.d-index l.digits) ≡ flat_map (bits_at l.base) l.digits
