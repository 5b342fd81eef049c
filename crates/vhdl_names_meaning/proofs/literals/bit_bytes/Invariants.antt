use Rattle.std.proofs.Common.{◌≡◌, ◌++◌, map, drop}
use Rattle.vhdl_names_meaning.specs.Literals.{bit_byte}
use Rattle.vhdl_names_meaning.proofs.literals.bit_bytes.Given as goal

abbrev pub invariant-loop-bit : goal.invariant-loop-bit
invariant-loop-bit l = l.bytes ++ map bit_byte (drop l.bit-index l.bits) ≡ map bit_byte l.bits
