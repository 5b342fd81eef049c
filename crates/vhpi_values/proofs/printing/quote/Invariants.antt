use Rattle.std.proofs.Common.{◌≡◌, ◌∷◌, take}
use Rattle.std.specs.List.{flat_map}
use Rattle.vhpi_values.specs.Printing.{escaped}
use Rattle.vhpi_values.proofs.printing.quote.Given as goal

abbrev pub invariant-loop-byte : goal.invariant-loop-byte
invariant-loop-byte l = l.text.items ≡ 34 ∷ flat_map escaped (take l.byte-index l.bytes)
