use Rattle.std.proofs.Common.{◌≡◌, ◌+◌, ◌*◌, ◌-◌, ◌^◌, min, take, true, fold}
use Rattle.std.specs.List.{list_all}
use Rattle.std.specs.Char.{is_ascii_digit}
use Rattle.vhpi_values.proofs.reading.natural.Given as goal

abbrev pub invariant-loop-digit : goal.invariant-loop-digit
invariant-loop-digit l =
    (l.value ≡ min (fold (λ n c. 10 * n + (c - 48)) 0 (take l.digit-index l.digits)) (2 ^ 64 - 1)) × (list_all is_ascii_digit (take l.digit-index l.digits) ≡ true)
