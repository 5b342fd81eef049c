use Rattle.std.proofs.Common.{rules, get_or, pos, w64, FitsSigned}
use Rattle.std.proofs.lemmas.Int.{to_z-of_z}
use Rattle.vhpi_values.proofs.Joined.{numbers-more}
use Rattle.vhpi_values.proofs.printing.print_numbers.Goals as goal

pub loop-place-preserved : goal.loop-place-preserved
loop-place-preserved c =
    let n = get_or c.args.numbers.now c.loop-place.place (pos 0) in
    let f : FitsSigned w64 n = search rules in
    let e = numbers-more c.args.numbers.now c.loop-place.place (pos 0) c.loop-place-test.true in
    rw (c.in_ok-append.ensures, c.in_ok-separate.ensures, c.in_ok-decimal.ensures, to_z-of_z w64 n f, e, c.loop-place.invariant)
