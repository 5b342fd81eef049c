use Rattle.std.proofs.Common.{arith, sym, ◌∷◌, ◌+◌, ◌-◌, ◌/◌, drop, length, map, ap, ◌∙◌, option_map}
use Rattle.std.proofs.lemmas.List.{at_drop_more, at_drop_all}
use Rattle.vhpi_values.specs.Reading.{digit, digits}
use Rattle.vhpi_values.proofs.Gathering.{surplus, misfit, fitting, missing, done}
use Rattle.vhpi_values.proofs.Groups.{digits-later}
use Rattle.vhpi_values.proofs.reading.read_digits.Goals as goal

pub returns-then-place-wanted : goal.returns-then-place-wanted
returns-then-place-wanted c =
    let e = surplus _ _ _ _ _ _ _ c.loop-place.invariant.1 (omega arith) (at_drop_more (digits c.args.ty.now c.loop-place.filled) c.args.text.now c.loop-place.place 0 c.loop-place-test.true) c.loop-place.place (omega arith) in
    rw c.element_count-count.ensures.value at e

pub returns-in-None : goal.returns-in-None
returns-in-None c =
    let ty = c.args.ty.now in
    let later = drop (c.loop-place.place + 1) c.args.text.now in
    let e = misfit _ _ _ _ _ _ c.loop-place.invariant.1 (at_drop_more (digits ty c.loop-place.filled) c.args.text.now c.loop-place.place 0 c.loop-place-test.true ∙ ap (λ m. m ∷ map (digit ty 0) later) (sym c.in_ok-more.ensures ∙ ap (option_map (λ v. v.items)) c.in-None.is)) c.loop-place.place (omega arith) in
    rw c.element_count-count.ensures.value at e

pub loop-place-preserved : goal.loop-place-preserved
loop-place-preserved c =
    let ty = c.args.ty.now in
    let i = c.loop-place.place in
    let later = drop (i + 1) c.args.text.now in
    let n = (c.element_count-count.result + 3) / 4 in
    let next = fitting _ _ _ _ (n - (i + 1)) _ _ _ c.loop-place.invariant.1 (omega arith) (at_drop_more (digits ty c.loop-place.filled) c.args.text.now i 0 c.loop-place-test.true ∙ ap (λ m. m ∷ map (digit ty 0) later) (sym c.in_ok-more.ensures ∙ ap (option_map (λ v. v.items)) c.in-Some.is)) in
    (omega arith, rw (c.in_ok-extend-in-Some.ensures, ← digits-later ty later) next)

pub returns-then-text-wanted : goal.returns-then-text-wanted
returns-then-text-wanted c =
    let n = (c.element_count-count.result + 3) / 4 in
    let e = missing _ _ _ (n - (c.loop-place.place + 1)) _ _ c.loop-place.invariant.1 (omega arith) (at_drop_all (digits c.args.ty.now c.loop-place.filled) c.args.text.now c.loop-place.place (omega arith)) (length c.args.text.now) (omega arith) in
    rw c.element_count-count.ensures.value at e

pub returns : goal.returns
returns c =
    let e = done _ _ _ _ _ c.loop-place.invariant.1 (omega arith) (at_drop_all (digits c.args.ty.now c.loop-place.filled) c.args.text.now c.loop-place.place (omega arith)) in
    rw c.element_count-count.ensures.value at e
