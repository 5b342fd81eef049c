use Rattle.std.proofs.Common.{rules, arith, map, drop, ◌-◌, ◌+◌, ◌∷◌, ap, ◌∙◌, w64, FitsSigned, None}
use Rattle.std.proofs.lemmas.List.{at_drop_more, at_drop_all}
use Rattle.std.proofs.lemmas.Int.{to_z-of_z}
use Rattle.vhpi_values.specs.Reading.{single}
use Rattle.vhpi_values.proofs.Gathering.{starts, surplus, misfit, fitting, missing, done}
use Rattle.vhpi_values.proofs.reading.gather.Goals as goal

pub returns-then-place-wanted : goal.returns-then-place-wanted
returns-then-place-wanted c =
    surplus _ _ _ _ _ _ _ c.loop-member.invariant.2 (omega arith) (at_drop_more (map single) c.args.members.now c.loop-member.member-index None (omega arith)) _ (omega arith)

pub returns-in-None : goal.returns-in-None
returns-in-None c =
    let ms = c.args.members.now in
    let i = c.loop-member.member-index in
    misfit _ _ _ _ _ _ c.loop-member.invariant.2 (at_drop_more (map single) ms i None (omega arith) ∙ ap (λ m. single m ∷ map single (drop (i + 1) ms)) c.in-None.is) _ (omega arith)

pub loop-member-preserved : goal.loop-member-preserved
loop-member-preserved c =
    let f : FitsSigned w64 c.in-Some.element = search rules in
    let ms = c.args.members.now in
    let i = c.loop-member.member-index in
    let next = fitting _ _ _ _ (c.args.wanted - (i + 1)) _ _ _ c.loop-member.invariant.2 (omega arith) (at_drop_more (map single) ms i None (omega arith) ∙ ap (λ m. single m ∷ map single (drop (i + 1) ms)) c.in-Some.is) in
    (search rules, omega arith, rw (c.in-Ok.ensures.items, to_z-of_z w64 c.in-Some.element f) next)

pub returns-then-len-wanted : goal.returns-then-len-wanted
returns-then-len-wanted c =
    let i = c.loop-member.member-index in
    missing _ _ _ (c.args.wanted - (i + 1)) _ _ c.loop-member.invariant.2 (omega arith) (at_drop_all (map single) c.args.members.now i (omega arith)) _ (omega arith)

pub returns : goal.returns
returns c =
    done _ _ _ _ _ c.loop-member.invariant.2 (omega arith) (at_drop_all (map single) c.args.members.now c.loop-member.member-index (omega arith))

pub loop-member-init : goal.loop-member-init
loop-member-init c = (search rules, omega arith, rw c.new-elements.ensures.items (starts _ _ _ (omega arith)))
