use Rattle.std.proofs.Common.{rules, arith, sym, w64, FitsSigned}
use Rattle.std.proofs.lemmas.List.{at_drop_more}
use Rattle.std.proofs.lemmas.Int.{to_z-of_z}
use Rattle.vhpi_values.proofs.Groups.{group-misfit, group-fits}
use Rattle.vhpi_values.proofs.reading.read_group.Goals as goal

pub returns-in-None : goal.returns-in-None
returns-in-None c =
    group-misfit _ _ _ _ _ _ _ c.loop-character.invariant (omega arith) (at_drop_more (λ l. l) c.args.group.now c.loop-character.character-index 0 c.loop-character-test.true) (sym c.in-None.ensures)

pub loop-character-preserved : goal.loop-character-preserved
loop-character-preserved c =
    let f : FitsSigned w64 c.in-Some.element = search rules in
    rw (c.in_ok-push-in-Some.ensures.items, to_z-of_z w64 c.in-Some.element f) (group-fits _ _ _ _ _ _ _ _ c.loop-character.invariant (omega arith) (at_drop_more (λ l. l) c.args.group.now c.loop-character.character-index 0 c.loop-character-test.true) (sym c.in-Some.ensures))
