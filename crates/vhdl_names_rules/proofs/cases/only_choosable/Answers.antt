use Rattle.std.proofs.Common.{◌<◌, ◌≤◌, sym, ◌∙◌, subst}
use Rattle.vhdl_names_rules.specs.Cases.{is_choosable}
use Rattle.vhdl_names_operators.proofs.Shared.{found_two, found_one, found_none, found_all}
use Rattle.vhdl_names_rules.proofs.cases.only_choosable.Goals.{then-is_some+else-is_some-2, else-is_some}
use Rattle.vhdl_names_rules.proofs.cases.only_choosable.Goals as goal

pub returns-then-is_some-2 : goal.returns-then-is_some-2
returns-then-is_some-2 c =
    found_two is_choosable _ c.loop-place.place c.loop-place.chosen c.choosable_at-next.result (subst (λ n. c.loop-place.place < n) c.len-place-end.ensures c.loop-place-test.true) c.choosable_at-next.ensures
    (sym c.is_some-then-is_some.ensures ∙ c.if-is_some-2.true) (sym c.is_some.ensures ∙ c.if-is_some.true) c.loop-place.invariant

pub loop-place-preserved : goal.loop-place-preserved
loop-place-preserved c = elim c.if-is_some.branch [
  | then-is_some+else-is_some-2 w ↦
      rw w.chosen-is
      (found_one is_choosable _ c.loop-place.place c.loop-place.chosen c.choosable_at-next.result (subst (λ n. c.loop-place.place < n) c.len-place-end.ensures c.loop-place-test.true) c.choosable_at-next.ensures
      (sym w.is_some-then-is_some.ensures ∙ w.if-is_some-2.false) c.loop-place.invariant)
  | else-is_some w ↦
      rw w.chosen-is
      (found_none is_choosable _ c.loop-place.place c.loop-place.chosen c.choosable_at-next.result (subst (λ n. c.loop-place.place < n) c.len-place-end.ensures c.loop-place-test.true) c.choosable_at-next.ensures
      (sym c.is_some.ensures ∙ w.if-is_some.false) c.loop-place.invariant)
]

pub returns : goal.returns
returns c = found_all is_choosable _ c.loop-place.place c.loop-place.chosen (subst (λ n. n ≤ c.loop-place.place) c.len-place-end.ensures c.loop-place-test.false) c.loop-place.invariant
