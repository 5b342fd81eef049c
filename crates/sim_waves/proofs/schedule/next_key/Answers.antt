use Rattle.std.proofs.Common.{◌≡◌, ◌≢◌, arith}
use Rattle.std.specs.Map.Iter.{deref}
use Rattle.std.proofs.lemmas.Map.Iter.{rest_more, rest_all}
use Rattle.std.proofs.lemmas.Bool.Decides.{nat_tests}
use Rattle.sim_waves.proofs.Pairs.{next_at, next_none, next_later}
use Rattle.sim_waves.proofs.schedule.next_key.Goals as goal

pub returns-in-Some : goal.returns-in-Some
returns-in-Some c =
    let e : c.in-Some.field-0.now.0 ≡ c.args.now = grind (arith, nat_tests) in
    next_at c.args.order.now c.args.now c.args.from c.in-Some.field-0.now c.range.result c.next.new.self (c.range.ensures.in_range tt) (rest_more deref _ _ _ c.in-Some.field-0 c.in-Some.is c.next.ensures.steps) e

pub returns-in_default : goal.returns-in_default
returns-in_default c =
    let e : c.in-Some.field-0.now.0 ≢ c.args.now = λ (h : c.in-Some.field-0.now.0 ≡ c.args.now). grind (arith, nat_tests) in
    next_later c.args.order.now c.args.now c.args.from c.in-Some.field-0.now c.range.result c.next.new.self (c.range.ensures.in_range tt) (rest_more deref _ _ _ c.in-Some.field-0 c.in-Some.is c.next.ensures.steps) e

pub returns-in_default-2 : goal.returns-in_default-2
returns-in_default-2 c = next_none c.args.order.now c.args.now c.args.from c.range.result (c.range.ensures.in_range tt) (rest_all deref _ _ _ c.in_default.is c.next.ensures.steps)
