use Rattle.std.proofs.Common.{rules, arith}
use Rattle.std.proofs.lemmas.Grind.{common_steps}
use Rattle.vhdl_reader.specs.Reading.{conditions_from}
use Rattle.vhdl_reader.proofs.Turns.{one_more}
use Rattle.vhdl_reader.proofs.units.Units.conditions.Goals as goal

pub returns-then-not-eat : goal.returns-then-not-eat
unfolding conditions_from
returns-then-not-eat c = let e = one_more (λ n. conditions_from c.args.self.now.bound n c.turns.found c.turns.tokens) _ c.turns._turn c.turns-test.true c.turns.invariant in first_of (search rules, grind (arith, common_steps))

pub returns-then-not-eat-2 : goal.returns-then-not-eat-2
unfolding conditions_from
returns-then-not-eat-2 c = let e = one_more (λ n. conditions_from c.args.self.now.bound n c.turns.found c.turns.tokens) _ c.turns._turn c.turns-test.true c.turns.invariant in first_of (search rules, grind (arith, common_steps))

pub returns-in_err-condition : goal.returns-in_err-condition
unfolding conditions_from
returns-in_err-condition c = let e = one_more (λ n. conditions_from c.args.self.now.bound n c.turns.found c.turns.tokens) _ c.turns._turn c.turns-test.true c.turns.invariant in first_of (search rules, grind (arith, common_steps))

pub returns-in_err-otherwise : goal.returns-in_err-otherwise
unfolding conditions_from
returns-in_err-otherwise c = let e = one_more (λ n. conditions_from c.args.self.now.bound n c.turns.found c.turns.tokens) _ c.turns._turn c.turns-test.true c.turns.invariant in first_of (search rules, grind (arith, common_steps))

pub turns-preserved : goal.turns-preserved
unfolding conditions_from
turns-preserved c = let e = one_more (λ n. conditions_from c.args.self.now.bound n c.turns.found c.turns.tokens) _ c.turns._turn c.turns-test.true c.turns.invariant in first_of (search rules, grind (arith, common_steps))

pub returns : goal.returns
unfolding conditions_from
returns c = first_of (search rules, grind (arith, common_steps))
