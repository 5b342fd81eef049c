use Rattle.std.proofs.Common.{rules, arith}
use Rattle.std.proofs.lemmas.Grind.{common_steps}
use Rattle.vhdl_reader.specs.Reading.{begins_concurrent}
use Rattle.vhdl_reader_expressions.specs.Steps.{many_from}
use Rattle.vhdl_reader.specs.Reading as spec
use Rattle.vhdl_reader.proofs.Turns.{one_more}
use Rattle.vhdl_reader.proofs.units.Units.concurrents.Goals as goal

pub returns-then-not-begins_concurrent : goal.returns-then-not-begins_concurrent
unfolding many_from
returns-then-not-begins_concurrent c = let e = one_more (λ n. many_from n begins_concurrent (spec.concurrent c.args.self.now.bound) c.turns.found c.turns.tokens) _ c.turns._turn c.turns-test.true c.turns.invariant in first_of (search rules, grind (arith, common_steps))

pub returns-in_err-statement : goal.returns-in_err-statement
unfolding many_from
returns-in_err-statement c = let e = one_more (λ n. many_from n begins_concurrent (spec.concurrent c.args.self.now.bound) c.turns.found c.turns.tokens) _ c.turns._turn c.turns-test.true c.turns.invariant in first_of (search rules, grind (arith, common_steps))

pub turns-preserved : goal.turns-preserved
unfolding many_from
turns-preserved c = let e = one_more (λ n. many_from n begins_concurrent (spec.concurrent c.args.self.now.bound) c.turns.found c.turns.tokens) _ c.turns._turn c.turns-test.true c.turns.invariant in first_of (search rules, grind (arith, common_steps))

pub returns : goal.returns
unfolding many_from
returns c = first_of (search rules, grind (arith, common_steps))
