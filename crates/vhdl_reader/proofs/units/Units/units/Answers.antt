use Rattle.std.proofs.Common.{rules, arith}
use Rattle.std.proofs.lemmas.Grind.{common_steps}
use Rattle.vhdl_reader.specs.Reading.{begins_unit}
use Rattle.vhdl_reader_expressions.specs.Steps.{many_from}
use Rattle.vhdl_reader.specs.Reading as spec
use Rattle.vhdl_reader.proofs.Turns.{one_more}
use Rattle.vhdl_reader.proofs.units.Units.units.Goals as goal

pub returns-then-not-begins_unit : goal.returns-then-not-begins_unit
unfolding many_from
returns-then-not-begins_unit c = let e = one_more (λ n. many_from n begins_unit (spec.unit c.args.self.now.bound) c.turns.found c.turns.tokens) _ c.turns._turn c.turns-test.true c.turns.invariant in first_of (search rules, grind (arith, common_steps))

pub returns-in_err-unit : goal.returns-in_err-unit
unfolding many_from
returns-in_err-unit c = let e = one_more (λ n. many_from n begins_unit (spec.unit c.args.self.now.bound) c.turns.found c.turns.tokens) _ c.turns._turn c.turns-test.true c.turns.invariant in first_of (search rules, grind (arith, common_steps))

pub turns-preserved : goal.turns-preserved
unfolding many_from
turns-preserved c = let e = one_more (λ n. many_from n begins_unit (spec.unit c.args.self.now.bound) c.turns.found c.turns.tokens) _ c.turns._turn c.turns-test.true c.turns.invariant in first_of (search rules, grind (arith, common_steps))

pub returns : goal.returns
unfolding many_from
returns c = first_of (search rules, grind (arith, common_steps))
