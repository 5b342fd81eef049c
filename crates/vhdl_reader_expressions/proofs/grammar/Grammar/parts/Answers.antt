use Rattle.std.proofs.Common.{rules, arith}
use Rattle.std.proofs.lemmas.Grind.{common_steps}
use Rattle.vhdl_reader_expressions.specs.Steps.{many_from}
use Rattle.vhdl_reader_expressions.specs.Reading as spec
use Rattle.vhdl_reader_expressions.specs.Reading.{begins_part}
use Rattle.vhdl_reader_expressions.proofs.Turns.{one_more}
use Rattle.vhdl_reader_expressions.proofs.grammar.Grammar.parts.Goals as goal

pub returns-then-not-begins_part : goal.returns-then-not-begins_part
unfolding many_from
returns-then-not-begins_part g c = let e = one_more (λ n. many_from n begins_part (spec.part c.args.self.now.turns (spec.simple_at c.args.self.now.turns c.args.self.now.depth)) c.turns.found c.turns.tokens) _ c.turns._turn c.turns-test.true c.turns.invariant in first_of (search rules, grind (arith, common_steps))

pub returns-in_err-part : goal.returns-in_err-part
unfolding many_from
returns-in_err-part g c = let e = one_more (λ n. many_from n begins_part (spec.part c.args.self.now.turns (spec.simple_at c.args.self.now.turns c.args.self.now.depth)) c.turns.found c.turns.tokens) _ c.turns._turn c.turns-test.true c.turns.invariant in first_of (search rules, grind (arith, common_steps))

pub turns-preserved : goal.turns-preserved
unfolding many_from
turns-preserved g c = let e = one_more (λ n. many_from n begins_part (spec.part c.args.self.now.turns (spec.simple_at c.args.self.now.turns c.args.self.now.depth)) c.turns.found c.turns.tokens) _ c.turns._turn c.turns-test.true c.turns.invariant in first_of (search rules, grind (arith, common_steps))

pub returns : goal.returns
unfolding many_from
returns g c = first_of (search rules, grind (arith, common_steps))
