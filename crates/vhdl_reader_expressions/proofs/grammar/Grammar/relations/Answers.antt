use Rattle.std.proofs.Common.{rules, arith}
use Rattle.std.proofs.lemmas.Grind.{common_steps}
use Rattle.vhdl_tree.specs.Expressions.{again, link_of}
use Rattle.vhdl_reader_expressions.specs.Steps.{operations_from}
use Rattle.vhdl_reader_expressions.specs.Reading as spec
use Rattle.vhdl_reader_expressions.proofs.Turns.{one_more}
use Rattle.vhdl_reader_expressions.proofs.grammar.Grammar.relations.Goals as goal

pub returns-in-None : goal.returns-in-None
unfolding operations_from
returns-in-None g c = let e = one_more (λ n. operations_from n (again c.args.operator) link_of (spec.relation c.args.self.now.turns (spec.simple_at c.args.self.now.turns c.args.self.now.depth)) c.turns.links c.turns.tokens) _ c.turns._turn c.turns-test.true c.turns.invariant in first_of (search rules, grind (arith, common_steps))

pub returns-in_err-right-in-Some : goal.returns-in_err-right-in-Some
unfolding operations_from
returns-in_err-right-in-Some g c = let e = one_more (λ n. operations_from n (again c.args.operator) link_of (spec.relation c.args.self.now.turns (spec.simple_at c.args.self.now.turns c.args.self.now.depth)) c.turns.links c.turns.tokens) _ c.turns._turn c.turns-test.true c.turns.invariant in first_of (search rules, grind (arith, common_steps))

pub turns-preserved : goal.turns-preserved
unfolding operations_from
turns-preserved g c = let e = one_more (λ n. operations_from n (again c.args.operator) link_of (spec.relation c.args.self.now.turns (spec.simple_at c.args.self.now.turns c.args.self.now.depth)) c.turns.links c.turns.tokens) _ c.turns._turn c.turns-test.true c.turns.invariant in first_of (search rules, grind (arith, common_steps))

pub returns : goal.returns
unfolding operations_from
returns g c = first_of (search rules, grind (arith, common_steps))
