use Rattle.std.proofs.Common.{rules, arith}
use Rattle.std.proofs.lemmas.Grind.{common_steps}
use Rattle.vhdl_reader_expressions.specs.Steps.{many_from}
use Rattle.vhdl_reader_statements.specs.Reading as spec
use Rattle.vhdl_reader_statements.specs.Reading.{begins_statement}
use Rattle.vhdl_reader_statements.proofs.Turns.{one_more}
use Rattle.vhdl_reader_statements.proofs.sequence.Sequence.statements.Goals as goal

pub returns-then-not-begins_statement : goal.returns-then-not-begins_statement
unfolding many_from
returns-then-not-begins_statement g c = let e = one_more (λ n. many_from n begins_statement (spec.statement c.args.self.now.simple.bound (spec.statements_at c.args.self.now.simple.bound c.args.self.now.depth)) c.turns.found c.turns.tokens) _ c.turns._turn c.turns-test.true c.turns.invariant in first_of (search rules, grind (arith, common_steps))

pub returns-in_err-statement : goal.returns-in_err-statement
unfolding many_from
returns-in_err-statement g c = let e = one_more (λ n. many_from n begins_statement (spec.statement c.args.self.now.simple.bound (spec.statements_at c.args.self.now.simple.bound c.args.self.now.depth)) c.turns.found c.turns.tokens) _ c.turns._turn c.turns-test.true c.turns.invariant in first_of (search rules, grind (arith, common_steps))

pub turns-preserved : goal.turns-preserved
unfolding many_from
turns-preserved g c = let e = one_more (λ n. many_from n begins_statement (spec.statement c.args.self.now.simple.bound (spec.statements_at c.args.self.now.simple.bound c.args.self.now.depth)) c.turns.found c.turns.tokens) _ c.turns._turn c.turns-test.true c.turns.invariant in first_of (search rules, grind (arith, common_steps))

pub returns : goal.returns
unfolding many_from
returns g c = first_of (search rules, grind (arith, common_steps))
