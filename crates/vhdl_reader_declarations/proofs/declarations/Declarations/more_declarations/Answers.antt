use Rattle.std.proofs.Common.{rules, arith}
use Rattle.std.proofs.lemmas.Grind.{common_steps}
use Rattle.vhdl_reader_declarations.specs.Reading.{begins_declaration}
use Rattle.vhdl_reader_expressions.specs.Steps.{many_from}
use Rattle.vhdl_reader_declarations.specs.Reading as spec
use Rattle.vhdl_reader_declarations.proofs.Turns.{one_more}
use Rattle.vhdl_reader_declarations.proofs.declarations.Declarations.more_declarations.Goals as goal

pub returns-then-not-begins_declaration : goal.returns-then-not-begins_declaration
unfolding many_from
returns-then-not-begins_declaration c = let e = one_more (λ n. many_from n begins_declaration (spec.declaration c.args.self.now.bound) c.turns.found c.turns.tokens) _ c.turns._turn c.turns-test.true c.turns.invariant in first_of (search rules, grind (arith, common_steps))

pub returns-in_err-declaration : goal.returns-in_err-declaration
unfolding many_from
returns-in_err-declaration c = let e = one_more (λ n. many_from n begins_declaration (spec.declaration c.args.self.now.bound) c.turns.found c.turns.tokens) _ c.turns._turn c.turns-test.true c.turns.invariant in first_of (search rules, grind (arith, common_steps))

pub turns-preserved : goal.turns-preserved
unfolding many_from
turns-preserved c = let e = one_more (λ n. many_from n begins_declaration (spec.declaration c.args.self.now.bound) c.turns.found c.turns.tokens) _ c.turns._turn c.turns-test.true c.turns.invariant in first_of (search rules, grind (arith, common_steps))

pub returns : goal.returns
unfolding many_from
returns c = first_of (search rules, grind (arith, common_steps))
