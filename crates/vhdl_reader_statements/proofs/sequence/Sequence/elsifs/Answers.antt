use Rattle.std.proofs.Common.{rules, arith}
use Rattle.std.proofs.lemmas.Grind.{common_steps}
use Rattle.vhdl_tokens.specs.declared.token.Kind.TheVariants as kind
use Rattle.vhdl_tokens.specs.declared.reserved.Reserved.TheVariants as reserved
use Rattle.vhdl_reader_expressions.specs.Steps.{preceded_from}
use Rattle.vhdl_reader_statements.specs.Reading as spec
use Rattle.vhdl_reader_statements.proofs.Turns.{one_more}
use Rattle.vhdl_reader_statements.proofs.sequence.Sequence.elsifs.Goals as goal

pub returns-then-not-eat : goal.returns-then-not-eat
unfolding preceded_from
returns-then-not-eat g c = let e = one_more (λ n. preceded_from n (kind.Word reserved.Elsif) (spec.elsif c.args.self.now.simple.bound (spec.statements_at c.args.self.now.simple.bound c.args.self.now.depth)) c.turns.found c.turns.tokens) _ c.turns._turn c.turns-test.true c.turns.invariant in first_of (search rules, grind (arith, common_steps))

pub returns-in_err-elsif : goal.returns-in_err-elsif
unfolding preceded_from
returns-in_err-elsif g c = let e = one_more (λ n. preceded_from n (kind.Word reserved.Elsif) (spec.elsif c.args.self.now.simple.bound (spec.statements_at c.args.self.now.simple.bound c.args.self.now.depth)) c.turns.found c.turns.tokens) _ c.turns._turn c.turns-test.true c.turns.invariant in first_of (search rules, grind (arith, common_steps))

pub turns-preserved : goal.turns-preserved
unfolding preceded_from
turns-preserved g c = let e = one_more (λ n. preceded_from n (kind.Word reserved.Elsif) (spec.elsif c.args.self.now.simple.bound (spec.statements_at c.args.self.now.simple.bound c.args.self.now.depth)) c.turns.found c.turns.tokens) _ c.turns._turn c.turns-test.true c.turns.invariant in first_of (search rules, grind (arith, common_steps))

pub returns : goal.returns
unfolding preceded_from
returns g c = first_of (search rules, grind (arith, common_steps))
