use Rattle.std.proofs.Common.{rules, arith}
use Rattle.std.proofs.lemmas.Grind.{common_steps}
use Rattle.vhdl_tokens.specs.declared.token.Kind.TheVariants as kind
use Rattle.vhdl_tokens.specs.declared.token.Delimiter.TheVariants as delimiter
use Rattle.vhdl_reader_expressions.specs.Steps.{preceded_from, token}
use Rattle.vhdl_reader_declarations.proofs.Turns.{one_more}
use Rattle.vhdl_reader_declarations.proofs.declarations.Declarations.more_identifiers.Goals as goal

pub returns-then-not-eat : goal.returns-then-not-eat
unfolding preceded_from
returns-then-not-eat c = let e = one_more (λ n. preceded_from n (kind.Delimiter delimiter.Comma) (token kind.Identifier) c.turns.found c.turns.tokens) _ c.turns._turn c.turns-test.true c.turns.invariant in first_of (search rules, grind (arith, common_steps))

pub returns-in_err-identifier : goal.returns-in_err-identifier
unfolding preceded_from
returns-in_err-identifier c = let e = one_more (λ n. preceded_from n (kind.Delimiter delimiter.Comma) (token kind.Identifier) c.turns.found c.turns.tokens) _ c.turns._turn c.turns-test.true c.turns.invariant in first_of (search rules, grind (arith, common_steps))

pub turns-preserved : goal.turns-preserved
unfolding preceded_from
turns-preserved c = let e = one_more (λ n. preceded_from n (kind.Delimiter delimiter.Comma) (token kind.Identifier) c.turns.found c.turns.tokens) _ c.turns._turn c.turns-test.true c.turns.invariant in first_of (search rules, grind (arith, common_steps))

pub returns : goal.returns
unfolding preceded_from
returns c = first_of (search rules, grind (arith, common_steps))
