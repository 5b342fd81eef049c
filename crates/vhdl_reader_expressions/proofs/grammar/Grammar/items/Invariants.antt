use Rattle.std.proofs.Common.{◌≡◌, ◌-◌}
use Rattle.vhdl_tokens.specs.declared.token.Kind.TheVariants as kind
use Rattle.vhdl_tokens.specs.declared.token.Delimiter.TheVariants as delimiter
use Rattle.vhdl_reader_expressions.specs.Steps.{preceded_from}
use Rattle.vhdl_reader_expressions.specs.Reading as spec
use Rattle.vhdl_reader_expressions.proofs.grammar.Grammar.items.Given as goal

abbrev pub invariant-turns : goal.invariant-turns
invariant-turns g l = spec.items l.self.turns (spec.simple_at l.self.turns l.self.depth) l.fn.found l.fn.tokens ≡ preceded_from (l._turn-end - l._turn) (kind.Delimiter delimiter.Comma) (spec.item l.self.turns (spec.simple_at l.self.turns l.self.depth)) l.found l.tokens
