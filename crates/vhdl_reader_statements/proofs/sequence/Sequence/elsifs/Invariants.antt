use Rattle.std.proofs.Common.{◌≡◌, ◌-◌}
use Rattle.vhdl_tokens.specs.declared.token.Kind.TheVariants as kind
use Rattle.vhdl_tokens.specs.declared.reserved.Reserved.TheVariants as reserved
use Rattle.vhdl_reader_expressions.specs.Steps.{preceded_from}
use Rattle.vhdl_reader_statements.specs.Reading as spec
use Rattle.vhdl_reader_statements.proofs.sequence.Sequence.elsifs.Given as goal

abbrev pub invariant-turns : goal.invariant-turns
invariant-turns g l = spec.elsifs l.self.simple.bound (spec.statements_at l.self.simple.bound l.self.depth) l.fn.found l.fn.tokens ≡ preceded_from (l._turn-end - l._turn) (kind.Word reserved.Elsif) (spec.elsif l.self.simple.bound (spec.statements_at l.self.simple.bound l.self.depth)) l.found l.tokens
