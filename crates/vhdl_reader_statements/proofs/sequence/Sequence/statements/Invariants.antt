use Rattle.std.proofs.Common.{◌≡◌, ◌-◌}
use Rattle.vhdl_reader_expressions.specs.Steps.{many_from}
use Rattle.vhdl_reader_statements.specs.Reading as spec
use Rattle.vhdl_reader_statements.specs.Reading.{begins_statement}
use Rattle.vhdl_reader_statements.proofs.sequence.Sequence.statements.Given as goal

abbrev pub invariant-turns : goal.invariant-turns
invariant-turns g l = spec.statements l.self.simple.bound (spec.statements_at l.self.simple.bound l.self.depth) l.fn.found l.fn.tokens ≡ many_from (l._turn-end - l._turn) begins_statement (spec.statement l.self.simple.bound (spec.statements_at l.self.simple.bound l.self.depth)) l.found l.tokens
