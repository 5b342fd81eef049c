use Rattle.std.proofs.Common.{◌≡◌, ◌-◌}
use Rattle.vhdl_reader_expressions.specs.Steps.{many_from}
use Rattle.vhdl_reader_expressions.specs.Reading as spec
use Rattle.vhdl_reader_expressions.specs.Reading.{begins_part}
use Rattle.vhdl_reader_expressions.proofs.grammar.Grammar.parts.Given as goal

abbrev pub invariant-turns : goal.invariant-turns
invariant-turns g l = spec.parts l.self.turns (spec.simple_at l.self.turns l.self.depth) l.fn.found l.fn.tokens ≡ many_from (l._turn-end - l._turn) begins_part (spec.part l.self.turns (spec.simple_at l.self.turns l.self.depth)) l.found l.tokens
