use Rattle.std.proofs.Common.{◌≡◌, ◌-◌}
use Rattle.vhdl_reader.specs.Reading.{begins_context}
use Rattle.vhdl_reader_expressions.specs.Steps.{many_from}
use Rattle.vhdl_reader.specs.Reading as spec
use Rattle.vhdl_reader.proofs.units.Units.contexts.Given as goal

abbrev pub invariant-turns : goal.invariant-turns
invariant-turns l = spec.contexts l.self.bound l.fn.found l.fn.tokens ≡ many_from (l._turn-end - l._turn) begins_context (spec.context l.self.bound) l.found l.tokens
