use Rattle.std.proofs.Common.{◌≡◌, ◌-◌}
use Rattle.vhdl_reader.specs.Reading.{begins_concurrent}
use Rattle.vhdl_reader_expressions.specs.Steps.{many_from}
use Rattle.vhdl_reader.specs.Reading as spec
use Rattle.vhdl_reader.proofs.units.Units.concurrents.Given as goal

abbrev pub invariant-turns : goal.invariant-turns
invariant-turns l = spec.concurrents l.self.bound l.fn.found l.fn.tokens ≡ many_from (l._turn-end - l._turn) begins_concurrent (spec.concurrent l.self.bound) l.found l.tokens
