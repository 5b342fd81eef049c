use Rattle.std.proofs.Common.{◌≡◌, ◌-◌}
use Rattle.vhdl_reader_declarations.specs.Reading.{begins_process_declaration}
use Rattle.vhdl_reader_expressions.specs.Steps.{many_from}
use Rattle.vhdl_reader_declarations.specs.Reading as spec
use Rattle.vhdl_reader_declarations.proofs.declarations.Declarations.more_process_declarations.Given as goal

abbrev pub invariant-turns : goal.invariant-turns
invariant-turns l = spec.more_process_declarations l.self.bound l.fn.found l.fn.tokens ≡ many_from (l._turn-end - l._turn) begins_process_declaration (spec.process_declaration l.self.bound) l.found l.tokens
