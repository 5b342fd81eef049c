use Rattle.std.proofs.Common.{◌≡◌, ◌-◌}
use Rattle.vhdl_reader_declarations.specs.Reading.{begins_declaration}
use Rattle.vhdl_reader_expressions.specs.Steps.{many_from}
use Rattle.vhdl_reader_declarations.specs.Reading as spec
use Rattle.vhdl_reader_declarations.proofs.declarations.Declarations.more_declarations.Given as goal

abbrev pub invariant-turns : goal.invariant-turns
invariant-turns l = spec.more_declarations l.self.bound l.fn.found l.fn.tokens ≡ many_from (l._turn-end - l._turn) begins_declaration (spec.declaration l.self.bound) l.found l.tokens
