use Rattle.std.proofs.Common.{◌≡◌, ◌-◌}
use Rattle.vhdl_tokens.specs.declared.token.Kind.TheVariants as kind
use Rattle.vhdl_tokens.specs.declared.token.Delimiter.TheVariants as delimiter
use Rattle.vhdl_reader_expressions.specs.Steps.{preceded_from}
use Rattle.vhdl_reader_declarations.specs.Reading as spec
use Rattle.vhdl_reader_declarations.proofs.declarations.Declarations.more_ports.Given as goal

abbrev pub invariant-turns : goal.invariant-turns
invariant-turns l = spec.more_ports l.self.bound l.fn.found l.fn.tokens ≡ preceded_from (l._turn-end - l._turn) (kind.Delimiter delimiter.Semicolon) (spec.port l.self.bound) l.found l.tokens
