use Rattle.std.proofs.Common.{◌≡◌, ◌-◌}
use Rattle.vhdl_tree.specs.Expressions.{again, link_of}
use Rattle.vhdl_reader_expressions.specs.Steps.{operations_from}
use Rattle.vhdl_reader_expressions.specs.Reading as spec
use Rattle.vhdl_reader_expressions.proofs.grammar.Grammar.relations.Given as goal

abbrev pub invariant-turns : goal.invariant-turns
invariant-turns g l = spec.relations l.self.turns (spec.simple_at l.self.turns l.self.depth) l.fn.operator l.fn.links l.fn.tokens ≡ operations_from (l._turn-end - l._turn) (again l.fn.operator) link_of (spec.relation l.self.turns (spec.simple_at l.self.turns l.self.depth)) l.links l.tokens
