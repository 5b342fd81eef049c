use Rattle.std.proofs.Common.{◌≡◌, ◌-◌}
use Rattle.vhdl_reader.specs.Reading as spec
use Rattle.vhdl_reader.proofs.units.Units.conditions.Given as goal

abbrev pub invariant-turns : goal.invariant-turns
invariant-turns l = spec.conditions l.self.bound l.fn.found l.fn.tokens ≡ spec.conditions_from l.self.bound (l._turn-end - l._turn) l.found l.tokens
