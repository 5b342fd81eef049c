use Rattle.std.proofs.Common.{◌≡◌, ◌++◌, ◌-◌, length, map, reverse}
use Rattle.vhdl_names_meaning.specs.Ranges.{choice_at}
use Rattle.vhdl_units.specs.declared.base_type.BaseType.TheVariants as base
use Rattle.vhdl_names_meaning.proofs.operators.choices_at_integer.Given as goal

abbrev pub invariant-loop : goal.invariant-loop
invariant-loop l =
    (length l.rest ≡ length l.fn.choices - l.counter) × (map (choice_at base.Integer) l.rest ++ reverse l.settled.items ≡ map (choice_at base.Integer) l.fn.choices)
