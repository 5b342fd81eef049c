use Rattle.std.proofs.Common.{◌≡◌, ◌++◌, drop, filter}
use Rattle.std.specs.Prelude.{option_to_list}
use Rattle.vhdl_names_rules.specs.Cases.{is_choosable}
use Rattle.vhdl_names_rules.proofs.cases.only_choosable.Given as goal

abbrev pub invariant-loop-place : goal.invariant-loop-place
invariant-loop-place l = option_to_list l.chosen ++ filter is_choosable (drop l.place l.types) ≡ filter is_choosable l.types
