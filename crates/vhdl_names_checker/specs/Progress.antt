-- The way along a design file, event by event, and the rules that are broken on it.
use Rattle.std.specs.Prelude.{List, [], ℕ, ◌++◌, ◌∷◌}
use Rattle.vhdl_names_checker.specs.After.{after}
use Rattle.vhdl_names_checker.specs.Around.{Around, beginning}
use Rattle.vhdl_names_checker.specs.Events.{Event}
use Rattle.vhdl_names_checker.specs.Faults.{faults}
use Rattle.vhdl_names_scope.specs.Declarations.{Named}
use Rattle.vhdl_units.specs.declared.fault.Fault.{Fault}

pub record Progress : Type 0 where
  pub text : List ℕ
  -- the architectures of the whole file, by `entity.architecture`
  pub file : List Named
  pub around : Around
  pub broken : List Fault

unfoldable pub step : Event → Progress → Progress
step e p = record p { around = after p.text e p.around; broken = p.broken ++ faults p.text p.file p.around e }

unfoldable pub walk : List Event → Progress → Progress
walk [] p = p
walk (e ∷ events) p = walk events (step e p)

unfoldable pub setting_out : List ℕ → List Named → Progress
setting_out text file = record { text = text; file = file; around = beginning; broken = [] }
