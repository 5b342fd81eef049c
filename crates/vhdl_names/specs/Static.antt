-- The static rules of a design file: that none is broken, or which is answered.
use Rattle.std.specs.Prelude.{Bool, Contains, List, None, Option, Some, [], nat_lt, not, true, ℕ, ◌&&◌, ◌++◌, ◌==◌, ◌||◌, ◌∷◌, ◌≡◌}
use Rattle.vhdl_names_checker.specs.After.{after}
use Rattle.vhdl_names_checker.specs.Around.{Around, beginning}
use Rattle.vhdl_names_checker.specs.Events.{Event}
use Rattle.vhdl_names_checker.specs.Faults.{faults}
use Rattle.vhdl_names.specs.Units.{architectures, of_file}
use Rattle.vhdl_names_scope.specs.Declarations.{Named}
use Rattle.vhdl_tree.specs.declared.units.DesignFile.{DesignFile}
use Rattle.vhdl_units.specs.Faults.{number_of}
use Rattle.vhdl_units.specs.declared.fault.Fault.{Fault}

-- what stands around the place behind some events
unfoldable pub behind : List ℕ → Around → List Event → Around
behind text a [] = a
behind text a (e ∷ events) = behind text (after text e a) events

-- the least place comes first, and at one place the least number of a rule
unfoldable pub is_before : Fault → Fault → Bool
is_before f g = nat_lt f.place g.place || (f.place == g.place && not (nat_lt (number_of g.rule) (number_of f.rule)))

-- A rule is broken at an event, by what stands around it.
pub record BreaksIn (text : List ℕ) (file : List Named) (start : Around) (events : List Event) (f : Fault) : Type 0 where
  pub before : List Event
  pub event : Event
  pub rest : List Event
  pub whole : events ≡ before ++ event ∷ rest
  pub broken : Contains (faults text file (behind text start before) event) f

abbrev pub Breaks : List ℕ → DesignFile → Fault → Type 0
Breaks text tree f = BreaksIn text (architectures text tree) beginning (of_file text tree) f

abbrev pub IsBefore : Fault → Fault → Type 0
IsBefore f g = is_before f g ≡ true

-- No rule is broken; or this is the one that is broken first.
abbrev pub Static : List ℕ → DesignFile → Option Fault → Type 0
Static text tree None = (f : Fault) → Breaks text tree f → ⊥
Static text tree (Some f) = Breaks text tree f × ((g : Fault) → Breaks text tree g → IsBefore f g)
