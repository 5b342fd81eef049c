-- The first of a list of faults.
use Rattle.std.specs.Prelude.{Contains, List, None, Option, Some, [], if◌then◌else◌, ◌≡◌}
use Rattle.vhdl_names.specs.Static.{IsBefore, is_before}
use Rattle.vhdl_units.specs.declared.fault.Fault.{Fault}

-- a fault that comes before others stays, and of two of one place and rule the first
unfoldable pub earlier : Option Fault → Fault → Fault
earlier None g = g
earlier (Some f) g = if is_before f g then f else g

-- It is one of them, and none comes before it.
abbrev pub IsFirst : List Fault → Option Fault → Type 0
IsFirst faults None = faults ≡ []
IsFirst faults (Some f) = Contains faults f × ((g : Fault) → Contains faults g → IsBefore f g)
