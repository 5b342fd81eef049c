-- What resolving the names of a design file answers.
use Rattle.std.specs.Prelude.{List, None, Result, Ok, Err, Some, ℕ, ◌≡◌}
use Rattle.vhdl_names.specs.Static.{Static}
use Rattle.vhdl_names.specs.Units.{units_of}
use Rattle.vhdl_names.specs.declared.faults.StaticError.{StaticError}
use Rattle.vhdl_tree.specs.declared.units.DesignFile.{DesignFile}
use Rattle.vhdl_units.specs.declared.units.Units.{Units}
use Rattle.vhdl_names.specs.declared.faults.StaticError.TheVariants as static_error

-- No rule is broken, and these are the units of the file; or this rule is broken first. Of want of memory nothing is said.
abbrev pub Resolved : List ℕ → DesignFile → Result Units StaticError → Type 0
Resolved text tree (Ok units) = Static text tree None × (units ≡ units_of text tree)
Resolved text tree (Err (static_error.Static f)) = Static text tree (Some f)
Resolved text tree (Err static_error.NoMemory) = Unit {0}
