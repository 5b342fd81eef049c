-- What a name may denote (IEEE Std 1076-2008, clause 12.3).
use Rattle.std.specs.Prelude.{Bool, true, false}
use Rattle.vhdl_units.specs.declared.entry.Entry.{Entry}
use Rattle.vhdl_units.specs.declared.entry.Entry.TheVariants as entry

abbrev pub is_literal : Entry → Bool
is_literal (entry.Literal type position) = true
is_literal _ = false
