-- Hiding and overloading in one region (IEEE Std 1076-2008, 12.3 and 12.5).
use Rattle.std.specs.Prelude.{List, ◌++◌, ◌==◌, length, filter, take, if◌then◌else◌}
use Rattle.std.specs.List.{list_all}
use Rattle.vhdl_units.specs.declared.entry.Entry.{Entry}
use Rattle.vhdl_units.specs.Entries.{is_literal}
use Rattle.vhdl_names_overloads.specs.Literals.{is_other}

-- What a name denotes in a region that has these entries of its own for it, where it denotes `found`
-- around the region. Without own entries nothing changes. Literals overload: they are seen together with
-- the literals that are seen from around. Any other declaration hides all else.
abbrev pub met : List Entry → List Entry → List Entry
met own found =
    if length own == 0 then found
    else (if list_all is_literal own then own ++ filter is_literal found
    else take 1 (filter is_other own))

-- the second case on its own: entries of a region that are all literals
abbrev pub overloaded : List Entry → List Entry → List Entry
overloaded own found = if length own == 0 then found else own ++ filter is_literal found
