-- Hiding and overloading (IEEE Std 1076-2008, 12.3 and 12.5).
use Rattle.std.specs.Prelude.{ℕ, List, [], ◌∷◌}
use Rattle.vhdl_units.specs.declared.entry.Entry.{Entry}
use Rattle.vhdl_names_overloads.specs.Hiding.{met}
use Rattle.vhdl_names_scope.specs.Declarations.{Named, own}

-- what a name denotes in the first of these regions, each of which lies in the next, where it denotes
-- `found` around the last
abbrev pub seen : List ℕ → List (List Named) → List Entry → List Entry
seen name [] found = found
seen name (region ∷ around) found = met (own name region) (seen name around found)
