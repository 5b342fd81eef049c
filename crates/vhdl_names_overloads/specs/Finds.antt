-- How what a name denotes is kept.
use Rattle.std.specs.Prelude.{◌≡◌, ℕ, true, length, Option, Some, None, List, [], ◌∷◌, ◌++◌}
use Rattle.std.specs.List.{list_all}
use Rattle.vhdl_units.specs.declared.entry.Entry.{Entry}
use Rattle.vhdl_units.specs.Entries.{is_literal}
use Rattle.vhdl_names_overloads.specs.declared.meanings.Found.{Found}
use Rattle.vhdl_names_overloads.specs.declared.meanings.Found.TheVariants as found

-- lists in a row
abbrev pub flat : {X : Type 0} → List (List X) → List X
flat [] = []
flat (xs ∷ rest) = xs ++ flat rest

abbrev pub found_entries : Found → List Entry
found_entries (found.One e) = e ∷ []
found_entries (found.Literals segments) = flat segments.items

-- the first of a list, and none of the list of none
abbrev pub BeginsWith : {X : Type 0} → Option X → List X → Type 0
BeginsWith None xs = xs ≡ []
BeginsWith {X} (Some x) xs = (rest : List X) × (xs ≡ x ∷ rest)

-- several entries are literals alone
abbrev pub AreLiterals : Found → Type 0
AreLiterals (found.One e) = Unit {0}
AreLiterals (found.Literals segments) = list_all is_literal (flat segments.items) ≡ true

pub record IsFound (f : Found) (len : ℕ) : Type 0 where
  pub literals : AreLiterals f
  pub len_is : len ≡ length (found_entries f)
