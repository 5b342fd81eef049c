-- How the types that an expression can have are kept.
use Rattle.std.specs.Prelude.{◌≡◌, Bool, true, false, List, [], Option, Some, None}
use Rattle.std.specs.List.{list_all}
use Rattle.vhdl_units.specs.declared.base_type.BaseType.{BaseType}
use Rattle.vhdl_units.specs.declared.entry.Entry.{Entry}
use Rattle.vhdl_units.specs.Entries.{is_literal}
use Rattle.vhdl_names_overloads.specs.Literals.{literal_type, literal_types}
use Rattle.vhdl_names_overloads.specs.declared.types.Kept.{Kept}
use Rattle.vhdl_names_overloads.specs.declared.types.Kept.TheVariants as kept

abbrev pub kept_types : Kept → List BaseType
kept_types kept.None = []
kept_types (kept.Listed types) = types
kept_types (kept.Literals entries) = literal_types entries

-- types that are kept as those of entries are types of literals alone
abbrev pub AreOfLiterals : Kept → Type 0
AreOfLiterals (kept.Literals entries) = list_all is_literal entries ≡ true
AreOfLiterals _ = Unit {0}

-- all are literals, or none is
abbrev pub WhetherLiterals : Bool → List Entry → Type 0
WhetherLiterals true entries = list_all is_literal entries ≡ true
WhetherLiterals false entries = literal_types entries ≡ []

abbrev pub type_of : Option Entry → Option BaseType
type_of (Some e) = literal_type e
type_of None = None
