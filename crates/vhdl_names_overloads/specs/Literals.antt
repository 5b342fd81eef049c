-- Overloaded enumeration literals (IEEE Std 1076-2008, clauses 12.3 and 12.5).
use Rattle.std.specs.Prelude.{ℕ, Bool, not, Option, Some, None, List, [], ◌∷◌, find, if◌then◌else◌}
use Rattle.std.specs.List.{filter_map}
use Rattle.vhdl_units.specs.declared.base_type.BaseType.{BaseType}
use Rattle.vhdl_units.specs.declared.entry.Entry.{Entry}
use Rattle.vhdl_units.specs.declared.entry.Entry.TheVariants as entry
use Rattle.vhdl_units.specs.Entries.{is_literal}
use Rattle.vhdl_units.specs.Types.{same}

-- the type of an enumeration literal
unfoldable pub literal_type : Entry → Option BaseType
literal_type (entry.Literal t position) = Some t
literal_type _ = None

-- the types of overloaded literals; a region keeps a literal of a type once, at its first position
unfoldable pub literal_types : List Entry → List BaseType
literal_types entries = filter_map literal_type entries

-- the position in its type of a literal of type t
unfoldable pub position_in : BaseType → Entry → Option ℕ
position_in t (entry.Literal u position) = if same t u then Some position else None
position_in t _ = None

-- one, or else the other
unfoldable pub or_else : Option ℕ → Option ℕ → Option ℕ
or_else (Some n) other = Some n
or_else None other = other

-- the position in its type of the first literal of type t
unfoldable pub position_of : BaseType → List Entry → Option ℕ
position_of t [] = None
position_of t (e ∷ entries) = or_else (position_in t e) (position_of t entries)

-- whether an entry is no enumeration literal
abbrev pub is_other : Entry → Bool
is_other e = not (is_literal e)

-- the first of some entries that is no literal
abbrev pub first_other : List Entry → Option Entry
first_other entries = find is_other entries
