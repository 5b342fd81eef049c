-- What is always visible (IEEE Std 1076-2008, 16.3, and IEEE.STD_LOGIC_1164).
use Rattle.std.specs.Prelude.{ℕ, ◌+◌, zero, suc, true, false, List, [], ◌∷◌, ◌++◌, flat_map, codes}
use Rattle.vhdl_units.specs.declared.base_type.BaseType.{BaseType}
use Rattle.vhdl_units.specs.declared.base_type.BaseType.TheVariants as base
use Rattle.vhdl_units.specs.declared.entry.Entry.{Entry}
use Rattle.vhdl_units.specs.declared.entry.Entry.TheVariants as entry
use Rattle.vhdl_units.specs.declared.entry.Function.{Function}
use Rattle.vhdl_units.specs.declared.entry.Function.TheVariants as function
use Rattle.vhdl_units.specs.declared.entry.TimeUnit.{TimeUnit}
use Rattle.vhdl_units.specs.declared.entry.TimeUnit.TheVariants as unit
use Rattle.vhdl_names_scope.specs.declared.predefined.Predefined.{Predefined}
use Rattle.vhdl_names_scope.specs.Declarations.{Named}

-- a type or subtype, by its number among them
abbrev pub type_named : List ℕ → ℕ → BaseType → Named
type_named name number type = record { name = name; entry = entry.Subtype (record { number = number; base = type; resolved = false; bounded = false }) }

abbrev pub resolved_named : List ℕ → ℕ → BaseType → Named
resolved_named name number type = record { name = name; entry = entry.Subtype (record { number = number; base = type; resolved = true; bounded = false }) }

-- an enumeration literal, by its position in its type
abbrev pub literal_named : List ℕ → BaseType → ℕ → Named
literal_named name type position = record { name = name; entry = entry.Literal type position }

abbrev pub function_named : List ℕ → Function → Named
function_named name f = record { name = name; entry = entry.Function f }

abbrev pub unit_named : List ℕ → TimeUnit → Named
unit_named name u = record { name = name; entry = entry.Unit u }

unfoldable pub before : List Named
before =
    type_named (codes "boolean") 0 base.Boolean ∷
    literal_named (codes "false") base.Boolean 0 ∷
    literal_named (codes "true") base.Boolean 1 ∷
    type_named (codes "bit") 1 base.Bit ∷
    literal_named (codes "'0'") base.Bit 0 ∷
    literal_named (codes "'1'") base.Bit 1 ∷
    type_named (codes "character") 2 base.Character ∷ []

-- the literal of CHARACTER at a position, a byte between apostrophes
abbrev pub character : ℕ → Named
character position = literal_named (39 ∷ position ∷ 39 ∷ []) base.Character position

-- the first of those that can be spelled, from position 32 on
abbrev pub characters_to : ℕ → List Named
characters_to zero = []
characters_to (suc n) = characters_to n ++ character (32 + n) ∷ []

-- those up to position 126
unfoldable pub characters : List Named
characters = characters_to 95

unfoldable pub behind : List Named
behind =
    type_named (codes "integer") 3 base.Integer ∷
    type_named (codes "natural") 4 base.Integer ∷
    type_named (codes "positive") 5 base.Integer ∷
    type_named (codes "time") 6 base.Time ∷
    type_named (codes "string") 7 base.String ∷
    type_named (codes "bit_vector") 8 base.BitVector ∷
    type_named (codes "integer_vector") 9 base.IntegerVector ∷
    type_named (codes "std_ulogic") 10 base.StdUlogic ∷
    literal_named (codes "'U'") base.StdUlogic 0 ∷
    literal_named (codes "'X'") base.StdUlogic 1 ∷
    literal_named (codes "'0'") base.StdUlogic 2 ∷
    literal_named (codes "'1'") base.StdUlogic 3 ∷
    literal_named (codes "'Z'") base.StdUlogic 4 ∷
    literal_named (codes "'W'") base.StdUlogic 5 ∷
    literal_named (codes "'L'") base.StdUlogic 6 ∷
    literal_named (codes "'H'") base.StdUlogic 7 ∷
    literal_named (codes "'-'") base.StdUlogic 8 ∷
    resolved_named (codes "std_logic") 11 base.StdUlogic ∷
    type_named (codes "std_ulogic_vector") 12 base.StdUlogicVector ∷
    resolved_named (codes "std_logic_vector") 13 base.StdUlogicVector ∷
    function_named (codes "rising_edge") function.RisingEdge ∷
    function_named (codes "falling_edge") function.FallingEdge ∷
    function_named (codes "to_x01") function.ToX01 ∷
    function_named (codes "now") function.Now ∷
    unit_named (codes "fs") unit.Femtosecond ∷
    unit_named (codes "ps") unit.Picosecond ∷
    unit_named (codes "ns") unit.Nanosecond ∷
    unit_named (codes "us") unit.Microsecond ∷
    unit_named (codes "ms") unit.Millisecond ∷
    unit_named (codes "sec") unit.Second ∷
    unit_named (codes "min") unit.Minute ∷
    unit_named (codes "hr") unit.Hour ∷ []

unfoldable pub standard : List Named
standard = (before ++ characters) ++ behind

-- a row of the table of the code
abbrev pub named : Predefined → Named
named row = record { name = row.name.now; entry = row.entry }

-- the numbers of the types and subtypes among declarations, in their order
abbrev pub number_of : Entry → List ℕ
number_of (entry.Subtype mark) = mark.number ∷ []
number_of _ = []

abbrev pub numbers : List Named → List ℕ
numbers all = flat_map (λ d. number_of d.entry) all

-- 0, 1, 2 and so on, so many
abbrev pub count_up : ℕ → List ℕ
count_up zero = []
count_up (suc n) = count_up n ++ n ∷ []
