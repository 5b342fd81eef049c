use Rattle.std.specs.Prelude.{◌≡◌, ◌≢◌, ◌↔◌, true, List, ℤ, ℕ, Ok, Err, IsTrue}
use Rattle.std.specs.List.{list_all}
use Rattle.vhpi_values.specs.declared.formats.Format.{Format}
use Rattle.vhpi_values.specs.declared.formats.Format.TheVariants as format
use Rattle.vhpi_values.specs.declared.formats.Formatted.{Formatted}
use Rattle.vhpi_values.specs.Types.{Subtype, IsSubtype}
use Rattle.vhpi_values.specs.Values.{Fits, default_value}
use Rattle.vhpi_values.specs.Formats.{pairs, content, literal_text, filled, groups, is_exact}
use Rattle.vhpi_values.specs.Reading.{reading, format_of, wanted, members, IsFirstMisfit}

-- the default value of a type is one of its values
abbrev pub DefaultFits : Type 0
DefaultFits = (ty : Subtype) → Fits ty (default_value ty)

-- a formatted value is of a format that goes with its type
abbrev pub FormatStays : Type 0
FormatStays =
    (ty : Subtype) (value : List ℤ) (f : Format) → IsSubtype ty → pairs f ty ≡ true → pairs (format_of (content f ty value)) ty ≡ true

-- what is read is what was formatted, for every format but HexStr
abbrev pub ReadsBack : Type 0
ReadsBack =
    (ty : Subtype) (value : List ℤ) (f : Format) → IsSubtype ty → Fits ty value → pairs f ty ≡ true → f ≢ format.HexStr → reading ty (content f ty value) ≡ Ok value

-- for HexStr it is, exactly where each digit stands for its group
abbrev pub HexReadsBack : Type 0
HexReadsBack =
    (ty : Subtype) (value : List ℤ) → IsSubtype ty → Fits ty value → pairs format.HexStr ty ≡ true → (reading ty (content format.HexStr ty value) ≡ Ok value) ↔ IsTrue (list_all is_exact (groups (filled (literal_text ty.base value))))

-- what is read is a value of the type
abbrev pub ReadFits : Type 0
ReadFits =
    (ty : Subtype) (from : Formatted) (value : List ℤ) → reading ty from ≡ Ok value → Fits ty value

-- a content that isn't read is refused at the first place where it and the type don't agree
abbrev pub RefusesAtFirstMisfit : Type 0
RefusesAtFirstMisfit =
    (ty : Subtype) (from : Formatted) (place : ℕ) → reading ty from ≡ Err place → IsFirstMisfit (wanted ty from) (members ty from) place
