use Rattle.std.specs.Prelude.{◌≡◌, ℕ, suc, zero, ◌+◌, ◌-◌, ◌*◌, ◌/◌, ◌%◌, ◌<◌, max, Bool, true, false, ◌&&◌, ◌||◌, ◌==◌, nat_le, List, [], ◌∷◌, ◌++◌, map, length, fold, replicate, position, ℤ, pos, neg_ℤ, int_le, Option, Some, None, option_map, option_and_then, Result, Ok, Err, if◌then◌else◌, codes, slice_get, ⊤}
use Rattle.std.specs.List.{list_all}
use Rattle.std.specs.Char.{is_ascii_digit}
use Rattle.vhpi_values.specs.declared.formats.Format.{Format}
use Rattle.vhpi_values.specs.declared.formats.Format.TheVariants as format
use Rattle.vhpi_values.specs.declared.formats.Formatted.{Formatted}
use Rattle.vhpi_values.specs.declared.formats.Formatted.TheVariants as formatted
use Rattle.vhpi_values.specs.declared.formats.ValueError.{ValueError}
use Rattle.vhpi_values.specs.declared.formats.ValueError.TheVariants as value_error
use Rattle.vhpi_values.specs.Types.{Subtype, element_count, characters_of}
use Rattle.vhpi_values.specs.Values.{lowest, highest}
use Rattle.vhpi_values.specs.Formats.{filling}

-- the format that a content is of
abbrev pub format_of : Formatted → Format
format_of (formatted.BinStr _) = format.BinStr
format_of (formatted.HexStr _) = format.HexStr
format_of (formatted.DecStr _) = format.DecStr
format_of (formatted.Enum _) = format.Enum
format_of (formatted.Int _) = format.Int
format_of (formatted.Logic _) = format.Logic
format_of (formatted.Str _) = format.Str
format_of (formatted.Char _) = format.Char
format_of (formatted.Time _) = format.Time
format_of (formatted.EnumVec _) = format.EnumVec
format_of (formatted.IntVec _) = format.IntVec
format_of (formatted.LogicVec _) = format.LogicVec

-- A content has members: characters, digits or numbers. A member stands for elements of the value, or doesn't fit.

-- a number stands for itself where it lies in the scalar subtype
abbrev pub number : Subtype → ℤ → Option ℤ
number ty n = if int_le (lowest ty) n && int_le n (highest ty) then Some n else None

-- a byte stands for its position in CHARACTER
abbrev pub byte : Subtype → ℕ → Option ℤ
byte ty c = number ty (pos c)

-- a literal character stands for its position
abbrev pub character : Subtype → ℕ → Option ℤ
character ty c = option_and_then (λ n. number ty (pos n)) (position (λ other. other == c) (characters_of ty.base))

-- 1 to 20 decimal digits
abbrev pub natural_number : List ℕ → Option ℕ
natural_number digits =
    if nat_le 1 (length digits) && nat_le (length digits) 20 && list_all is_ascii_digit digits then Some (fold (λ n c. 10 * n + (c - 48)) 0 digits)
    else None

-- a number with its sign
abbrev pub signed : Bool → ℕ → ℤ
signed is_negative n = if is_negative then neg_ℤ (pos n) else pos n

-- the same after an optional '-'
abbrev pub decimal_number : List ℕ → Option ℤ
decimal_number [] = None
decimal_number (c ∷ cs) =
    if c == 45 then option_map (signed true) (natural_number cs)
    else option_map (signed false) (natural_number (c ∷ cs))

-- a decimal text stands for its number
abbrev pub decimal_text : Subtype → List ℕ → Option ℤ
decimal_text ty text = option_and_then (number ty) (decimal_number text)

-- the bits of a number below 16, from the left
abbrev pub four_bits : ℕ → List ℕ
four_bits n = (48 + n / 8) ∷ (48 + n / 4 % 2) ∷ (48 + n / 2 % 2) ∷ (48 + n % 2) ∷ []

-- the group of four characters of a digit: upper case alone, and 'X' and 'Z' are four of their kind
abbrev pub group_of : ℕ → Option (List ℕ)
group_of digit =
    if (digit == 88) || (digit == 90) then Some (replicate 4 digit)
    else option_map four_bits (position (λ other. other == digit) (codes "0123456789ABCDEF"))

-- an element before others, where all fit
abbrev pub before : Option ℤ → Option (List ℤ) → Option (List ℤ)
before n ns = option_and_then (λ m. option_map (λ ms. m ∷ ms) ns) n

-- a group of characters: a filled place has '0' and stands for no element, each other for one
abbrev pub places : Subtype → ℕ → List ℕ → Option (List ℤ)
places ty filled [] = Some []
places ty zero (c ∷ cs) = before (character ty c) (places ty zero cs)
places ty (suc filled) (c ∷ cs) = if c == 48 then places ty filled cs else None

-- a digit stands for its group
abbrev pub digit : Subtype → ℕ → ℕ → Option (List ℤ)
digit ty filled d = option_and_then (places ty filled) (group_of d)

-- digits, of which the leftmost alone has filled places
abbrev pub digits : Subtype → ℕ → List ℕ → List (Option (List ℤ))
digits ty filled [] = []
digits ty filled (d ∷ ds) = digit ty filled d ∷ map (digit ty 0) ds

-- one element
abbrev pub single : Option ℤ → Option (List ℤ)
single n = option_map (λ m. m ∷ []) n

-- what each member of a content stands for
abbrev pub members : Subtype → Formatted → List (Option (List ℤ))
members ty (formatted.BinStr text) = map single (map (character ty) text)
members ty (formatted.HexStr text) = digits ty (filling (element_count ty)) text
members ty (formatted.DecStr text) = single (decimal_text ty text) ∷ []
members ty (formatted.Enum n) = single (number ty n) ∷ []
members ty (formatted.Int n) = single (number ty n) ∷ []
members ty (formatted.Logic n) = single (number ty n) ∷ []
members ty (formatted.Str text) = map single (map (byte ty) text)
members ty (formatted.Char n) = single (number ty n) ∷ []
members ty (formatted.Time n) = single (number ty n) ∷ []
members ty (formatted.EnumVec ns) = map single (map (number ty) ns)
members ty (formatted.IntVec ns) = map single (map (number ty) ns)
members ty (formatted.LogicVec ns) = map single (map (number ty) ns)

-- how many members the type asks for: a digit stands for four elements, all else for one
abbrev pub wanted : Subtype → Formatted → ℕ
wanted ty (formatted.HexStr _) = (element_count ty + 3) / 4
wanted ty _ = element_count ty

-- elements before those that are read after them
abbrev pub behind : List ℤ → Result (List ℤ) ℕ → Result (List ℤ) ℕ
behind elements (Ok more) = Ok (elements ++ more)
behind elements (Err place) = Err (place + 1)

-- so many members one after another, or the place of the first that doesn't fit, is missing or is one too many
abbrev pub gathered : ℕ → List (Option (List ℤ)) → Result (List ℤ) ℕ
gathered zero [] = Ok []
gathered zero (_ ∷ _) = Err 0
gathered (suc n) [] = Err 0
gathered (suc n) (None ∷ _) = Err 0
gathered (suc n) (Some elements ∷ more) = behind elements (gathered n more)

-- the value that a content stands for, or the place where it doesn't
abbrev pub reading : Subtype → Formatted → Result (List ℤ) ℕ
reading ty from = gathered (wanted ty from) (members ty from)

-- there is a member at the place, it is asked for, and it fits
abbrev pub FitsAt : ℕ → List (Option (List ℤ)) → ℕ → Type 0
FitsAt n ms place = (elements : List ℤ) × (place < n) × (slice_get ms place ≡ Some (Some elements))

-- the first place at which a content and its type don't agree
pub record IsFirstMisfit (n : ℕ) (ms : List (Option (List ℤ))) (place : ℕ) : Type 0 where
  pub before : (k : ℕ) → k < place → FitsAt n ms k
  pub here : FitsAt n ms place → ⊥
  pub is_place : place < max n (length ms)

-- what a reader answers: the value, or the place where there is none; want of memory may come at any time
abbrev pub Answers : {T : Type 0} → (T → List ℤ) → Result T ValueError → Result (List ℤ) ℕ → Type 0
Answers view (Ok value) read = read ≡ Ok (view value)
Answers view (Err (value_error.BadValue place)) read = read ≡ Err place
Answers view (Err value_error.NoMemory) read = ⊤
Answers view (Err value_error.BadFormat) read = ⊥
