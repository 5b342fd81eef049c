-- Types of the design by blocks of 128 numbers, so that types which stand in one list alone are passed over together.
use Rattle.std.specs.Prelude.{◌≡◌, ◌≤◌, ◌<◌, ◌/◌, ◌%◌, ◌^◌, ◌∷◌, ℕ, Option, Some, None, List, [], length, slice_get}
use Rattle.std.specs.Int.RustNames.{bit_and, bit_or}
use Rattle.std.specs.Ordering.{nat_cmp}
use Rattle.std.specs.BTreeMap.{BTreeMap, get}
use Rattle.vhdl_units.specs.declared.base_type.BaseType.TheVariants as base
use Rattle.vhdl_units.specs.declared.entry.Entry.{Entry}
use Rattle.vhdl_units.specs.declared.entry.Entry.TheVariants as entry
use Rattle.vhdl_names_overloads.specs.Literals.{position_of}
use Rattle.vhdl_names_overloads.specs.Tables.{Indexed, own_number}
use Rattle.vhdl_names_overloads.specs.declared.blocks.Block.{Block}
use Rattle.vhdl_names_overloads.specs.declared.blocks.Run.{Run}
use Rattle.vhdl_names_overloads.specs.declared.blocks.Blocks.{Blocks}

-- the number of the design's type that an entry is a literal of
unfoldable pub own_of : Entry → Option ℕ
own_of (entry.Literal t position) = own_number t
own_of _ = None

-- a type's bit is set in the bits of its block
abbrev pub HasBit : ℕ → ℕ → Type 0
HasBit bits n = bit_and bits (2 ^ (n % 128)) ≡ 2 ^ (n % 128)

-- type n stands in a block
pub record Holds (b : Block) (n : ℕ) : Type 0 where
  pub number_is : b.number ≡ n / 128
  pub bit_is : HasBit b.bits n

-- an entry that is a literal of a type in a block, or any entry where there is none
abbrev pub Within : Option Block → Entry → Type 0
Within None e = Unit {0}
Within (Some b) e = (n : ℕ) × (own_of e ≡ Some n) × Holds b n

-- all entries from one place up to another
abbrev pub Inside : Option Block → ℕ → ℕ → List Entry → Type 0
Inside b start end entries = (p : ℕ) (e : Entry) → start ≤ p → p < end → slice_get entries p ≡ Some e → Within b e

-- all entries from a place on: those of the runs, and those behind them
abbrev pub Covers : ℕ → List Run → Option Block → List Entry → Type 0
Covers start [] current entries = (start ≤ length entries) × Inside current start (length entries) entries
Covers start (r ∷ runs) current entries = (start ≤ r.end) × Inside r.block start r.end entries × Covers r.end runs current entries

-- the bits of a block
unfoldable pub bits_in : Option ℕ → ℕ
bits_in (Some bits) = bits
bits_in None = 0

abbrev pub bits_at : BTreeMap ℕ ℕ → ℕ → ℕ
bits_at bits block = bits_in (get nat_cmp bits block)

-- each type of a list has its bit
abbrev pub Marked : BTreeMap ℕ ℕ → List Entry → Type 0
Marked bits entries = (n p : ℕ) → position_of (base.Own n) entries ≡ Some p → HasBit (bits_at bits (n / 128)) n

pub record Summary (b : Blocks) (entries : List Entry) : Type 0 where
  pub marked : Marked b.bits entries
  pub covers : Covers 0 b.closed.items b.current entries

-- a block into which an entry can go
abbrev pub Takes : Option Block → Option ℕ → Type 0
Takes b None = b ≡ None
Takes None (Some n) = ⊥
Takes (Some b) (Some n) = b.number ≡ n / 128

-- a block with one more type
unfoldable pub with_type : Option Block → Option ℕ → Option Block
with_type (Some b) (Some n) = Some (record { number = b.number; bits = bit_or b.bits (2 ^ (n % 128)) })
with_type b _ = b

-- ready for one more entry
pub record Ready (b : Blocks) (e : Entry) : Type 0 where
  pub takes : Takes b.current (own_of e)
  pub marked : (n : ℕ) → own_of e ≡ Some n → HasBit (bits_at b.bits (n / 128)) n

-- no type of a block stands in a list
abbrev pub Apart : Block → List Entry → Type 0
Apart b entries = (n : ℕ) → Holds b n → position_of (base.Own n) entries ≡ None

-- what a table tells of its entries
pub record Tells (own : BTreeMap ℕ ℕ) (visible : List Entry) (other : Option Entry) (blocks : Blocks) (entries : List Entry) : Type 0 where
  pub indexed : Indexed own visible other entries
  pub summary : Summary blocks entries
