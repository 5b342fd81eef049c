use Rattle.std.proofs.Common.{◌≡◌, ◌≢◌, ℕ, suc, ◌<◌, Bool, true, false, not, ◌&&◌, ◌||◌, IsTrue, List, [], ◌∷◌, length, get_or, map, refl, sym, ◌∙◌, ap, arith, ℤ, Option, Some, None, Ok, option_and_then}
use Rattle.std.specs.Fmt.{signed_decimal}
use Rattle.vhpi_values.specs.declared.types.Base.{Base}
use Rattle.vhpi_values.specs.declared.types.Base.TheVariants as base
use Rattle.vhpi_values.specs.declared.types.IndexRange.{IndexRange}
use Rattle.vhpi_values.specs.declared.formats.Format.{Format}
use Rattle.vhpi_values.specs.declared.formats.Format.TheVariants as format
use Rattle.vhpi_values.specs.Types.{Subtype, IsSubtype, is_array, is_scalar, is_bit_or_logic, is_character, is_integer, can_be_element, element_count}
use Rattle.vhpi_values.specs.Values.{Fits, IsWithin}
use Rattle.vhpi_values.specs.Formats.{pairs, content, object_content, first, literal_text, string_text, character_at}
use Rattle.vhpi_values.specs.Reading.{reading, format_of, gathered, behind, single, number, byte, character, decimal_text}
use Rattle.vhpi_values.proofs.Numbers.{number-within, within-value, character-back, byte-back}
use Rattle.vhpi_values.proofs.Decimals.{decimal-back}

gathered-ones : {A : Type 0} (f : A → Option ℤ) (g : ℤ → A) (v : List ℤ) → ((k : ℕ) (d : ℤ) → k < length v → f (g (get_or v k d)) ≡ Some (get_or v k d)) → gathered (length v) (map single (map f (map g v))) ≡ Ok v
gathered-ones f g [] each = refl
gathered-ones f g (n ∷ ns) each =
    ap (λ m. gathered (suc (length ns)) (single m ∷ map single (map f (map g ns)))) (each 0 n (omega arith)) ∙ ap (behind (n ∷ [])) (gathered-ones f g ns (λ k d h. each (suc k) d (omega arith)))

gathered-same : (f : ℤ → Option ℤ) (v : List ℤ) → ((k : ℕ) (d : ℤ) → k < length v → f (get_or v k d) ≡ Some (get_or v k d)) → gathered (length v) (map single (map f v)) ≡ Ok v
gathered-same f [] each = refl
gathered-same f (n ∷ ns) each =
    ap (λ m. gathered (suc (length ns)) (single m ∷ map single (map f ns))) (each 0 n (omega arith)) ∙ ap (behind (n ∷ [])) (gathered-same f ns (λ k d h. each (suc k) d (omega arith)))

pub count-scalar : (ty : Subtype) → is_scalar ty ≡ true → element_count ty ≡ 1
count-scalar ty e = by ty.index refl where
  by : (o : Option IndexRange) → ty.index ≡ o → element_count ty ≡ 1
  by None t = rw t refl
  by (Some range) t = let h = rw t at e in cc

-- the number of a scalar is read back
scalar-back : (ty : Subtype) (f : Option ℤ) (v : List ℤ) → Fits ty v → is_scalar ty ≡ true → (IsWithin ty (first v) → f ≡ Some (first v)) → gathered (element_count ty) (single f ∷ []) ≡ Ok v
scalar-back ty f [] fits e h = absurd (omega (arith, fits.count, count-scalar ty e))
scalar-back ty f (n ∷ []) fits e h =
    ap (λ k. gathered k (single f ∷ [])) (count-scalar ty e) ∙ ap (λ m. gathered 1 (single m ∷ [])) (h (fits.within 0 n (omega arith)))
scalar-back ty f (n ∷ m ∷ ns) fits e h = absurd (omega (arith, fits.count, count-scalar ty e))

number-back : (ty : Subtype) (v : List ℤ) → Fits ty v → is_scalar ty ≡ true → gathered (element_count ty) (single (number ty (first v)) ∷ []) ≡ Ok v
number-back ty v fits e = scalar-back ty (number ty (first v)) v fits e (number-within ty (first v))

decimal-text-back : (ty : Subtype) (n : ℤ) → IsSubtype ty → is_integer ty.base ≡ true → IsWithin ty n → decimal_text ty (signed_decimal n) ≡ Some n
decimal-text-back ty n s e w = by ty.base refl e where
  by : (b : Base) → ty.base ≡ b → is_integer b ≡ true → decimal_text ty (signed_decimal n) ≡ Some n
  by base.Integer t e =
      let v = rw t at (within-value ty n s w) in
      ap (option_and_then (number ty)) (decimal-back n v.least v.greatest) ∙ number-within ty n w
  by base.Boolean t e = cc
  by base.Bit t e = cc
  by base.Character t e = cc
  by base.Logic t e = cc
  by (base.Own l) t e = cc
  by base.Time t e = cc

numbers-back : (ty : Subtype) (v : List ℤ) → Fits ty v → gathered (element_count ty) (map single (map (number ty) v)) ≡ Ok v
numbers-back ty v fits =
    ap (λ k. gathered k (map single (map (number ty) v))) (sym fits.count) ∙ gathered-same (number ty) v (λ k d h. number-within ty (get_or v k d) (fits.within k d h))

text-back : (ty : Subtype) (v : List ℤ) → IsSubtype ty → Fits ty v → is_bit_or_logic ty.base ≡ true → gathered (element_count ty) (map single (map (character ty) (literal_text ty.base v))) ≡ Ok v
text-back ty v s fits e =
    ap (λ k. gathered k (map single (map (character ty) (literal_text ty.base v)))) (sym fits.count) ∙ gathered-ones (character ty) (character_at ty.base) v (λ k d h. character-back ty (get_or v k d) s e (fits.within k d h))

string-back : (ty : Subtype) (v : List ℤ) → IsSubtype ty → Fits ty v → is_character ty.base ≡ true → gathered (element_count ty) (map single (map (byte ty) (string_text v))) ≡ Ok v
string-back ty v s fits e =
    ap (λ k. gathered k (map single (map (byte ty) (string_text v)))) (sym fits.count) ∙ gathered-ones (byte ty) _ v (λ k d h. byte-back ty (get_or v k d) s e (fits.within k d h))

left-true : (a b : Bool) → a && b ≡ true → a ≡ true
left-true true b e = refl
left-true false b e = e

right-true : (a b : Bool) → a && b ≡ true → b ≡ true
right-true true b e = e
right-true false b e = cc

-- a base of which there are no arrays
no-array : (a c : Bool) → IsTrue (not a || c) → a ≡ true → c ≡ false → ⊥
no-array true true h ea ec = cc
no-array true false h ea ec = cc
no-array false c h ea ec = cc

object-back : (ty : Subtype) (v : List ℤ) → IsSubtype ty → Fits ty v → (b : Base) (a : Bool) → ty.base ≡ b → is_array ty ≡ a → reading ty (object_content b a v) ≡ Ok v
object-back ty v s fits base.Integer false eb ea = number-back ty v fits (rw ea refl)
object-back ty v s fits base.Integer true eb ea = numbers-back ty v fits
object-back ty v s fits base.Time false eb ea = number-back ty v fits (rw ea refl)
object-back ty v s fits base.Time true eb ea = absurd (no-array _ _ s.element ea (ap can_be_element eb))
object-back ty v s fits base.Character false eb ea = number-back ty v fits (rw ea refl)
object-back ty v s fits base.Character true eb ea = string-back ty v s fits (rw eb refl)
object-back ty v s fits base.Bit false eb ea = number-back ty v fits (rw ea refl)
object-back ty v s fits base.Bit true eb ea = numbers-back ty v fits
object-back ty v s fits base.Logic false eb ea = number-back ty v fits (rw ea refl)
object-back ty v s fits base.Logic true eb ea = numbers-back ty v fits
object-back ty v s fits base.Boolean false eb ea = number-back ty v fits (rw ea refl)
object-back ty v s fits base.Boolean true eb ea = absurd (no-array _ _ s.element ea (ap can_be_element eb))
object-back ty v s fits (base.Own l) false eb ea = number-back ty v fits (rw ea refl)
object-back ty v s fits (base.Own l) true eb ea = absurd (no-array _ _ s.element ea (ap can_be_element eb))

pub reads-back : (ty : Subtype) (v : List ℤ) (f : Format) → IsSubtype ty → Fits ty v → pairs f ty ≡ true → f ≢ format.HexStr → reading ty (content f ty v) ≡ Ok v
reads-back ty v format.BinStr s fits e n = text-back ty v s fits e
reads-back ty v format.HexStr s fits e n = absurd (n refl)
reads-back ty v format.DecStr s fits e n =
    scalar-back ty (decimal_text ty (signed_decimal (first v))) v fits (right-true _ _ e) (decimal-text-back ty (first v) s (left-true _ _ e))
reads-back ty v format.Enum s fits e n = number-back ty v fits (right-true _ _ e)
reads-back ty v format.Int s fits e n = number-back ty v fits (right-true _ _ e)
reads-back ty v format.Logic s fits e n = number-back ty v fits (right-true _ _ e)
reads-back ty v format.Str s fits e n = string-back ty v s fits (left-true _ _ e)
reads-back ty v format.Char s fits e n = number-back ty v fits (right-true _ _ e)
reads-back ty v format.Time s fits e n = number-back ty v fits (right-true _ _ e)
reads-back ty v format.ObjType s fits e n = object-back ty v s fits ty.base (is_array ty) refl refl
reads-back ty v format.EnumVec s fits e n = numbers-back ty v fits
reads-back ty v format.IntVec s fits e n = numbers-back ty v fits
reads-back ty v format.LogicVec s fits e n = numbers-back ty v fits

object-stays : (ty : Subtype) (v : List ℤ) → IsSubtype ty → (b : Base) (a : Bool) → ty.base ≡ b → is_array ty ≡ a → pairs (format_of (object_content b a v)) ty ≡ true
object-stays ty v s base.Integer false eb ea = rw (eb, ea) refl
object-stays ty v s base.Integer true eb ea = rw (eb, ea) refl
object-stays ty v s base.Time false eb ea = rw (eb, ea) refl
object-stays ty v s base.Time true eb ea = absurd (no-array _ _ s.element ea (ap can_be_element eb))
object-stays ty v s base.Character false eb ea = rw (eb, ea) refl
object-stays ty v s base.Character true eb ea = rw (eb, ea) refl
object-stays ty v s base.Bit false eb ea = rw (eb, ea) refl
object-stays ty v s base.Bit true eb ea = rw (eb, ea) refl
object-stays ty v s base.Logic false eb ea = rw (eb, ea) refl
object-stays ty v s base.Logic true eb ea = rw (eb, ea) refl
object-stays ty v s base.Boolean false eb ea = rw (eb, ea) refl
object-stays ty v s base.Boolean true eb ea = absurd (no-array _ _ s.element ea (ap can_be_element eb))
object-stays ty v s (base.Own l) false eb ea = rw (eb, ea) refl
object-stays ty v s (base.Own l) true eb ea = absurd (no-array _ _ s.element ea (ap can_be_element eb))

pub format-stays : (ty : Subtype) (v : List ℤ) (f : Format) → IsSubtype ty → pairs f ty ≡ true → pairs (format_of (content f ty v)) ty ≡ true
format-stays ty v format.ObjType s e = object-stays ty v s ty.base (is_array ty) refl refl
format-stays ty v format.BinStr s e = e
format-stays ty v format.HexStr s e = e
format-stays ty v format.DecStr s e = e
format-stays ty v format.Enum s e = e
format-stays ty v format.Int s e = e
format-stays ty v format.Logic s e = e
format-stays ty v format.Str s e = e
format-stays ty v format.Char s e = e
format-stays ty v format.Time s e = e
format-stays ty v format.EnumVec s e = e
format-stays ty v format.IntVec s e = e
format-stays ty v format.LogicVec s e = e
