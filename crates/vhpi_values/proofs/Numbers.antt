use Rattle.std.proofs.Common.{◌≡◌, ℕ, zero, suc, ◌+◌, ◌<◌, Bool, true, false, ◌&&◌, if◌then◌else◌, refl, ◌∙◌, ap, arith, ℤ, pos, negsuc, ◌≤ℤ◌, Some, None, option_and_then, position, slice_index, unsigned_abs, codes, ◌==◌, int_le}
use Rattle.std.specs.Int.{int_min, int_max}
use Rattle.std.proofs.lemmas.Int.{ints, clamps}
use Rattle.vhpi_values.specs.declared.types.Base.{Base}
use Rattle.vhpi_values.specs.declared.types.Base.TheVariants.{Boolean, Bit, Character, Logic, Own, Integer, Time}
use Rattle.vhpi_values.specs.Types.{Subtype, IsSubtype, IsValue, least_of, characters_of, is_bit_or_logic, is_character}
use Rattle.vhpi_values.specs.Values.{lowest, highest, IsWithin}
use Rattle.vhpi_values.specs.Formats.{character_at}
use Rattle.vhpi_values.specs.Reading.{number, byte, character}

-- a number stands for itself alone, and lies in the scalar subtype
pub number-is : (ty : Subtype) (n m : ℤ) → number ty n ≡ Some m → (m ≡ n) × IsWithin ty n
number-is ty n m e = by (int_le (lowest ty) n) refl (int_le n (highest ty)) refl e where
  by : (a : Bool) → int_le (lowest ty) n ≡ a → (b : Bool) → int_le n (highest ty) ≡ b → (if a && b then Some n else None) ≡ Some m → (m ≡ n) × IsWithin ty n
  by true s true t h = (cc, record { low = grind (arith, ints); high = grind (arith, ints) })
  by true s false t h = cc
  by false s b t h = cc

pub number-within : (ty : Subtype) (n : ℤ) → IsWithin ty n → number ty n ≡ Some n
number-within ty n w = by (int_le (lowest ty) n) refl (int_le n (highest ty)) refl where
  by : (a : Bool) → int_le (lowest ty) n ≡ a → (b : Bool) → int_le n (highest ty) ≡ b → number ty n ≡ Some n
  by true s true t = rw (s, t) refl
  by true s false t = absurd (grind (arith, ints, w.high))
  by false s b t = absurd (grind (arith, ints, w.low))

least-below : (a b c n : ℤ) → a ≤ℤ b → a ≤ℤ c → int_min b c ≤ℤ n → a ≤ℤ n
least-below a b c n p q r = omega (arith, ints, clamps)

greatest-above : (a b c n : ℤ) → b ≤ℤ a → c ≤ℤ a → n ≤ℤ int_max b c → n ≤ℤ a
greatest-above a b c n p q r = omega (arith, ints, clamps)

-- what lies in a subtype is a value of its base
pub within-value : (ty : Subtype) (n : ℤ) → IsSubtype ty → IsWithin ty n → IsValue ty.base n
within-value ty n s w =
    record {
      least = least-below _ _ _ _ s.left.least s.right.least w.low;
      greatest = greatest-above _ _ _ _ s.left.greatest s.right.greatest w.high;
    }

-- a number from 0 on is the position that it counts
pub from-zero : (n : ℤ) → pos 0 ≤ℤ n → pos (unsigned_abs n) ≡ n
from-zero (pos n) h = refl
from-zero (negsuc n) h = absurd (omega (arith, ints))

bit-back : (m : ℕ) → m < 2 → position (λ other. other == slice_index (codes "01") m) (codes "01") ≡ Some m
bit-back zero h = refl
bit-back (suc zero) h = refl
bit-back (suc (suc m)) h = absurd (omega arith)

logic-back : (m : ℕ) → m < 9 → position (λ other. other == slice_index (codes "UX01ZWLH-") m) (codes "UX01ZWLH-") ≡ Some m
logic-back zero h = refl
logic-back (suc zero) h = refl
logic-back (suc (suc zero)) h = refl
logic-back (suc (suc (suc zero))) h = refl
logic-back (suc (suc (suc (suc zero)))) h = refl
logic-back (suc (suc (suc (suc (suc zero))))) h = refl
logic-back (suc (suc (suc (suc (suc (suc zero)))))) h = refl
logic-back (suc (suc (suc (suc (suc (suc (suc zero))))))) h = refl
logic-back (suc (suc (suc (suc (suc (suc (suc (suc zero)))))))) h = refl
logic-back (suc (suc (suc (suc (suc (suc (suc (suc (suc m))))))))) h = absurd (omega arith)

small : (n : ℤ) (k : ℕ) → pos 0 ≤ℤ n → n ≤ℤ pos k → unsigned_abs n < k + 1
small (pos n) k p q = omega (arith, ints)
small (negsuc n) k p q = absurd (omega (arith, ints))

place-back : (base : Base) (n : ℤ) → is_bit_or_logic base ≡ true → IsValue base n → position (λ other. other == character_at base n) (characters_of base) ≡ Some (unsigned_abs n)
place-back Bit n e v = bit-back (unsigned_abs n) (small n 1 v.least v.greatest)
place-back Logic n e v = logic-back (unsigned_abs n) (small n 8 v.least v.greatest)
place-back Boolean n e v = cc
place-back Character n e v = cc
place-back (Own l) n e v = cc
place-back Integer n e v = cc
place-back Time n e v = cc

logical-least : (base : Base) → is_bit_or_logic base ≡ true → least_of base ≡ pos 0
logical-least Bit e = refl
logical-least Logic e = refl
logical-least Boolean e = refl
logical-least Character e = refl
logical-least (Own l) e = refl
logical-least Integer e = cc
logical-least Time e = refl

-- the literal character of an element stands for it
pub character-back : (ty : Subtype) (n : ℤ) → IsSubtype ty → is_bit_or_logic ty.base ≡ true → IsWithin ty n → character ty (character_at ty.base n) ≡ Some n
character-back ty n s e w =
    let v = within-value ty n s w in
    let z : pos (unsigned_abs n) ≡ n = from-zero n (rw (logical-least ty.base e) at v.least) in
    ap (option_and_then (λ m. number ty (pos m))) (place-back ty.base n e v) ∙ ap (number ty) z ∙ number-within ty n w

-- the byte of a character stands for it
pub byte-back : (ty : Subtype) (n : ℤ) → IsSubtype ty → is_character ty.base ≡ true → IsWithin ty n → byte ty (unsigned_abs n) ≡ Some n
byte-back ty n s e w =
    let z : pos (unsigned_abs n) ≡ n = from-zero n (rw (at ty.base e) at (within-value ty n s w).least) in
    ap (number ty) z ∙ number-within ty n w where
      at : (base : Base) → is_character base ≡ true → least_of base ≡ pos 0
      at Character e = refl
      at Bit e = refl
      at Logic e = refl
      at Boolean e = refl
      at (Own l) e = refl
      at Integer e = cc
      at Time e = refl
