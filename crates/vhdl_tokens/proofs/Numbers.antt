-- The number that digits say, digit by digit.
use Rattle.std.proofs.Common.{◌≡◌, ℕ, ◌+◌, ◌*◌, ◌-◌, ◌<◌, ◌≤◌, ◌^◌, Bool, true, false, cond, eqb, Some, None, List, [], ◌∷◌, get_or, drop, length, refl, sym, ◌∙◌, ap, arith, add-one, drop-cons}
use Rattle.std.proofs.lemmas.Bool.{ltb-false, le-ltb, cond-false}
use Rattle.vhdl_tokens.specs.Spelling.{number_from, number, small, is_small, with_digit}

-- the digits so far say n, which is small, and rest is what is left of them
pub record SoFar (digits : List ℕ) (n : ℕ) (rest : List ℕ) : Type 0 where
  pub whole : number_from n rest ≡ number digits
  pub fits : small n ≡ Some n

with_digit_grows : (n d : ℕ) → n ≤ with_digit n d
with_digit_grows n d = grows (eqb d 95)
  where
    grows : (b : Bool) → n ≤ cond b n (10 * n + (d - 48))
    grows true = omega arith
    grows false = omega arith

pub number_grows : (n : ℕ) (digits : List ℕ) → n ≤ number_from n digits
number_grows n [] = omega arith
number_grows n (d ∷ digits) = omega (arith, with_digit_grows n d, number_grows (with_digit n d) digits)

pub small_none : (n : ℕ) → small n ≡ None → 2 ^ 128 ≤ n
small_none n h = at (is_small n) refl h
  where
    at : (b : Bool) → is_small n ≡ b → cond b (Some n) None ≡ None → 2 ^ 128 ≤ n
    at true is e = absurd cc
    at false is e = ltb-false n (2 ^ 128) is

pub large_none : (n : ℕ) → 2 ^ 128 ≤ n → small n ≡ None
large_none n h = cond-false (is_small n) (Some n) None (le-ltb n (2 ^ 128) h)

-- one digit too many
pub too_large : (digits : List ℕ) (n i : ℕ) → SoFar digits n (drop i digits) → i < length digits → None ≡ small (with_digit n (get_or digits i 0)) → None ≡ small (number digits)
too_large digits n i so less e =
    let next : drop i digits ≡ get_or digits i 0 ∷ drop (i + 1) digits = rw add-one (drop-cons digits i 0 less) in
    let d : ℕ = get_or digits i 0 in
    let whole : number_from (with_digit n (get_or digits i 0)) (drop (i + 1) digits) ≡ number digits = sym (ap (number_from n) next) ∙ so.whole in
    sym (large_none (number digits) (omega (arith, whole, number_grows (with_digit n (get_or digits i 0)) (drop (i + 1) digits), small_none (with_digit n (get_or digits i 0)) (sym e))))
