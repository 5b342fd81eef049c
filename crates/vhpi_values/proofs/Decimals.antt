use Rattle.std.proofs.Common.{◌≡◌, ℕ, suc, ◌+◌, ◌-◌, ◌*◌, ◌^◌, ◌<◌, Bool, true, false, List, [], ◌∷◌, length, fold, refl, ap, arith, rules, tests, ℤ, pos, negsuc, ◌≤ℤ◌, neg_ℤ, Some, option_map, ◌==◌, nat_le}
use Rattle.std.specs.List.{list_all}
use Rattle.std.specs.Char.{is_ascii_digit}
use Rattle.std.specs.Fmt.{decimal, signed_decimal}
use Rattle.std.proofs.lemmas.Fmt.{digits_decimal, digits_value-decimal, decimal_nonempty, length-decimal-le}
use Rattle.std.proofs.lemmas.Str.Parse.{IsNumeralModel, numerals_by_fold}
use Rattle.std.proofs.lemmas.Int.{ints}
use Rattle.std.proofs.lemmas.Bool.Decides.{nat_tests}
use Rattle.vhpi_values.specs.Reading.{natural_number, decimal_number, signed}

-- one more digit of a number
abbrev step : ℕ → ℕ → ℕ
step n c = 10 * n + (c - 48)

own : IsNumeralModel (λ ds. list_all is_ascii_digit ds ≡ true) (fold step 0)
own = numerals_by_fold _ (search rules) (fold step) (search rules)

natural-some : (ds : List ℕ) (n : ℕ) → nat_le 1 (length ds) ≡ true → nat_le (length ds) 20 ≡ true → list_all is_ascii_digit ds ≡ true → fold step 0 ds ≡ n → natural_number ds ≡ Some n
natural-some ds n a b c e = rw (a, b, c, e) refl

natural-decimal : (n : ℕ) → n < 2 ^ 63 → natural_number (decimal n) ≡ Some n
natural-decimal n h =
    let most = length-decimal-le 20 n (omega arith) (omega arith) (omega arith) in
    let least = decimal_nonempty n (omega arith) in
    natural-some (decimal n) n (search (rules, tests)) (search (rules, tests)) (digits_decimal own n (omega arith)) (digits_value-decimal own n (omega arith))

-- digits have no sign
unsigned : (ds : List ℕ) (n : ℕ) → list_all is_ascii_digit ds ≡ true → natural_number ds ≡ Some n → decimal_number ds ≡ Some (pos n)
unsigned [] n h e = cc
unsigned (c ∷ cs) n h e = by (c == 45) refl where
  by : (b : Bool) → (c == 45) ≡ b → decimal_number (c ∷ cs) ≡ Some (pos n)
  by true t =
      let minus : c ≡ 45 = grind (arith, nat_tests) in
      let digit = rw minus at h in
      cc
  by false t = rw (t, e) refl

-- a printed number is read back
pub decimal-back : (n : ℤ) → neg_ℤ (pos (2 ^ 31)) ≤ℤ n → n ≤ℤ pos (2 ^ 31 - 1) → decimal_number (signed_decimal n) ≡ Some n
decimal-back (pos n) p q =
    let s : n < 2 ^ 63 = omega (arith, ints) in
    unsigned (decimal n) n (digits_decimal own n (omega arith)) (natural-decimal n s)
decimal-back (negsuc n) p q =
    let s : suc n < 2 ^ 63 = omega (arith, ints) in
    ap (option_map (signed true)) (natural-decimal (suc n) s)
