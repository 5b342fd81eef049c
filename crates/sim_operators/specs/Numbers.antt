-- INTEGER and TIME (IEEE Std 1076-2008, clauses 5.2.3, 5.2.4 and 9.2.5 to 9.2.8).
use Rattle.std.specs.Ordering.{int_eq}
use Rattle.std.specs.Prelude.{ℕ, ◌-◌, ◌^◌, min, Bool, ◌&&◌, ◌||◌, ℤ, pos, neg_ℤ, ◌+ℤ◌, ◌-ℤ◌, ◌*ℤ◌, int_lt, int_le, int_div, int_rem, unsigned_abs, Result, Ok, Err, if◌then◌else◌}
use Rattle.std.specs.Int.{int_pow}
use Rattle.sim_operators.specs.declared.fault.Fault.{Fault}
use Rattle.sim_operators.specs.declared.fault.Fault.TheVariants as fault
use Rattle.sim_elaborated.specs.declared.expressions.Number.{Number}
use Rattle.sim_elaborated.specs.declared.expressions.Number.TheVariants as of_type
use Rattle.sim_elaborated.specs.declared.expressions.Arithmetic.{Arithmetic}
use Rattle.sim_elaborated.specs.declared.expressions.Arithmetic.TheVariants as arithmetic

-- the number, if it lies in INTEGER
abbrev pub in_integer : ℤ → Result ℤ Fault
in_integer n = if int_le (neg_ℤ (pos (2 ^ 31))) n && int_le n (pos (2 ^ 31 - 1)) then Ok n else Err fault.Overflow

-- the number of femtoseconds, if it lies in TIME
abbrev pub in_time : ℤ → Result ℤ Fault
in_time n = if int_le (pos 0) n && int_le n (pos (2 ^ 63 - 1)) then Ok n else Err fault.Overflow

abbrev pub within : Number → ℤ → Result ℤ Fault
within of_type.Integer n = in_integer n
within of_type.Time n = in_time n

-- the number is zero, or has the sign of b
abbrev pub has_sign_of : ℤ → ℤ → Bool
has_sign_of a b = if int_lt a (pos 0) then int_lt b (pos 0) else (int_eq a (pos 0) || int_le (pos 0) b)

-- the remainder of a truncated division has the sign of a; the modulus has that of b
abbrev pub modulus : ℤ → ℤ → ℤ
modulus a b = if has_sign_of (int_rem a b) b then int_rem a b else int_rem a b +ℤ b

-- an exponent is an INTEGER, and so never as great as this
abbrev pub exponent : ℤ → ℕ
exponent b = min (unsigned_abs b) (2 ^ 32 - 1)

abbrev pub power : Number → ℤ → ℤ → Result ℤ Fault
power of a b = if int_lt b (pos 0) then Err (fault.Range b) else within of (int_pow a (exponent b))

-- what is calculated, where the divisor isn't zero
abbrev pub divided : ℤ → Result ℤ Fault → Result ℤ Fault
divided divisor quotient = if int_eq divisor (pos 0) then Err fault.DivZero else quotient

abbrev pub calculated : Arithmetic → Number → ℤ → ℤ → Result ℤ Fault
calculated arithmetic.Add of a b = within of (a +ℤ b)
calculated arithmetic.Subtract of a b = within of (a -ℤ b)
calculated arithmetic.Multiply of a b = within of (a *ℤ b)
calculated arithmetic.Divide of a b = divided b (within of (int_div a b))
calculated arithmetic.Modulo of a b = divided b (within of (modulus a b))
calculated arithmetic.Remainder of a b = divided b (within of (int_rem a b))
calculated arithmetic.Power of a b = power of a b
