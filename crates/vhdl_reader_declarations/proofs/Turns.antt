-- Bounds that the code counts up, and the definitions count down.
use Rattle.std.proofs.Common.{arith, ◌≡◌, ℕ, ◌+◌, ◌-◌, ◌<◌, suc, sym}

-- a turn of a loop
pub one_more : {A : Type 0} {x : A} (f : ℕ → A) (limit turn : ℕ) → turn < limit → x ≡ f (limit - turn) → x ≡ f (suc (limit - (turn + 1)))
one_more f limit turn less e = let same : limit - turn ≡ suc (limit - (turn + 1)) = omega arith in rw (sym same) e
