-- Bounds that the code counts up, and the definitions count down.
use Rattle.std.proofs.Common.{arith, ◌≡◌, ℕ, ◌+◌, ◌-◌, ◌<◌, zero, suc, sym, refl, List, Result}
use Rattle.vhdl_tokens.specs.declared.token.Token.{Token}
use Rattle.vhdl_tree.specs.declared.expressions.Expr.{Expr}
use Rattle.vhdl_reader_expressions.specs.declared.stop.Stop.{Stop}
use Rattle.vhdl_reader_expressions.specs.Steps.{Reads}
use Rattle.vhdl_reader_expressions.specs.Reading.{level, simple_at}

-- a turn of a loop
pub one_more : {A : Type 0} {x : A} (f : ℕ → A) (limit turn : ℕ) → turn < limit → x ≡ f (limit - turn) → x ≡ f (suc (limit - (turn + 1)))
one_more f limit turn less e = let same : limit - turn ≡ suc (limit - (turn + 1)) = omega arith in rw (sym same) e

-- one bracket further in
pub deeper : (turns depth : ℕ) (ts : List Token) (r : Result Expr Stop) (now : List Token) → (depth ≡ 0 → ⊥)
    → Reads (level turns (simple_at turns (depth - 1)) ts) r now → Reads (simple_at turns depth ts) r now
unfolding simple_at
deeper turns zero ts r now some h = absurd (some refl)
deeper turns (suc depth) ts r now some h = let same : suc depth - 1 ≡ depth = omega arith in rw (sym same) h
