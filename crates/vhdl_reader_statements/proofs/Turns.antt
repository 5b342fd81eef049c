-- Bounds that the code counts up, and the definitions count down.
use Rattle.std.proofs.Common.{arith, ◌≡◌, ℕ, ◌+◌, ◌-◌, ◌<◌, zero, suc, sym, refl, List, Result}
use Rattle.vhdl_tokens.specs.declared.token.Token.{Token}
use Rattle.vhdl_tree.specs.declared.statements.Statement.{Statement}
use Rattle.vhdl_reader_expressions.specs.declared.stop.Stop.{Stop}
use Rattle.vhdl_reader_expressions.specs.Steps.{Reads}
use Rattle.vhdl_reader_statements.specs.Reading.{level, statements_at}

-- a turn of a loop
pub one_more : {A : Type 0} {x : A} (f : ℕ → A) (limit turn : ℕ) → turn < limit → x ≡ f (limit - turn) → x ≡ f (suc (limit - (turn + 1)))
one_more f limit turn less e = let same : limit - turn ≡ suc (limit - (turn + 1)) = omega arith in rw (sym same) e

-- one compound statement further in
pub deeper : (bound depth : ℕ) (ts : List Token) (r : Result (List Statement) Stop) (now : List Token) → (depth ≡ 0 → ⊥)
    → Reads (level bound (statements_at bound (depth - 1)) ts) r now → Reads (statements_at bound depth ts) r now
unfolding statements_at
deeper bound zero ts r now some h = absurd (some refl)
deeper bound (suc depth) ts r now some h = let same : suc depth - 1 ≡ depth = omega arith in rw (sym same) h
