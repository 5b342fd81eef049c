-- A function value that reads simple expressions to a depth of brackets.
use Rattle.std.specs.Prelude.{ℕ, Result}
use Rattle.std.specs.declared.alloc.Global.{Global}
use denote.Ref.{MutBor}
use Rattle.vhdl_tokens.specs.declared.token.Token.{Token}
use Rattle.std.specs.Prelude.{List}
use Rattle.vhdl_tree.specs.declared.expressions.Expr.{Expr}
use Rattle.vhdl_reader_expressions.specs.declared.stop.Stop.{Stop}
use Rattle.vhdl_reader_expressions.specs.Steps.{Reads}
use Rattle.vhdl_reader_expressions.specs.Reading.{simple_at}

pub record Nests (turns depth : ℕ) (pre : Global → ℕ → ℕ → MutBor (List Token) → Type 0)
    (post : Global → ℕ → ℕ → MutBor (List Token) → Result Expr Stop → MutBor (List Token) → Type 0) : Type 0 where
  pub callable : (alloc : Global) (old : MutBor (List Token)) → pre alloc turns depth old
  pub reads : (alloc : Global) (old new : MutBor (List Token)) (r : Result Expr Stop) → post alloc turns depth old r new
      → Reads (simple_at turns depth old.now) r new.now
