-- A function value that reads statements to a depth of compound statements.
use Rattle.std.specs.Prelude.{ℕ, Result, List}
use Rattle.std.specs.declared.alloc.Global.{Global}
use denote.Ref.{MutBor}
use Rattle.vhdl_tokens.specs.declared.token.Token.{Token}
use Rattle.vhdl_tree.specs.declared.statements.Statement.{Statement}
use Rattle.vhdl_reader_expressions.specs.declared.stop.Stop.{Stop}
use Rattle.vhdl_reader_expressions.specs.Steps.{Reads}
use Rattle.vhdl_reader_statements.specs.Reading.{statements_at}

pub record Nests (bound depth : ℕ) (pre : Global → ℕ → ℕ → MutBor (List Token) → Type 0)
    (post : Global → ℕ → ℕ → MutBor (List Token) → Result (List Statement) Stop → MutBor (List Token) → Type 0) : Type 0 where
  pub callable : (alloc : Global) (old : MutBor (List Token)) → pre alloc bound depth old
  pub reads : (alloc : Global) (old new : MutBor (List Token)) (r : Result (List Statement) Stop) → post alloc bound depth old r new
      → Reads (statements_at bound depth old.now) r new.now
