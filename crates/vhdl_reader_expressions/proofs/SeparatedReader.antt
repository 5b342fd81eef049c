-- The reader of a list with a token of one kind between its members.
use Rattle.std.proofs.Common.{ℕ, List, [], ◌∷◌}
use Rattle.vhdl_tokens.specs.declared.token.Kind.{Kind}
use Rattle.vhdl_reader_expressions.specs.Steps.{Parser, ◌>>=◌, preceded_from}

-- x { w x }
abbrev pub separated : {A : Type 0} → ℕ → Kind → Parser A → Parser (List A)
separated n w p = do a ← p; preceded_from n w p (a ∷ [])
