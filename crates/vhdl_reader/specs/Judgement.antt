-- What a list of tokens is read into: its tree, or why it has none.
use Rattle.std.specs.Prelude.{◌≡◌, ℕ, ◌⊎◌, List, nat_le, if◌then◌else◌, Result, Ok, Err, IsOkAnd, IsErrOf}
use Rattle.vhdl_tokens.specs.declared.token.Token.{Token}
use Rattle.vhdl_tree.specs.declared.units.DesignFile.{DesignFile}
use Rattle.vhdl_tree.specs.Units.{Sentence}
use Rattle.vhdl_tree.specs.Faults.{NestsWell, IsSyntaxFault, IsSyntaxRefusal, IsNestingRefusal}
use Rattle.vhdl_reader_expressions.specs.declared.stop.Stop.{Stop}
use Rattle.vhdl_reader_expressions.specs.declared.stop.Stop.TheVariants as stops
use Rattle.vhdl_reader.specs.declared.error.SyntaxError.{SyntaxError}
use Rattle.vhdl_reader.specs.declared.error.SyntaxError.TheVariants as error

-- A tree only of a sentence that doesn't nest too deep, and each error only at its cause; NoMemory is free.
abbrev pub Judges : List Token → Result DesignFile SyntaxError → Type 0
Judges tokens (Ok tree) = Sentence tokens tree × NestsWell tokens
Judges tokens (Err (error.Syntax place)) = IsSyntaxRefusal tokens place
Judges tokens (Err (error.Nesting place)) = IsNestingRefusal tokens place
Judges tokens (Err error.NoMemory) = Unit {0}

-- the same without a look at the depth
abbrev pub Parses : List Token → Result DesignFile SyntaxError → Type 0
Parses tokens (Ok tree) = Sentence tokens tree
Parses tokens (Err (error.Syntax place)) = IsSyntaxFault tokens place
Parses tokens (Err (error.Nesting place)) = ⊥
Parses tokens (Err error.NoMemory) = Unit {0}

-- the answer is this tree, unless memory ran out
abbrev pub Gives : Result DesignFile SyntaxError → DesignFile → Type 0
Gives result tree = IsOkAnd result (λ t. t ≡ tree) ⊎ IsErrOf result error.NoMemory

-- the error that a stop at this token is
abbrev pub error_at : Stop → ℕ → SyntaxError
error_at stops.Syntax place = error.Syntax place
error_at stops.Bound place = error.NoMemory
error_at stops.NoMemory place = error.NoMemory

-- the error of tokens that are too deep from the one at `deep` on, by what the tokens up to it are read into
abbrev pub at_depth : Result DesignFile SyntaxError → ℕ → SyntaxError
at_depth (Ok tree) deep = error.Nesting deep
at_depth (Err (error.Syntax place)) deep = if nat_le place deep then error.Syntax place else error.Nesting deep
at_depth (Err (error.Nesting place)) deep = error.Nesting deep
at_depth (Err error.NoMemory) deep = error.NoMemory
