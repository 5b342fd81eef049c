-- Why a list of tokens is refused: a syntax fault, or brackets and statements that nest too deep.
use Rattle.std.specs.Prelude.{◌≡◌, ℕ, ◌+◌, ◌<◌, ◌≤◌, Bool, true, false, not, List, [], ◌∷◌, length, take, if◌then◌else◌}
use Rattle.vhdl_tokens.specs.declared.token.Kind.{Kind}
use Rattle.vhdl_tokens.specs.declared.token.Kind.TheVariants as kind
use Rattle.vhdl_tokens.specs.declared.token.Token.{Token}
use Rattle.vhdl_tokens.specs.declared.token.Delimiter.TheVariants as delimiter
use Rattle.vhdl_tokens.specs.declared.reserved.Reserved.TheVariants as reserved
use Rattle.vhdl_tree.specs.declared.units.DesignFile.{DesignFile}
use Rattle.vhdl_tree.specs.Units.{Sentence}

-- some design file begins with the tokens before this place
pub record BeginsSentence (tokens : List Token) (place : ℕ) : Type 0 where
  pub others : List Token
  pub tree : DesignFile
  pub same : take place others ≡ take place tokens
  pub sentence : Sentence others tree

-- the first token with which no design file goes on, or the number of tokens, where they end too early
pub record IsSyntaxFault (tokens : List Token) (place : ℕ) : Type 0 where
  pub within : place ≤ length tokens
  pub early : place < length tokens → (others : List Token) (tree : DesignFile) → take (place + 1) others ≡ take (place + 1) tokens → Sentence others tree → ⊥
  pub ends : place ≡ length tokens → (tree : DesignFile) → Sentence tokens tree → ⊥
  pub begins : BeginsSentence tokens place

-- ---- depth: brackets, and the statements that hold statements

abbrev pub is_end : Kind → Bool
is_end (kind.Word reserved.End) = true
is_end _ = false

-- behind `end`, these words close what they else open
abbrev pub opens : Bool → Kind → Bool
opens after_end (kind.Delimiter delimiter.LeftParen) = true
opens after_end (kind.Word reserved.If) = not after_end
opens after_end (kind.Word reserved.Case) = not after_end
opens after_end (kind.Word reserved.Loop) = not after_end
opens after_end _ = false

abbrev pub closes : Bool → Kind → Bool
closes after_end (kind.Delimiter delimiter.RightParen) = true
closes after_end (kind.Word reserved.If) = after_end
closes after_end (kind.Word reserved.Case) = after_end
closes after_end (kind.Word reserved.Loop) = after_end
closes after_end _ = false

abbrev pub one_if : Bool → ℕ
one_if b = if b then 1 else 0

-- how many tokens open or close something; the flag says that `end` stands before the first of them
abbrev pub opened : Bool → List Token → ℕ
opened after_end [] = 0
opened after_end (t ∷ ts) = one_if (opens after_end t.kind) + opened (is_end t.kind) ts

abbrev pub closed : Bool → List Token → ℕ
closed after_end [] = 0
closed after_end (t ∷ ts) = one_if (closes after_end t.kind) + closed (is_end t.kind) ts

-- how deep brackets and statements may nest
abbrev pub most_depth : ℕ
most_depth = 64

-- the depth at this token, which is what is opened and not closed up to it, is above that
abbrev pub IsTooDeep : List Token → ℕ → Type 0
IsTooDeep tokens place = closed false (take (place + 1) tokens) + most_depth < opened false (take (place + 1) tokens)

-- no token is too deep
abbrev pub NestsWell : List Token → Type 0
NestsWell tokens = (place : ℕ) → place < length tokens → IsTooDeep tokens place → ⊥

-- the first token that is too deep
pub record IsNestingFault (tokens : List Token) (place : ℕ) : Type 0 where
  pub within : place < length tokens
  pub deep : IsTooDeep tokens place
  pub first : (before : ℕ) → before < place → IsTooDeep tokens before → ⊥

-- ---- which of the two is answered

-- the syntax fault, where no token before its own is too deep
pub record IsSyntaxRefusal (tokens : List Token) (place : ℕ) : Type 0 where
  pub fault : IsSyntaxFault tokens place
  pub first : (deep : ℕ) → IsNestingFault tokens deep → place ≤ deep

-- the nesting fault, where its token stands before that of the syntax fault, or where there is no syntax fault
pub record IsNestingRefusal (tokens : List Token) (place : ℕ) : Type 0 where
  pub fault : IsNestingFault tokens place
  pub first : (syntax_at : ℕ) → IsSyntaxFault tokens syntax_at → place < syntax_at

-- a list of tokens has one syntax fault at most
abbrev pub OneSyntaxFault : Type 0
OneSyntaxFault = (tokens : List Token) (place other : ℕ) → IsSyntaxFault tokens place → IsSyntaxFault tokens other → place ≡ other
