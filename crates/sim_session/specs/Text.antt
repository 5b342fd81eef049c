-- What the text of a design file comes to before it runs: the design of the first form, or why there is none.
use Rattle.std.specs.Prelude.{ℕ, List, Option, Some, None, Result, Ok, Err}
use Rattle.vhdl_tokens.specs.declared.token.Token.{Token}
use Rattle.vhdl_tokens.specs.declared.token.TokenError.TheVariants as token_error
use Rattle.vhdl_tokens.specs.Text.{Tokens, IsFault}
use Rattle.vhdl_tree.specs.declared.units.DesignFile.{DesignFile}
use Rattle.vhdl_tree.specs.Units.{Sentence}
use Rattle.vhdl_tree.specs.Faults.{NestsWell, IsSyntaxRefusal, IsNestingRefusal}
use Rattle.vhdl_units.specs.declared.fault.Fault.{Fault}
use Rattle.vhdl_names.specs.Static.{Static}
use Rattle.sim_design.specs.declared.Design.{Design}
use Rattle.first_form.specs.FirstForm.{IsForm}
use Rattle.sim_session.specs.declared.fault.DesignFault.{DesignFault}
use Rattle.sim_session.specs.declared.fault.DesignFault.TheVariants as design
use Rattle.sim_session.specs.declared.fault.SessionFault.{SessionFault}
use Rattle.sim_session.specs.declared.fault.SessionFault.TheVariants as fault

-- the text is of the language, and this is its tree
pub record IsTreeOf (text : List ℕ) (tree : DesignFile) : Type 0 where
  pub tokens : List Token
  pub spelled : Tokens text tokens
  pub sentence : Sentence tokens tree
  pub nests : NestsWell tokens

-- the text breaks no static rule and is of the first form, and the design is what it stands for
pub record FirstForm (text : List ℕ) (d : Design) : Type 0 where
  pub tree : DesignFile
  pub reads : IsTreeOf text tree
  pub meets : Static text tree None
  pub form : IsForm text tree d

-- a fault of the text's tokens
pub record TokensBreak (text : List ℕ) (Breaks : List Token → Type 0) : Type 0 where
  pub tokens : List Token
  pub spelled : Tokens text tokens
  pub breaks : Breaks tokens

-- the text is of the language, and this is the static rule that it breaks first
pub record IsBroken (text : List ℕ) (f : Fault) : Type 0 where
  pub tree : DesignFile
  pub reads : IsTreeOf text tree
  pub breaks : Static text tree (Some f)

-- the text is of the language and breaks no static rule, and is of no form that can be run so far
pub record IsUnbuilt (text : List ℕ) : Type 0 where
  pub tree : DesignFile
  pub reads : IsTreeOf text tree
  pub meets : Static text tree None
  pub none : (d : Design) → IsForm text tree d → ⊥

-- why the text of a design file can't be run
abbrev pub IsDesignFault : List ℕ → DesignFault → Type 0
IsDesignFault text (design.BadByte place) = IsFault text (token_error.BadByte place)
IsDesignFault text (design.BadLiteral place) = IsFault text (token_error.BadLiteral place)
IsDesignFault text (design.Syntax token) = TokensBreak text (λ tokens. IsSyntaxRefusal tokens token)
IsDesignFault text (design.Nesting token) = TokensBreak text (λ tokens. IsNestingRefusal tokens token)
IsDesignFault text (design.Static f) = IsBroken text f
IsDesignFault text design.NotBuilt = IsUnbuilt text

-- the tree is of no form that runs
abbrev pub HasNoForm : List ℕ → DesignFile → Type 0
HasNoForm text tree = (d : Design) → IsForm text tree d → ⊥

-- the tree meets the static rules, or this is the one that is broken first, or memory ran out
abbrev pub IsMet : Result (Unit {0}) SessionFault → List ℕ → DesignFile → Type 0
IsMet (Ok done) text tree = Static text tree None
IsMet (Err (fault.Design (design.Static f))) text tree = Static text tree (Some f)
IsMet (Err fault.NoMemory) text tree = Unit {0}
IsMet (Err _) text tree = ⊥

-- the design of a tree that meets the static rules, or that it is of no form that runs
abbrev pub IsBuilt : Result Design SessionFault → List ℕ → DesignFile → Type 0
IsBuilt (Ok d) text tree = IsForm text tree d
IsBuilt (Err (fault.Design design.NotBuilt)) text tree = HasNoForm text tree
IsBuilt (Err fault.NoMemory) text tree = Unit {0}
IsBuilt (Err _) text tree = ⊥

-- the design of a tree, or why there is none: a static rule is broken, it is of no form that runs, or memory ran out
abbrev pub IsDesignOf : Result Design SessionFault → List ℕ → DesignFile → Type 0
IsDesignOf (Ok d) text tree = Static text tree None × IsForm text tree d
IsDesignOf (Err (fault.Design (design.Static f))) text tree = Static text tree (Some f)
IsDesignOf (Err (fault.Design design.NotBuilt)) text tree = Static text tree None × HasNoForm text tree
IsDesignOf (Err fault.NoMemory) text tree = Unit {0}
IsDesignOf (Err _) text tree = ⊥

-- a text is refused for its cause, and is not of the first form
pub record IsRefusedText (text : List ℕ) (f : DesignFault) : Type 0 where
  pub why : IsDesignFault text f
  pub none : (d : Design) → FirstForm text d → ⊥

-- what was returned is the design of the text, or why there is none
abbrev pub IsRead : Result Design SessionFault → List ℕ → Type 0
IsRead (Ok d) text = FirstForm text d
IsRead (Err (fault.Design f)) text = IsRefusedText text f
IsRead (Err fault.Host) text = ⊥
IsRead (Err fault.NoMemory) text = Unit {0}
