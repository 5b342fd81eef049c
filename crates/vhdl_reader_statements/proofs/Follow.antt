-- What may follow the parts of statements, and what they begin with.
use Rattle.std.proofs.Common.{◌≡◌, ◌<◌, true, false, Option, Some, List, refl}
use Rattle.vhdl_tokens.specs.declared.token.Kind.{Kind}
use Rattle.vhdl_tokens.specs.declared.token.Kind.TheVariants as kind
use Rattle.vhdl_tokens.specs.declared.token.Token.{Token}
use Rattle.vhdl_tokens.specs.declared.token.Delimiter.TheVariants as delimiter
use Rattle.vhdl_tokens.specs.declared.reserved.Reserved.{Reserved}
use Rattle.vhdl_tokens.specs.declared.reserved.Reserved.TheVariants as reserved
use Rattle.vhdl_tree.specs.declared.statements.Element.{Element}
use Rattle.vhdl_tree.specs.declared.statements.Statement.{Statement}
use Rattle.vhdl_tree.specs.Words.{kind_of}
use Rattle.vhdl_tree.specs.Lists.{Perhaps, Separated}
use Rattle.vhdl_tree.specs.Statements.{IsElement, IsWaveform, IsEnd, IsElse}
use Rattle.vhdl_reader_expressions.specs.Steps.{sees}
use Rattle.vhdl_reader_expressions.proofs.NextToken.{not_seen}
use Rattle.vhdl_reader_expressions.proofs.Begins.{begins_expression}
use Rattle.vhdl_reader_expressions.proofs.Follow.{rank}
use Rattle.vhdl_reader_expressions.proofs.Reached.{expression_starts}
use Rattle.vhdl_reader_statements.specs.Reading.{begins_statement}

-- a token of another kind, or none
abbrev pub Unlike : Kind → Option Kind → Type 0
Unlike w k = k ≡ Some w → ⊥

pub unlike_unseen : (w : Kind) (us : List Token) → Unlike w (kind_of us) → sees w us ≡ false
unlike_unseen w us h = not_seen (Unlike w) w us (λ f. f refl) h

-- behind names with commas between them
pub record EndsNames (k : Option Kind) : Type 0 where
  pub below : rank k < 6
  pub last : Unlike (kind.Delimiter delimiter.Comma) k

-- behind the names of a wait statement
pub record EndsOn (k : Option Kind) : Type 0 where
  pub names : EndsNames k
  pub other : Unlike (kind.Word reserved.On) k

-- behind an element of a waveform
pub record EndsElement (k : Option Kind) : Type 0 where
  pub below : rank k < 1
  pub undelayed : Unlike (kind.Word reserved.After) k

-- behind a waveform
pub record EndsWaveform (k : Option Kind) : Type 0 where
  pub element : EndsElement k
  pub last : Unlike (kind.Delimiter delimiter.Comma) k

-- behind statements
abbrev pub EndsStatements : Option Kind → Type 0
EndsStatements k = begins_statement k ≡ false

-- behind the last statements of an if statement
pub record EndsElse (k : Option Kind) : Type 0 where
  pub statements : EndsStatements k
  pub other : Unlike (kind.Word reserved.Else) k

-- ---- what is behind a part that may be absent

pub perhaps_ends : {A : Type 0} (E : Option Kind → Type 0) {w : Kind} {R : List Token → A → List Token → Type 0} {ts us : List Token} {a : Option A}
    → E (Some w) → Perhaps w R ts a us → E (kind_of us) → E (kind_of ts)
perhaps_ends E here Perhaps.absent h = h
perhaps_ends E here (Perhaps.present r) h = here

pub else_ends : (E : Option Kind → Type 0) {S : List Token → List Statement → List Token → Type 0} {ts us : List Token} {all : List Statement}
    → E (Some (kind.Word reserved.Else)) → IsElse S ts all us → E (kind_of us) → E (kind_of ts)
else_ends E here IsElse.absent h = h
else_ends E here (IsElse.otherwise r) h = here

-- the end of a compound statement
pub at_end : (E : Option Kind → Type 0) {w : Reserved} {ts us : List Token} {name : Option Token} → E (Some (kind.Word reserved.End)) → IsEnd w ts name us → E (kind_of ts)
at_end E here (IsEnd.closed r) = here

-- ---- what a waveform begins with

element_starts : {ts us : List Token} {a : Element} → IsElement ts a us → begins_expression (kind_of ts) ≡ true
element_starts (IsElement.element r after) = expression_starts r

pub waveform_starts : {ts us : List Token} {all : List Element} → IsWaveform ts all us → begins_expression (kind_of ts) ≡ true
waveform_starts (Separated.several r rest) = element_starts r
