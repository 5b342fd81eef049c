-- What may follow an expression, by one number for each kind of token.
use Rattle.std.proofs.Common.{rules, ◌≡◌, ℕ, ◌<◌, ◌≤◌, Bool, true, false, Option, Some, None, List, refl, arith, sym, ◌∙◌, if◌then◌else◌}
use denote.Enum.Bare.{same_true as bare_same}
use Rattle.vhdl_tokens.specs.declared.token.Kind.{Kind}
use Rattle.vhdl_tokens.specs.declared.token.Kind.TheVariants as kind
use Rattle.vhdl_tokens.specs.declared.token.Delimiter.TheVariants as delimiter
use Rattle.vhdl_tokens.specs.declared.reserved.Reserved.TheVariants as reserved
use Rattle.vhdl_tokens.specs.declared.token.Token.{Token}
use Rattle.vhdl_tree.specs.declared.expressions.Operator.{Operator}
use Rattle.vhdl_tree.specs.contracts.expressions.Operator.{the_type}
use Rattle.vhdl_tree.specs.declared.expressions.Direction.{Direction}
use Rattle.vhdl_tree.specs.Words.{kind_of}
use Rattle.vhdl_reader_expressions.specs.Steps.{sees}
use Rattle.vhdl_reader_expressions.proofs.NextToken.{not_seen}
use Rattle.vhdl_tree.specs.Expressions.{same_operator, is_again, chaining, standing_once, again, relational, adding, multiplying, direction_of}
use Rattle.vhdl_reader_expressions.specs.Reading.{begins_part, ends_choice}

-- what goes on: 6 a name or a number, 5 to 1 an operand behind the operators of a level, 0 nothing of these
abbrev pub rank : Option Kind → ℕ
rank (Some kind.Identifier) = 6
rank (Some (kind.Delimiter delimiter.LeftParen)) = 6
rank (Some (kind.Delimiter delimiter.Tick)) = 6
rank (Some (kind.Delimiter delimiter.DoubleStar)) = 5
rank (Some (kind.Delimiter delimiter.Star)) = 4
rank (Some (kind.Delimiter delimiter.Slash)) = 4
rank (Some (kind.Word reserved.Mod)) = 4
rank (Some (kind.Word reserved.Rem)) = 4
rank (Some (kind.Delimiter delimiter.Plus)) = 3
rank (Some (kind.Delimiter delimiter.Minus)) = 3
rank (Some (kind.Delimiter delimiter.Ampersand)) = 3
rank (Some (kind.Delimiter delimiter.Equal)) = 2
rank (Some (kind.Delimiter delimiter.NotEqual)) = 2
rank (Some (kind.Delimiter delimiter.Less)) = 2
rank (Some (kind.Delimiter delimiter.LessEqual)) = 2
rank (Some (kind.Delimiter delimiter.Greater)) = 2
rank (Some (kind.Delimiter delimiter.GreaterEqual)) = 2
rank (Some (kind.Word reserved.And)) = 1
rank (Some (kind.Word reserved.Or)) = 1
rank (Some (kind.Word reserved.Xor)) = 1
rank (Some (kind.Word reserved.Xnor)) = 1
rank (Some (kind.Word reserved.Nand)) = 1
rank (Some (kind.Word reserved.Nor)) = 1
rank _ = 0

-- the token goes on with nothing of rank n and more: at a known token `record { below = omega arith }`
pub record Ends (n : ℕ) (k : Option Kind) : Type 0 where
  pub below : rank k < n

-- another choice follows
abbrev pub is_bar : Option Kind → Bool
is_bar (Some (kind.Delimiter delimiter.Bar)) = true
is_bar _ = false

-- behind a choice that is a simple expression
pub record EndsChoice (k : Option Kind) : Type 0 where
  pub below : rank k < 3
  pub undirected : direction_of k ≡ None

-- behind choices
pub record EndsChoices (k : Option Kind) : Type 0 where
  pub below : rank k < 3
  pub undirected : direction_of k ≡ None
  pub last : is_bar k ≡ false

-- behind an element of an aggregate
pub record EndsItem (k : Option Kind) : Type 0 where
  pub below : rank k < 1
  pub undirected : direction_of k ≡ None
  pub value : ends_choice k ≡ false

-- behind a discrete range
pub record EndsBounds (k : Option Kind) : Type 0 where
  pub below : rank k < 3
  pub undirected : direction_of k ≡ None

-- ---- the ranks of the operators

pub rank_of_again : (o : Operator) (k : Option Kind) (other : Operator) → again o k ≡ Some other → rank k ≡ 1
rank_of_again o (Some (kind.Word reserved.And)) other e = refl
rank_of_again o (Some (kind.Word reserved.Or)) other e = refl
rank_of_again o (Some (kind.Word reserved.Xor)) other e = refl
rank_of_again o (Some (kind.Word reserved.Xnor)) other e = refl
rank_of_again o _ other e = absurd cc

pub rank_of_once : (k : Option Kind) (o : Operator) → standing_once k ≡ Some o → rank k ≡ 1
rank_of_once (Some (kind.Word reserved.Nand)) o e = refl
rank_of_once (Some (kind.Word reserved.Nor)) o e = refl
rank_of_once _ o e = absurd cc

pub rank_of_relational : (k : Option Kind) (o : Operator) → relational k ≡ Some o → rank k ≡ 2
rank_of_relational (Some (kind.Delimiter delimiter.Equal)) o e = refl
rank_of_relational (Some (kind.Delimiter delimiter.NotEqual)) o e = refl
rank_of_relational (Some (kind.Delimiter delimiter.Less)) o e = refl
rank_of_relational (Some (kind.Delimiter delimiter.LessEqual)) o e = refl
rank_of_relational (Some (kind.Delimiter delimiter.Greater)) o e = refl
rank_of_relational (Some (kind.Delimiter delimiter.GreaterEqual)) o e = refl
rank_of_relational _ o e = absurd cc

pub rank_of_adding : (k : Option Kind) (o : Operator) → adding k ≡ Some o → rank k ≡ 3
rank_of_adding (Some (kind.Delimiter delimiter.Plus)) o e = refl
rank_of_adding (Some (kind.Delimiter delimiter.Minus)) o e = refl
rank_of_adding (Some (kind.Delimiter delimiter.Ampersand)) o e = refl
rank_of_adding _ o e = absurd cc

pub rank_of_multiplying : (k : Option Kind) (o : Operator) → multiplying k ≡ Some o → rank k ≡ 4
rank_of_multiplying (Some (kind.Delimiter delimiter.Star)) o e = refl
rank_of_multiplying (Some (kind.Delimiter delimiter.Slash)) o e = refl
rank_of_multiplying (Some (kind.Word reserved.Mod)) o e = refl
rank_of_multiplying (Some (kind.Word reserved.Rem)) o e = refl
rank_of_multiplying _ o e = absurd cc

pub rank_of_chaining : (k : Option Kind) (o : Operator) → chaining k ≡ Some o → rank k ≡ 1
rank_of_chaining (Some (kind.Word reserved.And)) o e = refl
rank_of_chaining (Some (kind.Word reserved.Or)) o e = refl
rank_of_chaining (Some (kind.Word reserved.Xor)) o e = refl
rank_of_chaining (Some (kind.Word reserved.Xnor)) o e = refl
rank_of_chaining _ o e = absurd cc

pub rank_of_direction : (k : Option Kind) (d : Direction) → direction_of k ≡ Some d → rank k ≡ 0
rank_of_direction (Some (kind.Word reserved.To)) d e = refl
rank_of_direction (Some (kind.Word reserved.Downto)) d e = refl
rank_of_direction _ d e = absurd cc

pub rank_of_part : (k : Option Kind) → begins_part k ≡ true → rank k ≡ 6
rank_of_part (Some (kind.Delimiter delimiter.LeftParen)) e = refl
rank_of_part (Some (kind.Delimiter delimiter.Tick)) e = refl
rank_of_part _ e = absurd cc

pub rank_of_choice : (k : Option Kind) → ends_choice k ≡ true → rank k ≡ 0
rank_of_choice (Some (kind.Delimiter delimiter.Bar)) e = refl
rank_of_choice (Some (kind.Delimiter delimiter.Arrow)) e = refl
rank_of_choice _ e = absurd cc

-- ---- so below them there is none

none_of : {O : Type 0} (table : Option Kind → Option O) (k : Option Kind) → ((o : O) → table k ≡ Some o → ⊥) → table k ≡ None
none_of {O = O} table k never = by (table k) refl
  where
    by : (found : Option O) → table k ≡ found → found ≡ None
    by (Some o) e = absurd (never o e)
    by None e = refl

false_of : (test : Option Kind → Bool) (k : Option Kind) → (test k ≡ true → ⊥) → test k ≡ false
false_of test k never = by (test k) refl
  where
    by : (b : Bool) → test k ≡ b → b ≡ false
    by true e = absurd (never e)
    by false e = refl

pub no_multiplying : {k : Option Kind} → Ends 4 k → multiplying k ≡ None
no_multiplying {k} h = none_of multiplying k (λ o e. let r = rank_of_multiplying k o e in omega (arith, r, h.below))

pub no_adding : {k : Option Kind} → Ends 3 k → adding k ≡ None
no_adding {k} h = none_of adding k (λ o e. let r = rank_of_adding k o e in omega (arith, r, h.below))

pub no_relational : {k : Option Kind} → Ends 2 k → relational k ≡ None
no_relational {k} h = none_of relational k (λ o e. let r = rank_of_relational k o e in omega (arith, r, h.below))

pub no_chaining : {k : Option Kind} → Ends 1 k → chaining k ≡ None
no_chaining {k} h = none_of chaining k (λ o e. let r = rank_of_chaining k o e in omega (arith, r, h.below))

pub no_once : {k : Option Kind} → Ends 1 k → standing_once k ≡ None
no_once {k} h = none_of standing_once k (λ o e. let r = rank_of_once k o e in omega (arith, r, h.below))

pub no_again : (o : Operator) {k : Option Kind} → Ends 1 k → again o k ≡ None
no_again o {k} h = none_of (again o) k (λ other e. let r = rank_of_again o k other e in omega (arith, r, h.below))

pub no_part : {k : Option Kind} → Ends 6 k → begins_part k ≡ false
no_part {k} h = false_of begins_part k (λ e. let r = rank_of_part k e in omega (arith, r, h.below))

-- what goes on is no direction, and ends no choice
pub no_direction : (k : Option Kind) → 0 < rank k → direction_of k ≡ None
no_direction k h = none_of direction_of k (λ d e. let r = rank_of_direction k d e in omega (arith, r, h))

pub no_choice : (k : Option Kind) → 0 < rank k → ends_choice k ≡ false
no_choice k h = false_of ends_choice k (λ e. let r = rank_of_choice k e in omega (arith, r, h))

pub no_power : (us : List Token) → Ends 5 (kind_of us) → sees (kind.Delimiter delimiter.DoubleStar) us ≡ false
no_power us h = not_seen (Ends 5) _ us (λ e. let r = e.below in omega (arith, r)) h

pub no_identifier : (us : List Token) → Ends 6 (kind_of us) → sees kind.Identifier us ≡ false
no_identifier us h = not_seen (Ends 6) _ us (λ e. let r = e.below in omega (arith, r)) h

pub no_bar : (us : List Token) → is_bar (kind_of us) ≡ false → sees (kind.Delimiter delimiter.Bar) us ≡ false
no_bar us h = not_seen (λ k. is_bar k ≡ false) _ us (λ e. cc) h

-- ---- what ends by a higher number ends by a lower one

pub ends_down : (m n : ℕ) {k : Option Kind} → m ≤ n → Ends m k → Ends n k
ends_down m n less h = record { below = omega (arith, less, h.below) }

-- a token of this rank follows
pub ends_at : (r n : ℕ) {k : Option Kind} → r < n → rank k ≡ r → Ends n k
ends_at r n less e = record { below = omega (arith, less, e) }

-- chains go on with the same operator
pub again_is : (o : Operator) (k : Option Kind) (other : Operator) → again o k ≡ Some other → other ≡ o
unfolding same_operator
again_is o k other e = by (chaining k) e
  where
    once_by : (b : Bool) (found : Operator) → same_operator found o ≡ b → (if b then Some found else None) ≡ Some other → other ≡ o
    once_by true found s e = let f : found ≡ other = cc in sym f ∙ bare_same the_type (search rules) found o s
    once_by false found s e = absurd cc

    by : (found : Option Operator) → is_again o found ≡ Some other → other ≡ o
    by None e = absurd cc
    by (Some found) e = once_by (same_operator found o) found refl e

pub again_chains : (o : Operator) (k : Option Kind) (other : Operator) → again o k ≡ Some other → chaining k ≡ Some other
again_chains o k other e = by (chaining k) e
  where
    once_by : (b : Bool) (found : Operator) → (if b then Some found else None) ≡ Some other → Some found ≡ Some other
    once_by true found e = e
    once_by false found e = absurd cc

    by : (found : Option Operator) → is_again o found ≡ Some other → found ≡ Some other
    by None e = absurd cc
    by (Some found) e = once_by (same_operator found o) found e

-- an operator that stands once stands in no chain
pub once_unchained : (k : Option Kind) (o : Operator) → standing_once k ≡ Some o → chaining k ≡ None
once_unchained (Some (kind.Word reserved.Nand)) o e = refl
once_unchained (Some (kind.Word reserved.Nor)) o e = refl
once_unchained _ o e = absurd cc
