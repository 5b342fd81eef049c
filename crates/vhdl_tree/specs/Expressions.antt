-- Expressions, one relation a production (IEEE Std 1076-2008, clauses 8 and 9).
use Rattle.std.specs.Prelude.{◌≡◌, ℕ, zero, suc, Bool, true, false, Option, Some, None, List, [], ◌∷◌, if◌then◌else◌}
use denote.Enum.Bare.{sameb}
use Rattle.vhdl_tokens.specs.declared.token.Kind.{Kind}
use Rattle.vhdl_tokens.specs.declared.token.Kind.TheVariants as kind
use Rattle.vhdl_tokens.specs.declared.token.Token.{Token}
use Rattle.vhdl_tokens.specs.declared.token.Delimiter.TheVariants as delimiter
use Rattle.vhdl_tokens.specs.declared.reserved.Reserved.TheVariants as reserved
use Rattle.vhdl_tree.specs.declared.expressions.Operator.{Operator}
use Rattle.vhdl_tree.specs.declared.expressions.Operator.TheVariants as op
use Rattle.vhdl_tree.specs.contracts.expressions.Operator.{the_type}
use Rattle.vhdl_tree.specs.declared.expressions.Unary.{Unary}
use Rattle.vhdl_tree.specs.declared.expressions.Unary.TheVariants as unary
use Rattle.vhdl_tree.specs.declared.expressions.Direction.{Direction}
use Rattle.vhdl_tree.specs.declared.expressions.Direction.TheVariants as direction
use Rattle.vhdl_tree.specs.declared.expressions.Expr.{Expr}
use Rattle.vhdl_tree.specs.declared.expressions.Expr.TheVariants as expr
use Rattle.vhdl_tree.specs.declared.expressions.Link.{Link, roll-Link}
use Rattle.vhdl_tree.specs.declared.expressions.Name.{Name, roll-Name}
use Rattle.vhdl_tree.specs.declared.expressions.Part.{Part}
use Rattle.vhdl_tree.specs.declared.expressions.Part.TheVariants as part
use Rattle.vhdl_tree.specs.declared.expressions.Item.{Item, roll-Item, out-Item}
use Rattle.vhdl_tree.specs.declared.expressions.Choice.{Choice}
use Rattle.vhdl_tree.specs.declared.expressions.Choice.TheVariants as choice
use Rattle.vhdl_tree.specs.Words.{Span, tok, id, word, mark, place_of}
use Rattle.vhdl_tree.specs.Lists.{Many, Separated, Operations, IsOptional}

-- ---- the tables of operators

unfoldable pub same_operator : Operator → Operator → Bool
same_operator = sameb the_type

-- the logical operators that may stand in a chain of one of them
abbrev pub chaining : Option Kind → Option Operator
chaining (Some (kind.Word reserved.And)) = Some op.And
chaining (Some (kind.Word reserved.Or)) = Some op.Or
chaining (Some (kind.Word reserved.Xor)) = Some op.Xor
chaining (Some (kind.Word reserved.Xnor)) = Some op.Xnor
chaining _ = None

-- the logical operators that stand once
abbrev pub standing_once : Option Kind → Option Operator
standing_once (Some (kind.Word reserved.Nand)) = Some op.Nand
standing_once (Some (kind.Word reserved.Nor)) = Some op.Nor
standing_once _ = None

-- the operator o again
abbrev pub is_again : Operator → Option Operator → Option Operator
is_again o None = None
is_again o (Some other) = if same_operator other o then Some other else None

abbrev pub again : Operator → Option Kind → Option Operator
again o k = is_again o (chaining k)

-- comparison ::= = | /= | < | <= | > | >=
abbrev pub relational : Option Kind → Option Operator
relational (Some (kind.Delimiter delimiter.Equal)) = Some op.Equal
relational (Some (kind.Delimiter delimiter.NotEqual)) = Some op.NotEqual
relational (Some (kind.Delimiter delimiter.Less)) = Some op.Less
relational (Some (kind.Delimiter delimiter.LessEqual)) = Some op.LessEqual
relational (Some (kind.Delimiter delimiter.Greater)) = Some op.Greater
relational (Some (kind.Delimiter delimiter.GreaterEqual)) = Some op.GreaterEqual
relational _ = None

-- sign ::= + | -
abbrev pub sign : Option Kind → Option Unary
sign (Some (kind.Delimiter delimiter.Plus)) = Some unary.Plus
sign (Some (kind.Delimiter delimiter.Minus)) = Some unary.Minus
sign _ = None

-- adding ::= + | - | &
abbrev pub adding : Option Kind → Option Operator
adding (Some (kind.Delimiter delimiter.Plus)) = Some op.Add
adding (Some (kind.Delimiter delimiter.Minus)) = Some op.Subtract
adding (Some (kind.Delimiter delimiter.Ampersand)) = Some op.Concatenate
adding _ = None

-- multiplying ::= * | / | mod | rem
abbrev pub multiplying : Option Kind → Option Operator
multiplying (Some (kind.Delimiter delimiter.Star)) = Some op.Multiply
multiplying (Some (kind.Delimiter delimiter.Slash)) = Some op.Divide
multiplying (Some (kind.Word reserved.Mod)) = Some op.Mod
multiplying (Some (kind.Word reserved.Rem)) = Some op.Rem
multiplying _ = None

-- abs | not
abbrev pub prefix : Option Kind → Option Unary
prefix (Some (kind.Word reserved.Abs)) = Some unary.Abs
prefix (Some (kind.Word reserved.Not)) = Some unary.Not
prefix _ = None

-- direction ::= to | downto
abbrev pub direction_of : Option Kind → Option Direction
direction_of (Some (kind.Word reserved.To)) = Some direction.To
direction_of (Some (kind.Word reserved.Downto)) = Some direction.Downto
direction_of _ = None

-- CHAR | STRING | BITS
abbrev pub is_literal : Option Kind → Bool
is_literal (Some kind.Char) = true
is_literal (Some kind.Text) = true
is_literal (Some kind.Bits) = true
is_literal _ = false

-- ---- trees that a production has

abbrev pub link_of : Operator → Expr → Link
link_of o right = roll-Link (record { operator = o; right = right })

-- an operand with no operator behind it has no node of its own
abbrev pub chained : ℕ → Expr → List Link → Expr
chained place first [] = first
chained place first (l ∷ links) = expr.Chain place first (l ∷ links)

-- an element of an aggregate: its choices, if it has some, and its value
abbrev pub item_of : List Choice → Expr → Item
item_of choices value = roll-Item (record { choices = choices; value = value })

abbrev pub name_of : Token → List Part → Name
name_of identifier parts = roll-Name (record { identifier = identifier; parts = parts })

-- A bracket with one element without choices is what that element is, and else an aggregate.
abbrev pub lone : ℕ → Item → List Choice → Expr → Expr
lone place i [] value = value
lone place i (c ∷ choices) value = expr.Aggregate place (i ∷ [])

unfoldable pub bracketed : ℕ → List Item → Expr
bracketed place [] = expr.Aggregate place []
bracketed place (i ∷ []) = lone place i (out-Item i).choices (out-Item i).value
bracketed place (i ∷ j ∷ items) = expr.Aggregate place (i ∷ j ∷ items)

-- ---- the productions, over the simple expressions that stand one bracket further in

module _ (Simple : List Token → Expr → List Token → Type 0) where
  -- relation ::= simple [ comparison simple ]
  pub data IsRelation : List Token → Expr → List Token → Type 0 where
    plain : {ts us : List Token} {a : Expr} → Simple ts a us → IsRelation ts a us
    compared : {ts us vs : List Token} {a b : Expr} {k : Kind} {x : Span} {o : Operator} → Simple ts a (tok k x ∷ us) → relational (Some k) ≡ Some o → Simple us b vs
        → IsRelation ts (expr.Chain (place_of ts) a (link_of o b ∷ [])) vs

  -- expression ::= relation { and relation } | relation { or relation } | relation { xor relation } | relation { xnor relation } | relation nand relation | relation nor relation
  pub data IsExpression : List Token → Expr → List Token → Type 0 where
    chain : {ts us vs : List Token} {a : Expr} {links : List Link} (o : Operator) → IsRelation ts a us → Operations (again o) link_of IsRelation us links vs
        → IsExpression ts (chained (place_of ts) a links) vs
    once : {ts us vs : List Token} {a b : Expr} {k : Kind} {x : Span} {o : Operator} → IsRelation ts a (tok k x ∷ us) → standing_once (Some k) ≡ Some o → IsRelation us b vs
        → IsExpression ts (expr.Chain (place_of ts) a (link_of o b ∷ [])) vs

  -- choice ::= simple [ direction simple ] | others
  pub data IsChoice : List Token → Choice → List Token → Type 0 where
    value : {ts us : List Token} {a : Expr} → Simple ts a us → IsChoice ts (choice.Value a) us
    range : {ts us vs : List Token} {a b : Expr} {k : Kind} {x : Span} {d : Direction} → Simple ts a (tok k x ∷ us) → direction_of (Some k) ≡ Some d → Simple us b vs
        → IsChoice ts (choice.Range a d b) vs
    others : {us : List Token} {x : Span} → IsChoice (word reserved.Others x ∷ us) (choice.Others (word reserved.Others x)) us

  -- choices ::= choice { BAR choice }, where BAR is the delimiter
  abbrev pub IsChoices : List Token → List Choice → List Token → Type 0
  IsChoices = Separated (kind.Delimiter delimiter.Bar) IsChoice

  -- item ::= [ choices => ] expression
  pub data IsItem : List Token → Item → List Token → Type 0 where
    positional : {ts us : List Token} {a : Expr} → IsExpression ts a us → IsItem ts (item_of [] a) us
    named : {ts us vs : List Token} {choices : List Choice} {x : Span} {a : Expr} → IsChoices ts choices (mark delimiter.Arrow x ∷ us) → IsExpression us a vs
        → IsItem ts (item_of choices a) vs

  -- part ::= ( expression ) | ( simple direction simple ) | ' id | ' range
  pub data IsPart : List Token → Part → List Token → Type 0 where
    index : {ts us : List Token} {x y : Span} {a : Expr} → IsExpression ts a (mark delimiter.RightParen y ∷ us) → IsPart (mark delimiter.LeftParen x ∷ ts) (part.Index a) us
    slice : {ts us vs : List Token} {x y z : Span} {a b : Expr} {k : Kind} {d : Direction} → Simple ts a (tok k z ∷ us) → direction_of (Some k) ≡ Some d
        → Simple us b (mark delimiter.RightParen y ∷ vs) → IsPart (mark delimiter.LeftParen x ∷ ts) (part.Slice a d b) vs
    attribute : {us : List Token} {x y : Span} → IsPart (mark delimiter.Tick x ∷ id y ∷ us) (part.Attribute (id y)) us
    range : {us : List Token} {x y : Span} → IsPart (mark delimiter.Tick x ∷ word reserved.Range y ∷ us) (part.Attribute (word reserved.Range y)) us

  -- name ::= id { part }
  pub data IsName : List Token → Name → List Token → Type 0 where
    named : {ts us : List Token} {x : Span} {parts : List Part} → Many IsPart ts parts us → IsName (id x ∷ ts) (name_of (id x) parts) us

  -- primary ::= name | number | CHAR | STRING | BITS | ( item { , item } )
  -- number ::= INT [ id ]
  pub data IsPrimary : List Token → Expr → List Token → Type 0 where
    name : {ts us : List Token} {n : Name} → IsName ts n us → IsPrimary ts (expr.Name n) us
    number : {ts us : List Token} {x : Span} {unit : Option Token} → IsOptional kind.Identifier ts unit us
        → IsPrimary (tok kind.Int x ∷ ts) (expr.Number (tok kind.Int x) unit) us
    literal : {us : List Token} {k : Kind} {x : Span} → is_literal (Some k) ≡ true → IsPrimary (tok k x ∷ us) (expr.Literal (tok k x)) us
    bracket : {ts us : List Token} {x y : Span} {items : List Item} → Separated (kind.Delimiter delimiter.Comma) IsItem ts items (mark delimiter.RightParen y ∷ us)
        → IsPrimary (mark delimiter.LeftParen x ∷ ts) (bracketed x.start items) us

  -- factor ::= primary [ ** primary ] | abs primary | not primary
  pub data IsFactor : List Token → Expr → List Token → Type 0 where
    plain : {ts us : List Token} {a : Expr} → IsPrimary ts a us → IsFactor ts a us
    power : {ts us vs : List Token} {x : Span} {a b : Expr} → IsPrimary ts a (mark delimiter.DoubleStar x ∷ us) → IsPrimary us b vs
        → IsFactor ts (expr.Chain (place_of ts) a (link_of op.Power b ∷ [])) vs
    prefixed : {ts us : List Token} {k : Kind} {x : Span} {o : Unary} {a : Expr} → prefix (Some k) ≡ Some o → IsPrimary ts a us
        → IsFactor (tok k x ∷ ts) (expr.Unary x.start o a) us

  -- term ::= factor { multiplying factor }
  pub data IsTerm : List Token → Expr → List Token → Type 0 where
    factors : {ts us vs : List Token} {a : Expr} {links : List Link} → IsFactor ts a us → Operations multiplying link_of IsFactor us links vs
        → IsTerm ts (chained (place_of ts) a links) vs

  -- [ sign ] term
  pub data IsSigned : List Token → Expr → List Token → Type 0 where
    plain : {ts us : List Token} {a : Expr} → IsTerm ts a us → IsSigned ts a us
    signed : {ts us : List Token} {k : Kind} {x : Span} {o : Unary} {a : Expr} → sign (Some k) ≡ Some o → IsTerm ts a us
        → IsSigned (tok k x ∷ ts) (expr.Unary x.start o a) us

  -- simple ::= [ sign ] term { adding term }
  pub data IsSimple : List Token → Expr → List Token → Type 0 where
    terms : {ts us vs : List Token} {a : Expr} {links : List Link} → IsSigned ts a us → Operations adding link_of IsTerm us links vs
        → IsSimple ts (chained (place_of ts) a links) vs

-- ---- without the parameter: brackets that nest less deep than a number, and then any

abbrev pub SimpleWithin : ℕ → List Token → Expr → List Token → Type 0
SimpleWithin zero ts a us = ⊥
SimpleWithin (suc depth) ts a us = IsSimple (SimpleWithin depth) ts a us

-- the same production at some depth of brackets
abbrev pub Nested : {A : Type 0} → ((List Token → Expr → List Token → Type 0) → List Token → A → List Token → Type 0) → List Token → A → List Token → Type 0
Nested R ts a us = (depth : ℕ) × R (SimpleWithin depth) ts a us

abbrev pub Simple : List Token → Expr → List Token → Type 0
Simple ts a us = (depth : ℕ) × SimpleWithin depth ts a us

abbrev pub Expression : List Token → Expr → List Token → Type 0
Expression = Nested IsExpression

abbrev pub NameOf : List Token → Name → List Token → Type 0
NameOf = Nested IsName

abbrev pub Choices : List Token → List Choice → List Token → Type 0
Choices = Nested IsChoices
