-- The readers of expressions as functions on tokens, beside which the code is proved.
use Rattle.std.specs.Prelude.{ℕ, zero, suc, Bool, true, false, Option, Some, List, [], ◌∷◌, if◌then◌else◌}
use Rattle.vhdl_tokens.specs.declared.token.Kind.{Kind}
use Rattle.vhdl_tokens.specs.declared.token.Kind.TheVariants as kind
use Rattle.vhdl_tokens.specs.declared.token.Token.{Token}
use Rattle.vhdl_tokens.specs.declared.token.Delimiter.TheVariants as delimiter
use Rattle.vhdl_tokens.specs.declared.reserved.Reserved.TheVariants as reserved
use Rattle.vhdl_tree.specs.declared.expressions.Operator.{Operator}
use Rattle.vhdl_tree.specs.declared.expressions.Operator.TheVariants as op
use Rattle.vhdl_tree.specs.declared.expressions.Expr.{Expr, out-Expr}
use Rattle.vhdl_tree.specs.declared.expressions.Expr.TheVariants as expr
use Rattle.vhdl_tree.specs.declared.expressions.Choice.TheOpen.{Expr-F}
use Rattle.vhdl_tree.specs.declared.declarations.Bounds.{Bounds}
use Rattle.vhdl_tree.specs.declared.declarations.Bounds.TheVariants as some_bounds
use Rattle.vhdl_tree.specs.declared.expressions.Link.{Link}
use Rattle.vhdl_tree.specs.declared.expressions.Name.{Name}
use Rattle.vhdl_tree.specs.declared.expressions.Part.{Part}
use Rattle.vhdl_tree.specs.declared.expressions.Part.TheVariants as a_part
use Rattle.vhdl_tree.specs.declared.expressions.Item.{Item}
use Rattle.vhdl_tree.specs.declared.expressions.Choice.{Choice}
use Rattle.vhdl_tree.specs.declared.expressions.Choice.TheVariants as a_choice
use Rattle.vhdl_tree.specs.Expressions.{chaining, standing_once, again, relational, sign, adding, multiplying, prefix, direction_of, link_of, chained, item_of, name_of, bracketed}
use Rattle.vhdl_reader_expressions.specs.declared.tables.Start.{Start}
use Rattle.vhdl_reader_expressions.specs.declared.tables.Start.TheVariants as a_start
use Rattle.vhdl_reader_expressions.specs.Steps.{Parser, ◌>>=◌, ◌>>◌, pure, stop, spent, on, choose, look, here, word, any, token, optional, many_from, preceded_from, operations_from}

-- ---- what the next token is

-- what an operand may begin with
abbrev pub start_of : Option Kind → Start
start_of (Some kind.Identifier) = a_start.Named
start_of (Some kind.Int) = a_start.Numbered
start_of (Some kind.Char) = a_start.Spelled
start_of (Some kind.Text) = a_start.Spelled
start_of (Some kind.Bits) = a_start.Spelled
start_of (Some (kind.Delimiter delimiter.LeftParen)) = a_start.Bracketed
start_of _ = a_start.Other

-- a part of a name begins here
abbrev pub begins_part : Option Kind → Bool
begins_part (Some (kind.Delimiter delimiter.LeftParen)) = true
begins_part (Some (kind.Delimiter delimiter.Tick)) = true
begins_part _ = false

abbrev pub is_others : Option Kind → Bool
is_others (Some (kind.Word reserved.Others)) = true
is_others _ = false

-- behind a simple expression: it was a choice
abbrev pub ends_choice : Option Kind → Bool
ends_choice (Some (kind.Delimiter delimiter.Bar)) = true
ends_choice (Some (kind.Delimiter delimiter.Arrow)) = true
ends_choice _ = false

abbrev pub is_range_word : Option Kind → Bool
is_range_word (Some (kind.Word reserved.Range)) = true
is_range_word _ = false

-- two operands
abbrev pub pair : ℕ → Expr → Operator → Expr → Expr
pair place left o right = expr.Chain place left (link_of o right ∷ [])

abbrev pub begins_name : Option Kind → Bool
begins_name (Some kind.Identifier) = true
begins_name _ = false

-- one level of an expression
abbrev pub Layer : Type 0
Layer = Expr-F Choice Expr Part Item Link Name

-- the bounds that an expression is by itself, where it is a name without a bracket round it
abbrev pub bounds_of : Layer → Parser Bounds
bounds_of (Expr-F.Name n) = pure (some_bounds.Name n)
bounds_of _ = stop

-- ---- the readers, with a bound on the turns of their loops, over the reader of simple expressions one bracket further in

module _ (turns : ℕ) (simple : Parser Expr) where
  unfoldable pub relation_after : ℕ → Expr → Parser Expr
  relation_after place left = choose relational (λ o. do right ← simple; pure (pair place left o right)) (pure left)

  abbrev pub relation_at : ℕ → Parser Expr
  relation_at place = do left ← simple; relation_after place left

  unfoldable pub relation : Parser Expr
  relation = here relation_at

  abbrev pub relations : Operator → List Link → Parser (List Link)
  relations o links = operations_from turns (again o) link_of relation links

  -- what follows the first operator of a chain
  unfoldable pub chain : ℕ → Expr → Operator → Parser Expr
  chain place left o = do right ← relation; links ← relations o (link_of o right ∷ []); pure (chained place left links)

  unfoldable pub once_after : ℕ → Expr → Parser Expr
  once_after place left = choose standing_once (λ o. do right ← relation; pure (pair place left o right)) (pure left)

  unfoldable pub expression_after : ℕ → Expr → Parser Expr
  expression_after place left = choose chaining (chain place left) (once_after place left)

  -- an expression that begins with this simple one
  unfoldable pub expression_from : ℕ → Expr → Parser Expr
  expression_from place left = do first ← relation_after place left; expression_after place first

  abbrev pub expression_at : ℕ → Parser Expr
  expression_at place = do left ← simple; expression_from place left

  unfoldable pub expression : Parser Expr
  expression = here expression_at

  unfoldable pub choice_after : Expr → Parser Choice
  choice_after left = choose direction_of (λ d. do right ← simple; pure (a_choice.Range left d right)) (pure (a_choice.Value left))

  abbrev pub choice_by : Bool → Parser Choice
  choice_by b = if b then (do t ← any; pure (a_choice.Others t)) else (do left ← simple; choice_after left)

  unfoldable pub choice : Parser Choice
  choice = look is_others choice_by

  abbrev pub more_choices : List Choice → Parser (List Choice)
  more_choices found = preceded_from turns (kind.Delimiter delimiter.Bar) choice found

  unfoldable pub choices_from : Choice → Parser (List Choice)
  choices_from first = more_choices (first ∷ [])

  unfoldable pub choices : Parser (List Choice)
  choices = do first ← choice; choices_from first

  -- an element whose first choice is this one
  unfoldable pub item_from : Choice → Parser Item
  item_from first = do all ← choices_from first; word (kind.Delimiter delimiter.Arrow); value ← expression; pure (item_of all value)

  unfoldable pub positional : ℕ → Expr → Parser Item
  positional place left = do value ← expression_from place left; pure (item_of [] value)

  abbrev pub item_as : ℕ → Expr → Bool → Parser Item
  item_as place left b = if b then item_from (a_choice.Value left) else positional place left

  unfoldable pub item_by : ℕ → Expr → Parser Item
  item_by place left = look ends_choice (item_as place left)

  -- an element that begins with this simple expression
  unfoldable pub item_after : ℕ → Expr → Parser Item
  item_after place left = choose direction_of (λ d. do right ← simple; item_from (a_choice.Range left d right)) (item_by place left)

  abbrev pub item_at : ℕ → Parser Item
  item_at place = do left ← simple; item_after place left

  abbrev pub item_start : Bool → Parser Item
  item_start b = if b then (do t ← any; item_from (a_choice.Others t)) else here item_at

  unfoldable pub item : Parser Item
  item = look is_others item_start

  abbrev pub items : List Item → Parser (List Item)
  items found = preceded_from turns (kind.Delimiter delimiter.Comma) item found

  unfoldable pub part_after : ℕ → Expr → Parser Part
  part_after place left = choose direction_of (λ d. do right ← simple; pure (a_part.Slice left d right)) (do value ← expression_from place left; pure (a_part.Index value))

  -- what stands in a bracket behind a name
  abbrev pub argument_at : ℕ → Parser Part
  argument_at place = do left ← simple; part_after place left

  unfoldable pub argument : Parser Part
  argument = here argument_at

  abbrev pub attribute_by : Bool → Parser Part
  attribute_by b = if b then (do t ← any; pure (a_part.Attribute t)) else (do t ← token kind.Identifier; pure (a_part.Attribute t))

  unfoldable pub attribute : Parser Part
  attribute = look is_range_word attribute_by

  unfoldable pub bracketed_part : Parser Part
  bracketed_part = do p ← argument; word (kind.Delimiter delimiter.RightParen); pure p

  unfoldable pub part : Parser Part
  part = on (kind.Delimiter delimiter.LeftParen) bracketed_part (on (kind.Delimiter delimiter.Tick) attribute stop)

  abbrev pub parts : List Part → Parser (List Part)
  parts found = many_from turns begins_part part found

  -- a name that begins with this identifier
  unfoldable pub name_from : Token → Parser Name
  name_from identifier = do all ← parts []; pure (name_of identifier all)

  unfoldable pub name : Parser Name
  name = do identifier ← token kind.Identifier; name_from identifier

  abbrev pub bracket_at : ℕ → Parser Expr
  bracket_at place = do word (kind.Delimiter delimiter.LeftParen); first ← item; all ← items (first ∷ []); word (kind.Delimiter delimiter.RightParen); pure (bracketed place all)

  unfoldable pub bracket : Parser Expr
  bracket = here bracket_at

  unfoldable pub number : Parser Expr
  number = do t ← any; unit ← optional kind.Identifier; pure (expr.Number t unit)

  abbrev pub primary_by : Start → Parser Expr
  primary_by a_start.Named = do n ← name; pure (expr.Name n)
  primary_by a_start.Numbered = number
  primary_by a_start.Spelled = do t ← any; pure (expr.Literal t)
  primary_by a_start.Bracketed = bracket
  primary_by a_start.Other = stop

  unfoldable pub primary : Parser Expr
  primary = look start_of primary_by

  unfoldable pub factor_after : ℕ → Expr → Parser Expr
  factor_after place left = on (kind.Delimiter delimiter.DoubleStar) (do right ← primary; pure (pair place left op.Power right)) (pure left)

  abbrev pub factor_at : ℕ → Parser Expr
  factor_at place = choose prefix (λ o. do a ← primary; pure (expr.Unary place o a)) (do left ← primary; factor_after place left)

  unfoldable pub factor : Parser Expr
  factor = here factor_at

  abbrev pub factors : List Link → Parser (List Link)
  factors links = operations_from turns multiplying link_of factor links

  abbrev pub term_at : ℕ → Parser Expr
  term_at place = do first ← factor; links ← factors []; pure (chained place first links)

  unfoldable pub term : Parser Expr
  term = here term_at

  abbrev pub signed_at : ℕ → Parser Expr
  signed_at place = choose sign (λ o. do a ← term; pure (expr.Unary place o a)) term

  unfoldable pub signed : Parser Expr
  signed = here signed_at

  abbrev pub terms : List Link → Parser (List Link)
  terms links = operations_from turns adding link_of term links

  abbrev pub level_at : ℕ → Parser Expr
  level_at place = do first ← signed; links ← terms []; pure (chained place first links)

  unfoldable pub level : Parser Expr
  level = here level_at

-- a simple expression, with a bound on how deep brackets nest
unfoldable pub simple_at : ℕ → ℕ → Parser Expr
simple_at turns zero = spent
simple_at turns (suc depth) = level turns (simple_at turns depth)

-- ---- discrete ranges

unfoldable pub bounds_alone : Expr → Parser Bounds
bounds_alone left = bounds_of (out-Expr left)

unfoldable pub bounds_by : Bool → Expr → Parser Bounds
bounds_by named left = if named then bounds_alone left else stop

module _ (turns : ℕ) (simple : Parser Expr) where
  -- bounds that begin with this simple expression, and by a name where `named` says so
  unfoldable pub bounds_after : Bool → Expr → Parser Bounds
  bounds_after named left = choose direction_of (λ d. do right ← simple; pure (some_bounds.Range left d right)) (bounds_by named left)

  abbrev pub bounds_start : Bool → Parser Bounds
  bounds_start named = do left ← simple; bounds_after named left

  unfoldable pub bounds : Parser Bounds
  bounds = look begins_name bounds_start

-- ---- the same, with one bound on the turns of loops and on the depth of brackets

unfoldable pub expression_within : ℕ → Parser Expr
expression_within bound = expression bound (simple_at bound bound)

unfoldable pub choices_within : ℕ → Parser (List Choice)
choices_within bound = choices bound (simple_at bound bound)

unfoldable pub name_from_within : ℕ → Token → Parser Name
name_from_within bound = name_from bound (simple_at bound bound)

unfoldable pub name_within : ℕ → Parser Name
name_within bound = name bound (simple_at bound bound)

unfoldable pub bounds_within : ℕ → Parser Bounds
bounds_within bound = bounds bound (simple_at bound bound)
