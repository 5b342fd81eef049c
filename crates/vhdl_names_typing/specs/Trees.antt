-- Whole expressions and names: what a node tells, one line a production (IEEE Std 1076-2008, clauses 8 and 9).
use Rattle.std.specs.Prelude.{List, ℕ}
use Rattle.vhdl_tokens.specs.declared.token.Token.{Token}
use Rattle.vhdl_tree.specs.declared.declarations.Bounds.{Bounds}
use Rattle.vhdl_tree.specs.declared.expressions.Choice.{Choice}
use Rattle.vhdl_tree.specs.declared.expressions.Expr.{Expr}
use Rattle.vhdl_tree.specs.declared.expressions.Item.{Item}
use Rattle.vhdl_tree.specs.declared.expressions.Link.{Link}
use Rattle.vhdl_tree.specs.declared.expressions.Name.{Name}
use Rattle.vhdl_tree.specs.declared.expressions.Part.{Part}
use Rattle.vhdl_units.specs.declared.entry.Entry.{Entry}
use Rattle.vhdl_names_typing.specs.Expressions.{aggregate_told, joined_by, operand, unary_told}
use Rattle.vhdl_names_typing.specs.Literals.{number_told, spelled_told}
use Rattle.vhdl_names_typing.specs.Names.{name_told, value_of}
use Rattle.vhdl_names_typing.specs.Ranges.{range_name}
use Rattle.vhdl_names_typing.specs.declared.told.BoundsTold.{BoundsTold}
use Rattle.vhdl_names_typing.specs.declared.told.ChoiceTold.{ChoiceTold}
use Rattle.vhdl_names_typing.specs.declared.told.ItemTold.{ItemTold}
use Rattle.vhdl_names_typing.specs.declared.told.LinkTold.{LinkTold}
use Rattle.vhdl_names_typing.specs.declared.told.NameTold.{NameTold}
use Rattle.vhdl_names_typing.specs.declared.told.PartTold.{PartTold}
use Rattle.vhdl_names_typing.specs.declared.told.Told.{Told}
use Rattle.vhdl_tree.specs.declared.declarations.Bounds.TheVariants as bounds
use Rattle.vhdl_names_typing.specs.declared.told.BoundsTold.TheVariants as bounds_told
use Rattle.vhdl_names_typing.specs.declared.told.ChoiceTold.TheVariants as choice_told
use Rattle.vhdl_names_typing.specs.declared.told.PartTold.TheVariants as part_told
use Rattle.vhdl_tree.specs.declared.expressions.Choice.TheOpen.{Choice-F, Expr-F, Part-F, Item-F, Link-F, Name-F}  -- keep
use Rattle.vhdl_tree.specs.declared.expressions.Choice.TheFolds.{fold-Expr, fold-Name, fold-Choice, fold-Item, fold-Link, fold-Part}  -- keep

abbrev pub choice_step : Choice-F ChoiceTold Told PartTold ItemTold LinkTold NameTold → ChoiceTold
choice_step (Choice-F.Value told) = choice_told.Value told
choice_step (Choice-F.Range left direction right) = choice_told.Range left right
choice_step (Choice-F.Others word) = choice_told.Others word.start

module _ (text : List ℕ) (look : Token → List Entry) where
  abbrev pub expr_step : Expr-F ChoiceTold Told PartTold ItemTold LinkTold NameTold → Told
  expr_step (Expr-F.Name n) = value_of n
  expr_step (Expr-F.Number token unit) = number_told text look token unit
  expr_step (Expr-F.Literal token) = spelled_told text look token
  expr_step (Expr-F.Unary place op told) = unary_told place op told
  expr_step (Expr-F.Chain place first links) = joined_by (operand place first) links
  expr_step (Expr-F.Aggregate place items) = aggregate_told place items

  abbrev pub part_step : Part-F ChoiceTold Told PartTold ItemTold LinkTold NameTold → PartTold
  part_step (Part-F.Index told) = part_told.Index told
  part_step (Part-F.Slice left direction right) = part_told.Slice left right
  part_step (Part-F.Attribute word) = part_told.Attribute word

  abbrev pub item_step : Item-F ChoiceTold Told PartTold ItemTold LinkTold NameTold → ItemTold
  item_step item = record { choices = item.choices; value = item.value }

  abbrev pub link_step : Link-F ChoiceTold Told PartTold ItemTold LinkTold NameTold → LinkTold
  link_step link = record { operator = link.operator; right = link.right }

  abbrev pub name_step : Name-F ChoiceTold Told PartTold ItemTold LinkTold NameTold → NameTold
  name_step name = name_told text name.identifier.start (look name.identifier) name.parts

  -- what an expression tells
  abbrev pub told : Expr → Told
  told = fold-Expr ChoiceTold Told PartTold ItemTold LinkTold NameTold choice_step expr_step part_step item_step link_step name_step

  abbrev pub told_name : Name → NameTold
  told_name = fold-Name ChoiceTold Told PartTold ItemTold LinkTold NameTold choice_step expr_step part_step item_step link_step name_step

  abbrev pub told_choice : Choice → ChoiceTold
  told_choice = fold-Choice ChoiceTold Told PartTold ItemTold LinkTold NameTold choice_step expr_step part_step item_step link_step name_step

  abbrev pub told_item : Item → ItemTold
  told_item = fold-Item ChoiceTold Told PartTold ItemTold LinkTold NameTold choice_step expr_step part_step item_step link_step name_step

  abbrev pub told_link : Link → LinkTold
  told_link = fold-Link ChoiceTold Told PartTold ItemTold LinkTold NameTold choice_step expr_step part_step item_step link_step name_step

  abbrev pub told_part : Part → PartTold
  told_part = fold-Part ChoiceTold Told PartTold ItemTold LinkTold NameTold choice_step expr_step part_step item_step link_step name_step

  -- a discrete range
  abbrev pub told_bounds : Bounds → BoundsTold
  told_bounds (bounds.Range left direction right) = bounds_told.Range (told left) (told right)
  told_bounds (bounds.Name name) = bounds_told.Name (range_name (told_name name))
