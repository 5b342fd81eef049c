-- Whole expressions and names, one line a production (IEEE Std 1076-2008, clauses 8 and 9).
use Rattle.std.specs.Prelude.{List, ℕ}
use Rattle.vhdl_names_meaning.specs.Literals.{number, spelled}
use Rattle.vhdl_names_meaning.specs.Names.{begun, candidate_of, extended_by}
use Rattle.vhdl_names_meaning.specs.Operators.{aggregate, chain, item, unary}
use Rattle.vhdl_names_meaning.specs.declared.candidates.Candidate.{Candidate}
use Rattle.vhdl_names_meaning.specs.declared.candidates.CandidateItem.{CandidateItem}
use Rattle.vhdl_names_meaning.specs.declared.candidates.CandidateLink.{CandidateLink, roll-CandidateLink}
use Rattle.vhdl_names_meaning.specs.declared.candidates.ChoiceCandidate.{ChoiceCandidate}
use Rattle.vhdl_names_meaning.specs.declared.candidates.Denoted.{Denoted}
use Rattle.vhdl_names_meaning.specs.declared.candidates.PartCandidate.{PartCandidate}
use Rattle.vhdl_names_meaning.specs.declared.candidates.RangeCandidate.{RangeCandidate}
use Rattle.vhdl_tokens.specs.declared.token.Token.{Token}
use Rattle.vhdl_tree.specs.declared.declarations.Bounds.{Bounds}
use Rattle.vhdl_tree.specs.declared.expressions.Choice.{Choice}
use Rattle.vhdl_tree.specs.declared.expressions.Expr.{Expr}
use Rattle.vhdl_tree.specs.declared.expressions.Item.{Item}
use Rattle.vhdl_tree.specs.declared.expressions.Link.{Link}
use Rattle.vhdl_tree.specs.declared.expressions.Name.{Name}
use Rattle.vhdl_tree.specs.declared.expressions.Part.{Part}
use Rattle.vhdl_units.specs.declared.entry.Entry.{Entry}
use Rattle.vhdl_tree.specs.declared.declarations.Bounds.TheVariants as bounds
use Rattle.vhdl_names_meaning.specs.declared.candidates.ChoiceCandidate.TheVariants as choice
use Rattle.vhdl_names_meaning.specs.declared.candidates.PartCandidate.TheVariants as part
use Rattle.vhdl_names_meaning.specs.declared.candidates.RangeCandidate.TheVariants as range
use Rattle.vhdl_tree.specs.declared.expressions.Choice.TheOpen.{Choice-F, Expr-F, Part-F, Item-F, Link-F, Name-F}  -- keep
use Rattle.vhdl_tree.specs.declared.expressions.Choice.TheFolds.{fold-Expr, fold-Name, fold-Choice, fold-Item, fold-Link, fold-Part}  -- keep

abbrev pub choice_step : Choice-F ChoiceCandidate Candidate PartCandidate CandidateItem CandidateLink Denoted → ChoiceCandidate
choice_step (Choice-F.Value c) = choice.Value c
choice_step (Choice-F.Range left direction right) = choice.Range left direction right
choice_step (Choice-F.Others word) = choice.Others

module _ (text : List ℕ) (look : Token → List Entry) where
  abbrev pub expr_step : Expr-F ChoiceCandidate Candidate PartCandidate CandidateItem CandidateLink Denoted → Candidate
  expr_step (Expr-F.Name d) = candidate_of d
  expr_step (Expr-F.Number token unit) = number text look token unit
  expr_step (Expr-F.Literal token) = spelled text look token
  expr_step (Expr-F.Unary place op c) = unary op c
  expr_step (Expr-F.Chain place first links) = chain first links
  expr_step (Expr-F.Aggregate place items) = aggregate items

  abbrev pub part_step : Part-F ChoiceCandidate Candidate PartCandidate CandidateItem CandidateLink Denoted → PartCandidate
  part_step (Part-F.Index c) = part.Index c
  part_step (Part-F.Slice left direction right) = part.Slice left direction right
  part_step (Part-F.Attribute word) = part.Attribute word

  abbrev pub item_step : Item-F ChoiceCandidate Candidate PartCandidate CandidateItem CandidateLink Denoted → CandidateItem
  item_step i = item i.choices i.value

  abbrev pub link_step : Link-F ChoiceCandidate Candidate PartCandidate CandidateItem CandidateLink Denoted → CandidateLink
  link_step link = roll-CandidateLink (record { operator = link.operator; right = link.right })

  abbrev pub name_step : Name-F ChoiceCandidate Candidate PartCandidate CandidateItem CandidateLink Denoted → Denoted
  name_step name = extended_by text (begun (look name.identifier)) name.parts

  -- what an expression can mean
  abbrev pub candidate : Expr → Candidate
  candidate = fold-Expr ChoiceCandidate Candidate PartCandidate CandidateItem CandidateLink Denoted choice_step expr_step part_step item_step link_step name_step

  -- what a name denotes
  abbrev pub denoted : Name → Denoted
  denoted = fold-Name ChoiceCandidate Candidate PartCandidate CandidateItem CandidateLink Denoted choice_step expr_step part_step item_step link_step name_step

  abbrev pub choice_candidate : Choice → ChoiceCandidate
  choice_candidate = fold-Choice ChoiceCandidate Candidate PartCandidate CandidateItem CandidateLink Denoted choice_step expr_step part_step item_step link_step name_step

  abbrev pub item_candidate : Item → CandidateItem
  item_candidate = fold-Item ChoiceCandidate Candidate PartCandidate CandidateItem CandidateLink Denoted choice_step expr_step part_step item_step link_step name_step

  abbrev pub link_candidate : Link → CandidateLink
  link_candidate = fold-Link ChoiceCandidate Candidate PartCandidate CandidateItem CandidateLink Denoted choice_step expr_step part_step item_step link_step name_step

  abbrev pub part_candidate : Part → PartCandidate
  part_candidate = fold-Part ChoiceCandidate Candidate PartCandidate CandidateItem CandidateLink Denoted choice_step expr_step part_step item_step link_step name_step

  -- a discrete range
  abbrev pub range_candidate : Bounds → RangeCandidate
  range_candidate (bounds.Range left direction right) = range.Bounds (candidate left) direction (candidate right)
  range_candidate (bounds.Name name) = range.Name (denoted name)
