-- Whole expressions and names mean what they tell: by induction over all that stands in them.
use Rattle.std.proofs.Common.{◌≡◌, ℕ, List, [], ◌∷◌, map, refl, subst}
use Rattle.vhdl_names_laws.specs.Flags.{FlagsAre, tested_static}
use Rattle.vhdl_names_laws.proofs.ListsTell.{ChoicesTell, ItemTells, ItemsTell, LinkTells, LinksTell}
use Rattle.vhdl_names_laws.specs.Meanings.{BoundsTell, ChoiceTells, HasMeanings}
use Rattle.vhdl_names_laws.proofs.NamesTell.{NameMeans, PartTells, PartsTell}
use Rattle.vhdl_names_laws.specs.Tells.{Tells}
use Rattle.vhdl_names_laws.proofs.Aggregates.{aggregate_tells, item_tells}
use Rattle.vhdl_names_laws.proofs.Chains.{chain_tells}
use Rattle.vhdl_names_laws.proofs.Flagged.{name_flagged}
use Rattle.vhdl_names_laws.proofs.Literals.{number_tells, spelled_tells}
use Rattle.vhdl_names_laws.proofs.Naming.{name_means, name_tells, object_named, range_known}
use Rattle.vhdl_names_laws.proofs.Operators.{unary_tells}
use Rattle.vhdl_names_meaning.specs.Trees as meaning
use Rattle.vhdl_names_meaning.specs.declared.candidates.Candidate.{Candidate}
use Rattle.vhdl_names_meaning.specs.declared.candidates.CandidateItem.{CandidateItem}
use Rattle.vhdl_names_meaning.specs.declared.candidates.CandidateLink.{CandidateLink}
use Rattle.vhdl_names_meaning.specs.declared.candidates.ChoiceCandidate.{ChoiceCandidate}
use Rattle.vhdl_names_meaning.specs.declared.candidates.Denoted.{Denoted}
use Rattle.vhdl_names_meaning.specs.declared.candidates.PartCandidate.{PartCandidate}
use Rattle.vhdl_tokens.specs.declared.token.Token.{Token}
use Rattle.vhdl_tree.specs.declared.declarations.Bounds.{Bounds}
use Rattle.vhdl_tree.specs.declared.declarations.Bounds.TheVariants as bounds
use Rattle.vhdl_tree.specs.declared.expressions.Choice.{Choice, roll-Choice}
use Rattle.vhdl_tree.specs.declared.expressions.Expr.{Expr, roll-Expr}
use Rattle.vhdl_tree.specs.declared.expressions.Item.{Item, roll-Item}
use Rattle.vhdl_tree.specs.declared.expressions.Link.{Link, roll-Link}
use Rattle.vhdl_tree.specs.declared.expressions.Name.{Name, out-Name, roll-Name}
use Rattle.vhdl_tree.specs.declared.expressions.Part.{Part, roll-Part}
use Rattle.vhdl_units.specs.declared.entry.Entry.{Entry}
use Rattle.vhdl_names_typing.specs.Trees as telling
use Rattle.vhdl_names_typing.specs.declared.told.ChoiceTold.{ChoiceTold}
use Rattle.vhdl_names_typing.specs.declared.told.ItemTold.{ItemTold}
use Rattle.vhdl_names_typing.specs.declared.told.LinkTold.{LinkTold}
use Rattle.vhdl_names_typing.specs.declared.told.NameTold.{NameTold}
use Rattle.vhdl_names_typing.specs.declared.told.PartTold.{PartTold}
use Rattle.vhdl_names_typing.specs.declared.told.Told.{Told}
use Rattle.vhdl_tree.specs.declared.expressions.Choice.TheOpen.{Choice-F, Expr-F, Part-F, Item-F, Link-F, Name-F}
use Rattle.vhdl_tree.specs.declared.expressions.Choice.TheFolds.{fold-roll-Choice, fold-roll-Expr, fold-roll-Item, fold-roll-Link, fold-roll-Name, fold-roll-Part, fold_out-Name, ind-Choice, ind-Expr, ind-Name, ind-Part, map-Choice, map-Expr, map-Item, map-Link, map-Name, map-Part}

module _ (text : List ℕ) (look : Token → List Entry) where
  -- ---- the claims

  abbrev ChoiceClaim : Choice → Type 0
  ChoiceClaim c = ChoiceTells (telling.told_choice text look c) (meaning.choice_candidate text look c)

  abbrev ExprClaim : Expr → Type 0
  ExprClaim e = Tells (telling.told text look e) (meaning.candidate text look e)

  abbrev PartClaim : Part → Type 0
  PartClaim p = PartTells (telling.told_part text look p) (meaning.part_candidate text look p)

  abbrev ItemClaim : Item → Type 0
  ItemClaim i = ItemTells (telling.told_item text look i) (meaning.item_candidate text look i)

  abbrev LinkClaim : Link → Type 0
  LinkClaim l = LinkTells (telling.told_link text look l) (meaning.link_candidate text look l)

  abbrev NameClaim : Name → Type 0
  NameClaim n = NameMeans (telling.told_name text look n) (meaning.denoted text look n)

  abbrev OneChoice : Type 0
  OneChoice = (c : Choice) × ChoiceClaim c

  abbrev OneExpr : Type 0
  OneExpr = (e : Expr) × ExprClaim e

  abbrev OnePart : Type 0
  OnePart = (p : Part) × PartClaim p

  abbrev OneItem : Type 0
  OneItem = (i : Item) × ItemClaim i

  abbrev OneLink : Type 0
  OneLink = (l : Link) × LinkClaim l

  abbrev OneName : Type 0
  OneName = (n : Name) × NameClaim n

  -- ---- one layer, of what stands in it

  abbrev told_choice_of : Choice-F Choice Expr Part Item Link Name → Choice-F ChoiceTold Told PartTold ItemTold LinkTold NameTold
  told_choice_of x = map-Choice _ _ _ _ _ _ _ _ _ _ _ _
      (telling.told_choice text look) (telling.told text look) (telling.told_part text look) (telling.told_item text look) (telling.told_link text look) (telling.told_name text look) x

  abbrev meant_choice_of : Choice-F Choice Expr Part Item Link Name → Choice-F ChoiceCandidate Candidate PartCandidate CandidateItem CandidateLink Denoted
  meant_choice_of x = map-Choice _ _ _ _ _ _ _ _ _ _ _ _
      (meaning.choice_candidate text look) (meaning.candidate text look) (meaning.part_candidate text look)
      (meaning.item_candidate text look) (meaning.link_candidate text look) (meaning.denoted text look) x

  abbrev parts_of_choice : Choice-F OneChoice OneExpr OnePart OneItem OneLink OneName → Choice-F Choice Expr Part Item Link Name
  parts_of_choice y = map-Choice OneChoice OneExpr OnePart OneItem OneLink OneName Choice Expr Part Item Link Name (λ w. w.0) (λ w. w.0) (λ w. w.0) (λ w. w.0) (λ w. w.0) (λ w. w.0) y

  abbrev told_expr_of : Expr-F Choice Expr Part Item Link Name → Expr-F ChoiceTold Told PartTold ItemTold LinkTold NameTold
  told_expr_of x = map-Expr _ _ _ _ _ _ _ _ _ _ _ _
      (telling.told_choice text look) (telling.told text look) (telling.told_part text look) (telling.told_item text look) (telling.told_link text look) (telling.told_name text look) x

  abbrev meant_expr_of : Expr-F Choice Expr Part Item Link Name → Expr-F ChoiceCandidate Candidate PartCandidate CandidateItem CandidateLink Denoted
  meant_expr_of x = map-Expr _ _ _ _ _ _ _ _ _ _ _ _
      (meaning.choice_candidate text look) (meaning.candidate text look) (meaning.part_candidate text look)
      (meaning.item_candidate text look) (meaning.link_candidate text look) (meaning.denoted text look) x

  abbrev parts_of_expr : Expr-F OneChoice OneExpr OnePart OneItem OneLink OneName → Expr-F Choice Expr Part Item Link Name
  parts_of_expr y = map-Expr OneChoice OneExpr OnePart OneItem OneLink OneName Choice Expr Part Item Link Name (λ w. w.0) (λ w. w.0) (λ w. w.0) (λ w. w.0) (λ w. w.0) (λ w. w.0) y

  abbrev told_part_of : Part-F Choice Expr Part Item Link Name → Part-F ChoiceTold Told PartTold ItemTold LinkTold NameTold
  told_part_of x = map-Part _ _ _ _ _ _ _ _ _ _ _ _
      (telling.told_choice text look) (telling.told text look) (telling.told_part text look) (telling.told_item text look) (telling.told_link text look) (telling.told_name text look) x

  abbrev meant_part_of : Part-F Choice Expr Part Item Link Name → Part-F ChoiceCandidate Candidate PartCandidate CandidateItem CandidateLink Denoted
  meant_part_of x = map-Part _ _ _ _ _ _ _ _ _ _ _ _
      (meaning.choice_candidate text look) (meaning.candidate text look) (meaning.part_candidate text look)
      (meaning.item_candidate text look) (meaning.link_candidate text look) (meaning.denoted text look) x

  abbrev parts_of_part : Part-F OneChoice OneExpr OnePart OneItem OneLink OneName → Part-F Choice Expr Part Item Link Name
  parts_of_part y = map-Part OneChoice OneExpr OnePart OneItem OneLink OneName Choice Expr Part Item Link Name (λ w. w.0) (λ w. w.0) (λ w. w.0) (λ w. w.0) (λ w. w.0) (λ w. w.0) y

  abbrev told_item_of : Item-F Choice Expr Part Item Link Name → Item-F ChoiceTold Told PartTold ItemTold LinkTold NameTold
  told_item_of x = map-Item _ _ _ _ _ _ _ _ _ _ _ _
      (telling.told_choice text look) (telling.told text look) (telling.told_part text look) (telling.told_item text look) (telling.told_link text look) (telling.told_name text look) x

  abbrev meant_item_of : Item-F Choice Expr Part Item Link Name → Item-F ChoiceCandidate Candidate PartCandidate CandidateItem CandidateLink Denoted
  meant_item_of x = map-Item _ _ _ _ _ _ _ _ _ _ _ _
      (meaning.choice_candidate text look) (meaning.candidate text look) (meaning.part_candidate text look)
      (meaning.item_candidate text look) (meaning.link_candidate text look) (meaning.denoted text look) x

  abbrev parts_of_item : Item-F OneChoice OneExpr OnePart OneItem OneLink OneName → Item-F Choice Expr Part Item Link Name
  parts_of_item y = map-Item OneChoice OneExpr OnePart OneItem OneLink OneName Choice Expr Part Item Link Name (λ w. w.0) (λ w. w.0) (λ w. w.0) (λ w. w.0) (λ w. w.0) (λ w. w.0) y

  abbrev told_link_of : Link-F Choice Expr Part Item Link Name → Link-F ChoiceTold Told PartTold ItemTold LinkTold NameTold
  told_link_of x = map-Link _ _ _ _ _ _ _ _ _ _ _ _
      (telling.told_choice text look) (telling.told text look) (telling.told_part text look) (telling.told_item text look) (telling.told_link text look) (telling.told_name text look) x

  abbrev meant_link_of : Link-F Choice Expr Part Item Link Name → Link-F ChoiceCandidate Candidate PartCandidate CandidateItem CandidateLink Denoted
  meant_link_of x = map-Link _ _ _ _ _ _ _ _ _ _ _ _
      (meaning.choice_candidate text look) (meaning.candidate text look) (meaning.part_candidate text look)
      (meaning.item_candidate text look) (meaning.link_candidate text look) (meaning.denoted text look) x

  abbrev parts_of_link : Link-F OneChoice OneExpr OnePart OneItem OneLink OneName → Link-F Choice Expr Part Item Link Name
  parts_of_link y = map-Link OneChoice OneExpr OnePart OneItem OneLink OneName Choice Expr Part Item Link Name (λ w. w.0) (λ w. w.0) (λ w. w.0) (λ w. w.0) (λ w. w.0) (λ w. w.0) y

  abbrev told_name_of : Name-F Choice Expr Part Item Link Name → Name-F ChoiceTold Told PartTold ItemTold LinkTold NameTold
  told_name_of x = map-Name _ _ _ _ _ _ _ _ _ _ _ _
      (telling.told_choice text look) (telling.told text look) (telling.told_part text look) (telling.told_item text look) (telling.told_link text look) (telling.told_name text look) x

  abbrev meant_name_of : Name-F Choice Expr Part Item Link Name → Name-F ChoiceCandidate Candidate PartCandidate CandidateItem CandidateLink Denoted
  meant_name_of x = map-Name _ _ _ _ _ _ _ _ _ _ _ _
      (meaning.choice_candidate text look) (meaning.candidate text look) (meaning.part_candidate text look)
      (meaning.item_candidate text look) (meaning.link_candidate text look) (meaning.denoted text look) x

  abbrev parts_of_name : Name-F OneChoice OneExpr OnePart OneItem OneLink OneName → Name-F Choice Expr Part Item Link Name
  parts_of_name y = map-Name OneChoice OneExpr OnePart OneItem OneLink OneName Choice Expr Part Item Link Name (λ w. w.0) (λ w. w.0) (λ w. w.0) (λ w. w.0) (λ w. w.0) (λ w. w.0) y

  -- ---- lists of what stands in a layer

  choices_tell : (ys : List OneChoice) → ChoicesTell (map (telling.told_choice text look) (map (λ w. w.0) ys)) (map (meaning.choice_candidate text look) (map (λ w. w.0) ys))
  unfolding ChoicesTell
  choices_tell [] = tt
  choices_tell (y ∷ ys) = (y.1, choices_tell ys)

  parts_tell : (ys : List OnePart) → PartsTell (map (telling.told_part text look) (map (λ w. w.0) ys)) (map (meaning.part_candidate text look) (map (λ w. w.0) ys))
  parts_tell [] = tt
  parts_tell (y ∷ ys) = (y.1, parts_tell ys)

  items_tell : (ys : List OneItem) → ItemsTell (map (telling.told_item text look) (map (λ w. w.0) ys)) (map (meaning.item_candidate text look) (map (λ w. w.0) ys))
  unfolding ItemsTell
  items_tell [] = tt
  items_tell (y ∷ ys) = (y.1, items_tell ys)

  links_tell : (ys : List OneLink) → LinksTell (map (telling.told_link text look) (map (λ w. w.0) ys)) (map (meaning.link_candidate text look) (map (λ w. w.0) ys))
  unfolding LinksTell
  links_tell [] = tt
  links_tell (y ∷ ys) = (y.1, links_tell ys)

  -- ---- the layers

  choice_layer : (y : Choice-F OneChoice OneExpr OnePart OneItem OneLink OneName)
      → ChoiceTells (telling.choice_step (told_choice_of (parts_of_choice y))) (meaning.choice_step (meant_choice_of (parts_of_choice y)))
  unfolding ChoiceTells
  choice_layer (Choice-F.Value e) = e.1
  choice_layer (Choice-F.Range low direction high) = (low.1, high.1)
  choice_layer (Choice-F.Others word) = tt

  choice_rolled : (y : Choice-F OneChoice OneExpr OnePart OneItem OneLink OneName) → ChoiceClaim (roll-Choice (parts_of_choice y))
  choice_rolled y = rw (
    fold-roll-Choice _ _ _ _ _ _ telling.choice_step (telling.expr_step text look) (telling.part_step text look)
        (telling.item_step text look) (telling.link_step text look) (telling.name_step text look) (parts_of_choice y),
    fold-roll-Choice _ _ _ _ _ _ meaning.choice_step (meaning.expr_step text look) (meaning.part_step text look)
        (meaning.item_step text look) (meaning.link_step text look) (meaning.name_step text look) (parts_of_choice y),
  )
      (choice_layer y)

  choice_claim : (x : Choice-F Choice Expr Part Item Link Name) (y : Choice-F OneChoice OneExpr OnePart OneItem OneLink OneName) → parts_of_choice y ≡ x → ChoiceClaim (roll-Choice x)
  choice_claim x y is = subst (λ (z : Choice-F Choice Expr Part Item Link Name). ChoiceClaim (roll-Choice z)) is (choice_rolled y)

  expr_layer : (y : Expr-F OneChoice OneExpr OnePart OneItem OneLink OneName)
      → Tells (telling.expr_step text look (told_expr_of (parts_of_expr y))) (meaning.expr_step text look (meant_expr_of (parts_of_expr y)))
  expr_layer (Expr-F.Name n) = name_tells (telling.told_name text look n.0) (meaning.denoted text look n.0) n.1
  expr_layer (Expr-F.Number token unit) = number_tells text look token unit
  expr_layer (Expr-F.Literal token) = spelled_tells text look token
  expr_layer (Expr-F.Unary place op e) = unary_tells place op (telling.told text look e.0) (meaning.candidate text look e.0) e.1
  expr_layer (Expr-F.Chain place first links) = chain_tells place (telling.told text look first.0) (meaning.candidate text look first.0) (map (telling.told_link text look) (map (λ w. w.0) links))
      (map (meaning.link_candidate text look) (map (λ w. w.0) links)) first.1 (links_tell links)
  expr_layer (Expr-F.Aggregate place items) =
      aggregate_tells place (map (telling.told_item text look) (map (λ w. w.0) items)) (map (meaning.item_candidate text look) (map (λ w. w.0) items)) (items_tell items)

  expr_rolled : (y : Expr-F OneChoice OneExpr OnePart OneItem OneLink OneName) → ExprClaim (roll-Expr (parts_of_expr y))
  expr_rolled y = rw (
    fold-roll-Expr _ _ _ _ _ _ telling.choice_step (telling.expr_step text look) (telling.part_step text look)
        (telling.item_step text look) (telling.link_step text look) (telling.name_step text look) (parts_of_expr y),
    fold-roll-Expr _ _ _ _ _ _ meaning.choice_step (meaning.expr_step text look) (meaning.part_step text look)
        (meaning.item_step text look) (meaning.link_step text look) (meaning.name_step text look) (parts_of_expr y),
  )
      (expr_layer y)

  expr_claim : (x : Expr-F Choice Expr Part Item Link Name) (y : Expr-F OneChoice OneExpr OnePart OneItem OneLink OneName) → parts_of_expr y ≡ x → ExprClaim (roll-Expr x)
  expr_claim x y is = subst (λ (z : Expr-F Choice Expr Part Item Link Name). ExprClaim (roll-Expr z)) is (expr_rolled y)

  part_layer : (y : Part-F OneChoice OneExpr OnePart OneItem OneLink OneName)
      → PartTells (telling.part_step text look (told_part_of (parts_of_part y))) (meaning.part_step text look (meant_part_of (parts_of_part y)))
  part_layer (Part-F.Index e) = e.1
  part_layer (Part-F.Slice low direction high) = (low.1, high.1)
  part_layer (Part-F.Attribute word) = refl

  part_rolled : (y : Part-F OneChoice OneExpr OnePart OneItem OneLink OneName) → PartClaim (roll-Part (parts_of_part y))
  part_rolled y = rw (
    fold-roll-Part _ _ _ _ _ _ telling.choice_step (telling.expr_step text look) (telling.part_step text look)
        (telling.item_step text look) (telling.link_step text look) (telling.name_step text look) (parts_of_part y),
    fold-roll-Part _ _ _ _ _ _ meaning.choice_step (meaning.expr_step text look) (meaning.part_step text look)
        (meaning.item_step text look) (meaning.link_step text look) (meaning.name_step text look) (parts_of_part y),
  )
      (part_layer y)

  part_claim : (x : Part-F Choice Expr Part Item Link Name) (y : Part-F OneChoice OneExpr OnePart OneItem OneLink OneName) → parts_of_part y ≡ x → PartClaim (roll-Part x)
  part_claim x y is = subst (λ (z : Part-F Choice Expr Part Item Link Name). PartClaim (roll-Part z)) is (part_rolled y)

  item_layer : (y : Item-F OneChoice OneExpr OnePart OneItem OneLink OneName)
      → ItemTells (telling.item_step text look (told_item_of (parts_of_item y))) (meaning.item_step text look (meant_item_of (parts_of_item y)))
  item_layer item =
      item_tells (telling.item_step text look (told_item_of (parts_of_item item))) (map (meaning.choice_candidate text look) (map (λ w. w.0) item.choices)) (meaning.candidate text look item.value.0)
      (choices_tell item.choices) item.value.1

  item_rolled : (y : Item-F OneChoice OneExpr OnePart OneItem OneLink OneName) → ItemClaim (roll-Item (parts_of_item y))
  item_rolled y = rw (
    fold-roll-Item _ _ _ _ _ _ telling.choice_step (telling.expr_step text look) (telling.part_step text look)
        (telling.item_step text look) (telling.link_step text look) (telling.name_step text look) (parts_of_item y),
    fold-roll-Item _ _ _ _ _ _ meaning.choice_step (meaning.expr_step text look) (meaning.part_step text look)
        (meaning.item_step text look) (meaning.link_step text look) (meaning.name_step text look) (parts_of_item y),
  )
      (item_layer y)

  item_claim : (x : Item-F Choice Expr Part Item Link Name) (y : Item-F OneChoice OneExpr OnePart OneItem OneLink OneName) → parts_of_item y ≡ x → ItemClaim (roll-Item x)
  item_claim x y is = subst (λ (z : Item-F Choice Expr Part Item Link Name). ItemClaim (roll-Item z)) is (item_rolled y)

  link_layer : (y : Link-F OneChoice OneExpr OnePart OneItem OneLink OneName)
      → LinkTells (telling.link_step text look (told_link_of (parts_of_link y))) (meaning.link_step text look (meant_link_of (parts_of_link y)))
  link_layer link = record { operator = refl; right = link.right.1 }

  link_rolled : (y : Link-F OneChoice OneExpr OnePart OneItem OneLink OneName) → LinkClaim (roll-Link (parts_of_link y))
  link_rolled y = rw (
    fold-roll-Link _ _ _ _ _ _ telling.choice_step (telling.expr_step text look) (telling.part_step text look)
        (telling.item_step text look) (telling.link_step text look) (telling.name_step text look) (parts_of_link y),
    fold-roll-Link _ _ _ _ _ _ meaning.choice_step (meaning.expr_step text look) (meaning.part_step text look)
        (meaning.item_step text look) (meaning.link_step text look) (meaning.name_step text look) (parts_of_link y),
  )
      (link_layer y)

  link_claim : (x : Link-F Choice Expr Part Item Link Name) (y : Link-F OneChoice OneExpr OnePart OneItem OneLink OneName) → parts_of_link y ≡ x → LinkClaim (roll-Link x)
  link_claim x y is = subst (λ (z : Link-F Choice Expr Part Item Link Name). LinkClaim (roll-Link z)) is (link_rolled y)

  name_layer : (y : Name-F OneChoice OneExpr OnePart OneItem OneLink OneName)
      → NameMeans (telling.name_step text look (told_name_of (parts_of_name y))) (meaning.name_step text look (meant_name_of (parts_of_name y)))
  name_layer name = name_means text name.identifier.start (look name.identifier)
      (map (telling.told_part text look) (map (λ w. w.0) name.parts)) (map (meaning.part_candidate text look) (map (λ w. w.0) name.parts)) (parts_tell name.parts)

  name_rolled : (y : Name-F OneChoice OneExpr OnePart OneItem OneLink OneName) → NameClaim (roll-Name (parts_of_name y))
  name_rolled y = rw (
    fold-roll-Name _ _ _ _ _ _ telling.choice_step (telling.expr_step text look) (telling.part_step text look)
        (telling.item_step text look) (telling.link_step text look) (telling.name_step text look) (parts_of_name y),
    fold-roll-Name _ _ _ _ _ _ meaning.choice_step (meaning.expr_step text look) (meaning.part_step text look)
        (meaning.item_step text look) (meaning.link_step text look) (meaning.name_step text look) (parts_of_name y),
  )
      (name_layer y)

  name_claim : (x : Name-F Choice Expr Part Item Link Name) (y : Name-F OneChoice OneExpr OnePart OneItem OneLink OneName) → parts_of_name y ≡ x → NameClaim (roll-Name x)
  name_claim x y is = subst (λ (z : Name-F Choice Expr Part Item Link Name). NameClaim (roll-Name z)) is (name_rolled y)

  -- ---- whatever stands there

  expression_tells : (e : Expr) → Tells (telling.told text look e) (meaning.candidate text look e)
  expression_tells = ind-Expr ChoiceClaim ExprClaim PartClaim ItemClaim LinkClaim NameClaim choice_claim expr_claim part_claim item_claim link_claim name_claim

  choice_tells : (c : Choice) → ChoiceTells (telling.told_choice text look c) (meaning.choice_candidate text look c)
  choice_tells = ind-Choice ChoiceClaim ExprClaim PartClaim ItemClaim LinkClaim NameClaim choice_claim expr_claim part_claim item_claim link_claim name_claim

  name_agrees : (n : Name) → NameMeans (telling.told_name text look n) (meaning.denoted text look n)
  name_agrees = ind-Name ChoiceClaim ExprClaim PartClaim ItemClaim LinkClaim NameClaim choice_claim expr_claim part_claim item_claim link_claim name_claim

  part_tells : (p : Part) → PartTells (telling.told_part text look p) (meaning.part_candidate text look p)
  part_tells = ind-Part ChoiceClaim ExprClaim PartClaim ItemClaim LinkClaim NameClaim choice_claim expr_claim part_claim item_claim link_claim name_claim

  all_tell : (parts : List Part) → PartsTell (map (telling.told_part text look) parts) (map (meaning.part_candidate text look) parts)
  all_tell [] = tt
  all_tell (p ∷ parts) = (part_tells p, all_tell parts)

  -- each index and slice with its flag
  abbrev NameFlagged : List PartTold → NameTold → Denoted → Type 0
  NameFlagged parts n d = n.names ≡ [] → n.typing ≡ [] → FlagsAre n.denotes (map tested_static parts) d

  pub flags_tested : (n : Name) → NameFlagged (map (telling.told_part text look) (out-Name n).parts) (telling.told_name text look n) (meaning.denoted text look n)
  flags_tested n = rw (
    fold_out-Name _ _ _ _ _ _ telling.choice_step (telling.expr_step text look) (telling.part_step text look)
        (telling.item_step text look) (telling.link_step text look) (telling.name_step text look) n,
    fold_out-Name _ _ _ _ _ _ meaning.choice_step (meaning.expr_step text look) (meaning.part_step text look)
        (meaning.item_step text look) (meaning.link_step text look) (meaning.name_step text look) n,
  )
      (name_flagged text (out-Name n).identifier.start (look (out-Name n).identifier) (map (telling.told_part text look) (out-Name n).parts)
      (map (meaning.part_candidate text look) (out-Name n).parts) (all_tell (out-Name n).parts))

  bounds_tell : (b : Bounds) → BoundsTell (telling.told_bounds text look b) (meaning.range_candidate text look b)
  unfolding BoundsTell
  bounds_tell (bounds.Range low direction high) = (expression_tells low, expression_tells high)
  bounds_tell (bounds.Name n) = range_known (telling.told_name text look n) (meaning.denoted text look n) (name_agrees n)

  pub has_meanings : HasMeanings text look
  has_meanings = record {
    expressions = expression_tells;
    names = λ n. object_named (telling.told_name text look n) (meaning.denoted text look n) (name_agrees n);
    choices = choice_tells;
    ranges = bounds_tell;
  }
