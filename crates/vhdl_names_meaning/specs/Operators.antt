-- Operators and aggregates (IEEE Std 1076-2008, clauses 9.2 and 9.3.3).
use Rattle.std.specs.List.{list_all}
use Rattle.std.specs.Prelude.{Bool, List, None, Option, Some, [], if◌then◌else◌, map, ◌&&◌, ◌∷◌}
use Rattle.vhdl_names_meaning.specs.Names.{candidate_with}
use Rattle.vhdl_names_meaning.specs.Ranges.{choice_at, choice_is_static}
use Rattle.vhdl_names_meaning.specs.declared.candidates.Candidate.{Candidate, out-Candidate}
use Rattle.vhdl_names_meaning.specs.declared.candidates.CandidateItem.{CandidateItem, out-CandidateItem, roll-CandidateItem}
use Rattle.vhdl_names_meaning.specs.declared.candidates.CandidateLink.{CandidateLink, out-CandidateLink}
use Rattle.vhdl_names_meaning.specs.declared.candidates.ChoiceCandidate.{ChoiceCandidate}
use Rattle.vhdl_names_operators.specs.Literals.{aggregates}
use Rattle.vhdl_names_operators.specs.Operators.{results, results_from}
use Rattle.vhdl_names_operators.specs.Places.{only}
use Rattle.vhdl_names_operators.specs.Sets.{has}
use Rattle.vhdl_tree.specs.declared.expressions.Operator.{Operator}
use Rattle.vhdl_tree.specs.declared.expressions.Unary.{Unary}
use Rattle.vhdl_units.specs.declared.base_type.BaseType.{BaseType}
use Rattle.vhdl_names_typing.specs.Expressions.{is_relation}
use Rattle.vhdl_units.specs.declared.base_type.BaseType.TheVariants as base
use Rattle.vhdl_names_meaning.specs.declared.candidates.Open.TheVariants as pending

unfoldable pub unary : Unary → Candidate → Candidate
unary op c = candidate_with (results_from op (out-Candidate c).types) (out-Candidate c).is_static (pending.Unary op c)

-- ---- operators of one precedence

-- the one type of an operand, where the other can have it
unfoldable pub met : Option BaseType → List BaseType → Option BaseType
met (Some t) others = if has others t then Some t else None
met None others = None

unfoldable pub first_of : Option BaseType → Option BaseType → Option BaseType
first_of (Some t) other = Some t
first_of None other = other

unfoldable pub or_integer : Option BaseType → BaseType
or_integer (Some t) = t
or_integer None = base.Integer

-- the type of both operands of a relation, which one of them has alone
unfoldable pub related : List BaseType → List BaseType → BaseType
related left right = or_integer (first_of (met (only left) right) (met (only right) left))

unfoldable pub relation_of : Operator → List BaseType → List BaseType → Option BaseType
relation_of op left right = if is_relation op then Some (related left right) else None

-- the types that operators give from left to right
unfoldable pub chain_types : List BaseType → List CandidateLink → List BaseType
chain_types so_far [] = so_far
chain_types so_far (l ∷ links) = chain_types (results (out-CandidateLink l).operator so_far (out-Candidate (out-CandidateLink l).right).types) links

unfoldable pub link_is_static : CandidateLink → Bool
link_is_static l = (out-Candidate (out-CandidateLink l).right).is_static

-- a chain by its first link and all of them
unfoldable pub chain_by : Candidate → CandidateLink → List CandidateLink → Candidate
chain_by first l links = candidate_with
    (chain_types (out-Candidate first).types links)
    ((out-Candidate first).is_static && list_all link_is_static links)
    (pending.Chain
    (relation_of (out-CandidateLink l).operator (out-Candidate first).types (out-Candidate (out-CandidateLink l).right).types)
    first
    links)

unfoldable pub chain : Candidate → List CandidateLink → Candidate
chain first [] = first
chain first (l ∷ links) = chain_by first l (l ∷ links)

-- ---- aggregates

-- an element, whose choices are of INTEGER
unfoldable pub item : List ChoiceCandidate → Candidate → CandidateItem
item choices c = roll-CandidateItem (record {
  choices = map (choice_at base.Integer) choices;
  is_static = list_all choice_is_static choices && (out-Candidate c).is_static;
  value = c;
})

unfoldable pub item_types : CandidateItem → List BaseType
item_types i = (out-Candidate (out-CandidateItem i).value).types

unfoldable pub item_is_static : CandidateItem → Bool
item_is_static i = (out-CandidateItem i).is_static

unfoldable pub aggregate : List CandidateItem → Candidate
aggregate items = candidate_with (aggregates (map item_types items)) (list_all item_is_static items) (pending.Aggregate items)
