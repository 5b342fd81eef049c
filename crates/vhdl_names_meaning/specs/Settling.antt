-- The meaning that an expression has where its place asks for a type (IEEE Std 1076-2008, clause 12.5).
use Rattle.std.specs.Prelude.{List, None, Option, Some, [], if◌then◌else◌, map, ◌∷◌}
use Rattle.vhdl_names_meaning.specs.declared.candidates.Candidate.{Candidate}
use Rattle.vhdl_names_meaning.specs.declared.candidates.CandidateItem.{CandidateItem}
use Rattle.vhdl_names_meaning.specs.declared.candidates.CandidateLink.{CandidateLink}
use Rattle.vhdl_names_meaning.specs.declared.candidates.Open.{Open}
use Rattle.vhdl_names_operators.specs.Sets.{has}
use Rattle.vhdl_tree.specs.declared.expressions.Operator.{Operator}
use Rattle.vhdl_units.specs.Types.{element, same}
use Rattle.vhdl_units.specs.declared.base_type.BaseType.{BaseType}
use Rattle.vhdl_units.specs.declared.entry.Entry.{Entry}
use Rattle.vhdl_units.specs.declared.values.ChoiceValue.{ChoiceValue}
use Rattle.vhdl_units.specs.declared.values.ItemValue.{ItemValue}
use Rattle.vhdl_units.specs.declared.values.LinkValue.{LinkValue}
use Rattle.vhdl_units.specs.declared.values.Value.{Value}
use Rattle.vhdl_units.specs.declared.base_type.BaseType.TheVariants as base
use Rattle.vhdl_units.specs.declared.entry.Entry.TheVariants as entry
use Rattle.vhdl_units.specs.declared.values.Value.TheVariants as value
use Rattle.vhdl_names_meaning.specs.declared.candidates.Open.TheOpen.{Open-F, Candidate-F, CandidateItem-F, CandidateLink-F}  -- keep
use Rattle.vhdl_names_meaning.specs.declared.candidates.Open.TheFolds.{fold-Open, fold-Candidate, fold-CandidateItem, fold-CandidateLink}  -- keep

-- ---- overloaded literals

-- the literal of the type, the first where there are several
unfoldable pub literal_at : BaseType → List Entry → Value
literal_at t [] = value.Unknown
literal_at t (entry.Literal u position ∷ entries) = if same t u then value.Literal u position else literal_at t entries
literal_at t (e ∷ entries) = literal_at t entries

-- ---- operands

unfoldable pub element_or : Option BaseType → BaseType
element_or (Some e) = e
element_or None = base.Integer

unfoldable pub first_or : BaseType → List BaseType → BaseType
first_or t [] = t
first_or t (u ∷ types) = u

-- of an operand that isn't of the type that its operators give: of the elements of the array that `&` joins it to, or else of
-- the one type that it has, as for `*`, `/`, `mod`, `rem` and `**`
unfoldable pub other_type : BaseType → List BaseType → BaseType
other_type e types = if has types e then e else first_or e types

-- the type that is asked of an operand which can have these types, where the operands share t or their operators give it
unfoldable pub operand_type : BaseType → List BaseType → BaseType
operand_type t types = if has types t then t else other_type (element_or (element t)) types

-- the type that a relation's operands share, or what is asked of the whole
unfoldable pub shared : Option BaseType → BaseType → BaseType
shared (Some u) t = u
shared None t = t

-- ---- whole expressions

-- an expression: the types that it can have, and its meaning at a type
pub record Settled : Type 0 where
  pub types : List BaseType
  pub at : BaseType → Value

pub record SettledLink : Type 0 where
  pub operator : Operator
  pub right : Settled

pub record SettledItem : Type 0 where
  pub choices : List ChoiceValue
  pub value : Settled

unfoldable pub operand_at : BaseType → Settled → Value
operand_at t s = s.at (operand_type t s.types)

unfoldable pub link_at : BaseType → SettledLink → LinkValue
link_at t l = record { operator = l.operator; right = operand_at t l.right }

unfoldable pub item_at : BaseType → SettledItem → ItemValue
item_at t item = record { choices = item.choices; value = item.value.at t }

unfoldable pub chain_at : BaseType → BaseType → Settled → List SettledLink → Value
chain_at t operands first links = value.Chain t (operand_at operands first) (map (link_at operands) links)

-- no other meaning than one of the type that is asked
unfoldable pub at_types : List BaseType → (BaseType → Value) → BaseType → Value
at_types types at t = if has types t then at t else value.Unknown

abbrev pub open_step : Open-F (BaseType → Value) Settled SettledItem SettledLink → BaseType → Value
open_step (Open-F.Value v) t = v
open_step (Open-F.Literals entries) t = literal_at t entries
open_step (Open-F.Text bytes) t = value.Text t bytes
open_step (Open-F.Unary op inner) t = value.Unary op t (inner.at t)
open_step (Open-F.Chain relation first links) t = chain_at t (shared relation t) first links
open_step (Open-F.Aggregate items) t = value.Aggregate t (map (item_at (element_or (element t))) items)

abbrev pub candidate_step : Candidate-F (BaseType → Value) Settled SettledItem SettledLink → Settled
candidate_step c = record { types = c.types; at = at_types c.types c.form }

abbrev pub item_step : CandidateItem-F (BaseType → Value) Settled SettledItem SettledLink → SettledItem
item_step item = record { choices = item.choices; value = item.value }

abbrev pub link_step : CandidateLink-F (BaseType → Value) Settled SettledItem SettledLink → SettledLink
link_step link = record { operator = link.operator; right = link.right }

abbrev pub settled_open : Open → BaseType → Value
settled_open = fold-Open (BaseType → Value) Settled SettledItem SettledLink open_step candidate_step item_step link_step

abbrev pub settled_candidate : Candidate → Settled
settled_candidate = fold-Candidate (BaseType → Value) Settled SettledItem SettledLink open_step candidate_step item_step link_step

abbrev pub settled_item : CandidateItem → SettledItem
settled_item = fold-CandidateItem (BaseType → Value) Settled SettledItem SettledLink open_step candidate_step item_step link_step

abbrev pub settled_link : CandidateLink → SettledLink
settled_link = fold-CandidateLink (BaseType → Value) Settled SettledItem SettledLink open_step candidate_step item_step link_step

-- what an expression means where this type is asked
abbrev pub settled : Candidate → BaseType → Value
settled c t = (settled_candidate c).at t
