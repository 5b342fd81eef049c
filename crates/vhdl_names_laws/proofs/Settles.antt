-- What an expression means at a type, form by form.
use Rattle.std.proofs.Common.{◌≡◌, ℕ, Bool, true, Option, List, map, refl, ap, sym, ◌∙◌}
use Rattle.vhdl_names_meaning.specs.Names.{candidate_with}
use Rattle.vhdl_names_meaning.specs.Settling.{Settled, SettledItem, SettledLink, at_types, candidate_step, chain_at, element_or, item_at, item_step, link_step, literal_at, open_step, settled, settled_candidate, settled_item, settled_link, settled_open, shared}
use Rattle.vhdl_names_meaning.specs.declared.candidates.Candidate.{Candidate, out-Candidate}
use Rattle.vhdl_names_meaning.specs.declared.candidates.CandidateItem.{CandidateItem, out-CandidateItem}
use Rattle.vhdl_names_meaning.specs.declared.candidates.CandidateLink.{CandidateLink, out-CandidateLink}
use Rattle.vhdl_names_meaning.specs.declared.candidates.Open.{Open, roll-Open}
use Rattle.vhdl_names_operators.specs.Sets.{has}
use Rattle.vhdl_tree.specs.declared.expressions.Unary.{Unary}
use Rattle.vhdl_units.specs.Types.{element}
use Rattle.vhdl_units.specs.declared.base_type.BaseType.{BaseType}
use Rattle.vhdl_units.specs.declared.entry.Entry.{Entry}
use Rattle.vhdl_units.specs.declared.values.Value.{Value}
use Rattle.vhdl_names_meaning.specs.declared.candidates.Open.TheVariants as pending
use Rattle.vhdl_units.specs.declared.values.Value.TheVariants as value
use Rattle.vhdl_names_meaning.specs.declared.candidates.Open.TheOpen.{Open-F}
use Rattle.vhdl_names_meaning.specs.declared.candidates.Open.TheFolds.{fold-roll-Open, fold-roll-Candidate, fold_out-Candidate, fold_out-CandidateItem, fold_out-CandidateLink, map-Open}

pub types_with : (types : List BaseType) (s : Bool) (o : Open) → (out-Candidate (candidate_with types s o)).types ≡ types
unfolding candidate_with
types_with types s o = refl

pub static_with : (types : List BaseType) (s : Bool) (o : Open) → (out-Candidate (candidate_with types s o)).is_static ≡ s
unfolding candidate_with
static_with types s o = refl

settled_with : (types : List BaseType) (s : Bool) (o : Open) (t : BaseType) → settled (candidate_with types s o) t ≡ at_types types (settled_open o) t
unfolding candidate_with
settled_with types s o t =
    ap (λ c. c.at t) (fold-roll-Candidate (BaseType → Value) Settled SettledItem SettledLink open_step candidate_step item_step link_step (record { types = types; is_static = s; form = o }))

at_own : (types : List BaseType) (at : BaseType → Value) (t : BaseType) → has types t ≡ true → at_types types at t ≡ at t
unfolding at_types
at_own types at t h = rw h refl

pub settled_own : (types : List BaseType) (s : Bool) (o : Open) (t : BaseType) → has types t ≡ true → settled (candidate_with types s o) t ≡ settled_open o t
settled_own types s o t h = settled_with types s o t ∙ at_own types (settled_open o) t h

-- ---- the forms

open_rolled : (x : Open-F Open Candidate CandidateItem CandidateLink)
    → settled_open (roll-Open x) ≡ open_step (map-Open _ _ _ _ _ _ _ _ settled_open settled_candidate settled_item settled_link x)
open_rolled x = fold-roll-Open (BaseType → Value) Settled SettledItem SettledLink open_step candidate_step item_step link_step x

pub open_value : (v : Value) (t : BaseType) → settled_open (pending.Value v) t ≡ v
open_value v t = ap (λ o. settled_open o t) (sym (pending.rolls-Value v)) ∙ ap (λ f. f t) (open_rolled (Open-F.Value v))

pub open_literals : (entries : List Entry) (t : BaseType) → settled_open (pending.Literals entries) t ≡ literal_at t entries
open_literals entries t = ap (λ o. settled_open o t) (sym (pending.rolls-Literals entries)) ∙ ap (λ f. f t) (open_rolled (Open-F.Literals entries))

pub open_text : (bytes : List ℕ) (t : BaseType) → settled_open (pending.Text bytes) t ≡ value.Text t bytes
open_text bytes t = ap (λ o. settled_open o t) (sym (pending.rolls-Text bytes)) ∙ ap (λ f. f t) (open_rolled (Open-F.Text bytes))

pub open_unary : (op : Unary) (c : Candidate) (t : BaseType) → settled_open (pending.Unary op c) t ≡ value.Unary op t (settled c t)
open_unary op c t = ap (λ o. settled_open o t) (sym (pending.rolls-Unary op c)) ∙ ap (λ f. f t) (open_rolled (Open-F.Unary op c))

pub open_chain : (relation : Option BaseType) (first : Candidate) (links : List CandidateLink) (t : BaseType)
    → settled_open (pending.Chain relation first links) t ≡ chain_at t (shared relation t) (settled_candidate first) (map settled_link links)
open_chain relation first links t = ap (λ o. settled_open o t) (sym (pending.rolls-Chain relation first links)) ∙ ap (λ f. f t) (open_rolled (Open-F.Chain relation first links))

pub open_aggregate : (items : List CandidateItem) (t : BaseType) → settled_open (pending.Aggregate items) t ≡ value.Aggregate t (map (item_at (element_or (element t))) (map settled_item items))
open_aggregate items t = ap (λ o. settled_open o t) (sym (pending.rolls-Aggregate items)) ∙ ap (λ f. f t) (open_rolled (Open-F.Aggregate items))

-- ---- what stands in them

pub settled_types : (c : Candidate) → (settled_candidate c).types ≡ (out-Candidate c).types
settled_types c = ap (λ s. s.types) (fold_out-Candidate (BaseType → Value) Settled SettledItem SettledLink open_step candidate_step item_step link_step c)

pub link_settled : (l : CandidateLink) → settled_link l ≡ record { operator = (out-CandidateLink l).operator; right = settled_candidate (out-CandidateLink l).right }
link_settled l = fold_out-CandidateLink (BaseType → Value) Settled SettledItem SettledLink open_step candidate_step item_step link_step l

pub item_settled : (i : CandidateItem) → settled_item i ≡ record { choices = (out-CandidateItem i).choices; value = settled_candidate (out-CandidateItem i).value }
item_settled i = fold_out-CandidateItem (BaseType → Value) Settled SettledItem SettledLink open_step candidate_step item_step link_step i
