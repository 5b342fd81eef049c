-- The types of an expression that is an enumeration literal and nothing else.
use Rattle.std.proofs.Common.{◌≡◌, ◌==◌, ℕ, Bool, true, false, List, [], ◌∷◌, refl, sym, ap, ◌∙◌, length, map, Option, if◌then◌else◌}
use Rattle.std.specs.Prelude.{Some, None}
use Rattle.std.specs.List.{list_all}
use Rattle.vhdl_tokens.specs.declared.token.Kind.{Kind}
use Rattle.vhdl_tokens.specs.declared.token.Kind.TheVariants as kind
use Rattle.vhdl_tokens.specs.declared.token.Token.{Token}
use Rattle.vhdl_tokens.specs.Meaning.{span}
use Rattle.vhdl_tree.specs.declared.expressions.Choice.{Choice}
use Rattle.vhdl_tree.specs.declared.expressions.Expr.{Expr, out-Expr}
use Rattle.vhdl_tree.specs.declared.expressions.Item.{Item}
use Rattle.vhdl_tree.specs.declared.expressions.Link.{Link}
use Rattle.vhdl_tree.specs.declared.expressions.Name.{Name, out-Name}
use Rattle.vhdl_tree.specs.declared.expressions.Part.{Part}
use Rattle.vhdl_units.specs.declared.entry.Entry.{Entry}
use Rattle.vhdl_units.specs.declared.entry.Entry.TheVariants as entry
use Rattle.vhdl_units.specs.Entries.{is_literal}
use Rattle.vhdl_names_overloads.specs.Literals.{literal_types}
use Rattle.vhdl_names_scope.specs.Nesting.{Nested, meanings}
use Rattle.vhdl_names_typing.specs.Named.{is_character, token_in, sole_token}
use Rattle.vhdl_names_typing.specs.Scope.{look}
use Rattle.vhdl_names_typing.proofs.Literal_types.{IsLiteral, chosen, nothing_follows}
use Rattle.vhdl_names_meaning.specs.Literals.{character_candidate, spelled, spelled_as}
use Rattle.vhdl_names_meaning.specs.Names.{begun, candidate_of, candidate_with, denoted_by, extended_by}
use Rattle.vhdl_names_meaning.specs.Trees.{candidate, choice_step, denoted, expr_step, item_step, link_step, name_step, part_candidate, part_step}
use Rattle.vhdl_names_meaning.specs.declared.candidates.Candidate.{Candidate, out-Candidate}
use Rattle.vhdl_names_meaning.specs.declared.candidates.CandidateItem.{CandidateItem}
use Rattle.vhdl_names_meaning.specs.declared.candidates.CandidateLink.{CandidateLink}
use Rattle.vhdl_names_meaning.specs.declared.candidates.ChoiceCandidate.{ChoiceCandidate}
use Rattle.vhdl_names_meaning.specs.declared.candidates.Denoted.{Denoted}
use Rattle.vhdl_names_meaning.specs.declared.candidates.PartCandidate.{PartCandidate}
use Rattle.vhdl_tree.specs.declared.expressions.Choice.TheOpen.{Expr-F}
use Rattle.vhdl_tree.specs.declared.expressions.Choice.TheFolds.{fold_out-Expr, fold_out-Name}

name_types : (text : List ℕ) (entries : List Entry) → list_all is_literal entries ≡ true → (out-Candidate (candidate_of (extended_by text (begun entries) []))).types ≡ literal_types entries
unfolding candidate_of candidate_with extended_by begun denoted_by literal_types
name_types text [] h = refl
name_types text (entry.Literal t p ∷ entries) h = refl
name_types text (entry.Subtype mark ∷ entries) h = absurd cc
name_types text (entry.Object o ∷ entries) h = absurd cc
name_types text (entry.Function f ∷ entries) h = absurd cc
name_types text (entry.Unit u ∷ entries) h = absurd cc
name_types text (entry.Label l ∷ entries) h = absurd cc

character_types : (k : Kind) (bytes : List ℕ) (entries : List Entry) → is_character k ≡ true → (out-Candidate (spelled_as k bytes entries)).types ≡ literal_types entries
unfolding is_character spelled_as character_candidate candidate_with
character_types kind.Char bytes entries h = refl
character_types _ bytes entries h = absurd cc

token_types : (text : List ℕ) (look : Token → List Entry) (token : Token) → is_character token.kind ≡ true → (out-Candidate (spelled text look token)).types ≡ literal_types (look token)
unfolding spelled
token_types text look token h = character_types token.kind (span text token) (look token) h

module _ (text : List ℕ) (look : Token → List Entry) where
  token_means : (e : Expr) (token : Token) → out-Expr e ≡ Expr-F.Literal token → candidate text look e ≡ spelled text look token
  token_means e token is =
      rw is at (fold_out-Expr ChoiceCandidate Candidate PartCandidate CandidateItem CandidateLink Denoted choice_step (expr_step text look) (part_step text look) (item_step text look) (link_step text look) (name_step text look) e)

  name_means : (e : Expr) (n : Name) → out-Expr e ≡ Expr-F.Name n → candidate text look e ≡ candidate_of (denoted text look n)
  name_means e n is =
      rw is at (fold_out-Expr ChoiceCandidate Candidate PartCandidate CandidateItem CandidateLink Denoted choice_step (expr_step text look) (part_step text look) (item_step text look) (link_step text look) (name_step text look) e)

  parts_mean : (n : Name) → denoted text look n ≡ extended_by text (begun (look (out-Name n).identifier)) (map (part_candidate text look) (out-Name n).parts)
  parts_mean n =
      fold_out-Name ChoiceCandidate Candidate PartCandidate CandidateItem CandidateLink Denoted choice_step (expr_step text look) (part_step text look) (item_step text look) (link_step text look) (name_step text look) n

  layer_types : (e : Expr) (layer : Expr-F Choice Expr Part Item Link Name) (token : Token) → out-Expr e ≡ layer → token_in layer ≡ Some token → list_all is_literal (look token) ≡ true
      → (out-Candidate (candidate text look e)).types ≡ literal_types (look token)
  unfolding token_in
  layer_types e (Expr-F.Name n) token is h l =
      let parts = chosen (length (out-Name n).parts == 0) (out-Name n).identifier token h in
      let literals : list_all is_literal (look (out-Name n).identifier) ≡ true = ap (λ t. list_all is_literal (look t)) parts.1 ∙ l in
      ap (λ (c : Candidate). (out-Candidate c).types) (name_means e n is ∙ ap candidate_of (parts_mean n)
      ∙ ap (λ xs. candidate_of (extended_by text (begun (look (out-Name n).identifier)) xs)) (nothing_follows (part_candidate text look) (out-Name n).parts parts.0))
      ∙ name_types text (look (out-Name n).identifier) literals
      ∙ ap (λ t. literal_types (look t)) parts.1
  layer_types e (Expr-F.Literal u) token is h l =
      let parts = chosen (is_character u.kind) u token h in
      ap (λ (c : Candidate). (out-Candidate c).types) (token_means e u is) ∙ token_types text look u parts.0 ∙ ap (λ t. literal_types (look t)) parts.1
  layer_types e _ token is h l = absurd cc

pub literal_candidate_types : (text : List ℕ) (regions : Nested) (e : Expr) (name : List ℕ) → IsLiteral text regions e name
    → (out-Candidate (candidate text (look text regions) e)).types ≡ literal_types (meanings regions name)
unfolding sole_token look
literal_candidate_types text regions e name l =
    layer_types text (look text regions) e (out-Expr e) l.token refl l.token_is (ap (λ n. list_all is_literal (meanings regions n)) (sym l.name_is) ∙ l.literals)
    ∙ ap (λ n. literal_types (meanings regions n)) (sym l.name_is)
