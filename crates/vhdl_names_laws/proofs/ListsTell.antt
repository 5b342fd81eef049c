-- Operands and elements, told one by one and each with a meaning.
use Rattle.std.specs.List.{list_all}
use Rattle.std.specs.Prelude.{List, [], map, true, ◌≡◌, ◌∷◌}
use Rattle.vhdl_names_meaning.specs.declared.candidates.CandidateItem.{CandidateItem, out-CandidateItem}
use Rattle.vhdl_names_meaning.specs.declared.candidates.CandidateLink.{CandidateLink, out-CandidateLink}
use Rattle.vhdl_names_meaning.specs.declared.candidates.ChoiceCandidate.{ChoiceCandidate}
use Rattle.vhdl_names_typing.specs.Expressions.{item_is_static, item_names, item_typing}
use Rattle.vhdl_names_typing.specs.declared.told.ChoiceTold.{ChoiceTold}
use Rattle.vhdl_names_typing.specs.declared.told.ItemTold.{ItemTold}
use Rattle.vhdl_names_typing.specs.declared.told.LinkTold.{LinkTold}
use Rattle.vhdl_names_laws.specs.Known.{all_known, known_choice}
use Rattle.vhdl_names_laws.specs.Meanings.{ChoiceTells}
use Rattle.vhdl_names_laws.specs.Tells.{Tells}
use Rattle.vhdl_names_laws.specs.Typed.{is_integer_choice}
use Rattle.vhdl_names_operators.specs.Sets.{has}
use Rattle.vhdl_units.specs.declared.base_type.BaseType.{BaseType}

-- ---- operators behind a first operand

pub record LinkTells (l : LinkTold) (c : CandidateLink) : Type 0 where
  pub operator : (out-CandidateLink c).operator ≡ l.operator
  pub right : Tells l.right (out-CandidateLink c).right

unfoldable pub LinksTell : List LinkTold → List CandidateLink → Type 0
LinksTell [] [] = Unit {0}
LinksTell (l ∷ tolds) (c ∷ links) = LinkTells l c × LinksTell tolds links
LinksTell _ _ = ⊥

-- ---- elements of an aggregate

unfoldable pub ChoicesTell : List ChoiceTold → List ChoiceCandidate → Type 0
ChoicesTell [] [] = Unit {0}
ChoicesTell (t ∷ tolds) (c ∷ choices) = ChoiceTells t c × ChoicesTell tolds choices
ChoicesTell _ _ = ⊥

-- An element's choices have their meanings already, as they are of INTEGER. Where it has a type, it is globally static as it tells.
pub record ItemTells (told : ItemTold) (i : CandidateItem) : Type 0 where
  pub choices : item_names told ≡ [] → item_typing told ≡ [] → all_known (map known_choice (out-CandidateItem i).choices) ≡ true
  pub integers : item_names told ≡ [] → item_typing told ≡ [] → list_all (λ choice. choice) (map is_integer_choice (out-CandidateItem i).choices) ≡ true
  pub value : Tells told.value (out-CandidateItem i).value
  pub static : item_names told ≡ [] → item_typing told ≡ [] → (t : BaseType) → has told.value.types t ≡ true → (out-CandidateItem i).is_static ≡ item_is_static told

unfoldable pub ItemsTell : List ItemTold → List CandidateItem → Type 0
ItemsTell [] [] = Unit {0}
ItemsTell (t ∷ tolds) (i ∷ items) = ItemTells t i × ItemsTell tolds items
ItemsTell _ _ = ⊥
