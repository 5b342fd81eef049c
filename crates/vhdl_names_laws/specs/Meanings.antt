-- What stands around has meanings: whatever expression, name, choice or range stands there, it means what it tells.
use Rattle.std.specs.List.{list_all}
use Rattle.std.specs.Prelude.{Bool, List, Some, [], map, true, ℕ, ◌≡◌, ◌∷◌}
use Rattle.vhdl_names_laws.specs.Known.{all_known, known_part, known_range}
use Rattle.vhdl_names_laws.specs.Tells.{Tells}
use Rattle.vhdl_names_laws.specs.Typed.{named_after, type_with}
use Rattle.vhdl_names_meaning.specs.Ranges.{range_of}
use Rattle.vhdl_names_meaning.specs.Trees.{candidate, choice_candidate, denoted, range_candidate}
use Rattle.vhdl_names_meaning.specs.declared.candidates.ChoiceCandidate.{ChoiceCandidate}
use Rattle.vhdl_names_meaning.specs.declared.candidates.Denoted.{Denoted}
use Rattle.vhdl_names_meaning.specs.declared.candidates.RangeCandidate.{RangeCandidate}
use Rattle.vhdl_tokens.specs.declared.token.Token.{Token}
use Rattle.vhdl_tree.specs.declared.declarations.Bounds.{Bounds}
use Rattle.vhdl_tree.specs.declared.expressions.Choice.{Choice}
use Rattle.vhdl_tree.specs.declared.expressions.Expr.{Expr}
use Rattle.vhdl_tree.specs.declared.expressions.Name.{Name}
use Rattle.vhdl_units.specs.declared.base_type.BaseType.{BaseType}
use Rattle.vhdl_units.specs.declared.entry.Entry.{Entry}
use Rattle.vhdl_names_typing.specs.Trees.{told, told_bounds, told_choice, told_name}
use Rattle.vhdl_names_typing.specs.declared.told.BoundsTold.{BoundsTold}
use Rattle.vhdl_names_typing.specs.declared.told.ChoiceTold.{ChoiceTold}
use Rattle.vhdl_names_typing.specs.declared.told.Denotes.{Denotes}
use Rattle.vhdl_names_typing.specs.declared.told.NameTold.{NameTold}
use Rattle.vhdl_names_typing.specs.declared.told.ObjectName.{ObjectName}
use Rattle.vhdl_units.specs.declared.values.ChoiceValue.{ChoiceValue}
use Rattle.vhdl_units.specs.declared.values.ItemValue.{ItemValue}
use Rattle.vhdl_units.specs.declared.values.LinkValue.{LinkValue}
use Rattle.vhdl_units.specs.declared.values.PartValue.{PartValue, out-PartValue}
use Rattle.vhdl_units.specs.declared.values.Reference.{Reference}
use Rattle.vhdl_units.specs.declared.values.Value.{Value}
use Rattle.vhdl_units.specs.declared.values.ChoiceValue.TheOpen.{PartValue-F}
use Rattle.vhdl_names_typing.specs.declared.told.BoundsTold.TheVariants as bounds_told
use Rattle.vhdl_names_meaning.specs.declared.candidates.ChoiceCandidate.TheVariants as choice
use Rattle.vhdl_names_typing.specs.declared.told.ChoiceTold.TheVariants as choice_told
use Rattle.vhdl_names_meaning.specs.declared.candidates.Denoted.TheVariants as denoted_as
use Rattle.vhdl_names_typing.specs.declared.told.Denotes.TheVariants as denotes
use Rattle.vhdl_names_meaning.specs.declared.candidates.RangeCandidate.TheVariants as range

-- the flag of an index or a slice: whether it is globally static
abbrev pub flag_of : PartValue-F ChoiceValue PartValue Value ItemValue LinkValue Reference → Bool
flag_of (PartValue-F.Index v is_static) = is_static
flag_of (PartValue-F.Slice left direction right are_static) = are_static

unfoldable pub part_is_static : PartValue → Bool
part_is_static p = flag_of (out-PartValue p)

-- whether the bounds of what is named are globally static: those of an object are, those of a slice where its own are
unfoldable pub bounds_are_static : List PartValue → Bool
bounds_are_static [] = true
bounds_are_static (p ∷ []) = part_is_static p
bounds_are_static (p ∷ parts) = bounds_are_static parts

-- The name of an object, an element of it or a slice, of a type that is known. Its indexes and slices lead to that type from the
-- object's. By their flags the name is static where the rules held it for that, and so are the bounds of what is named.
pub record IsObject (o : ObjectName) (d : Denoted) : Type 0 where
  pub parts : List PartValue
  pub base : BaseType
  pub is_static : Bool
  pub typed : o.base ≡ Some base
  pub is : d ≡ denoted_as.Object o.object parts base is_static
  pub known : all_known (map known_part parts) ≡ true
  pub leads : named_after (Some o.object.base) (map type_with parts) ≡ Some base
  pub static : is_static ≡ o.is_static
  pub parts_static : list_all part_is_static parts ≡ o.is_static
  pub bounds_static : bounds_are_static parts ≡ o.has_static_bounds

unfoldable pub ObjectNamed : Denotes → Denoted → Type 0
ObjectNamed (denotes.Object o) d = IsObject o d
ObjectNamed _ d = Unit {0}

abbrev pub NameTells : NameTold → Denoted → Type 0
NameTells n d = n.names ≡ [] → n.typing ≡ [] → ObjectNamed n.denotes d

unfoldable pub ChoiceTells : ChoiceTold → ChoiceCandidate → Type 0
ChoiceTells (choice_told.Value t) (choice.Value c) = Tells t c
ChoiceTells (choice_told.Range t u) (choice.Range c direction d) = Tells t c × Tells u d
ChoiceTells (choice_told.Others place) choice.Others = Unit {0}
ChoiceTells _ _ = ⊥

unfoldable pub BoundsTell : BoundsTold → RangeCandidate → Type 0
BoundsTell (bounds_told.Range t u) (range.Bounds c direction d) = Tells t c × Tells u d
BoundsTell (bounds_told.Name n) (range.Name d) = n.names ≡ [] → n.typing ≡ [] → known_range (range_of d) ≡ true
BoundsTell _ _ = ⊥

pub record HasMeanings (text : List ℕ) (look : Token → List Entry) : Type 0 where
  pub expressions : (e : Expr) → Tells (told text look e) (candidate text look e)
  pub names : (n : Name) → NameTells (told_name text look n) (denoted text look n)
  pub choices : (c : Choice) → ChoiceTells (told_choice text look c) (choice_candidate text look c)
  pub ranges : (b : Bounds) → BoundsTell (told_bounds text look b) (range_candidate text look b)
