-- Aggregates: the choices are of INTEGER, and each element is asked the type of the array's elements.
use Rattle.std.proofs.Common.{◌≡◌, ℕ, Bool, true, Option, Some, None, List, [], ◌∷◌, map, refl, ap, sym, ◌∙◌}
use Rattle.std.proofs.lemmas.Bool.{and_parts, and_from}
use Rattle.std.specs.List.{flat_map, list_all}
use Rattle.vhdl_names_laws.proofs.Faults.{asked, asked_static, asked_type}
use Rattle.vhdl_names_laws.proofs.Free.{both_empty, own_typing}
use Rattle.vhdl_names_laws.proofs.Knows.{known_aggregate, known_between, known_item_of, known_one, known_others}
use Rattle.vhdl_names_laws.proofs.OfType.{type_aggregate, type_between, type_item_of, type_one, type_others}
use Rattle.vhdl_names_laws.proofs.Operands.{holds_element}
use Rattle.vhdl_names_laws.proofs.Settles.{item_settled, open_aggregate, settled_own, static_with, types_with}
use Rattle.vhdl_names_laws.specs.Known.{all_known, known_choice, known_item, known_value}
use Rattle.vhdl_names_laws.proofs.ListsTell.{ChoicesTell, ItemTells, ItemsTell}
use Rattle.vhdl_names_laws.specs.Meanings.{ChoiceTells}
use Rattle.vhdl_names_laws.specs.Tells.{Agrees, Tells}
use Rattle.vhdl_names_laws.specs.Typed.{HasType, all_of, is_integer_choice, is_item_of, type_of}
use Rattle.vhdl_names_meaning.specs.Operators.{aggregate, item, item_is_static, item_types}
use Rattle.vhdl_names_meaning.specs.Ranges.{choice_at, choice_is_static}
use Rattle.vhdl_names_meaning.specs.Settling.{element_or, item_at, settled, settled_item}
use Rattle.vhdl_names_meaning.specs.declared.candidates.Candidate.{Candidate, out-Candidate}
use Rattle.vhdl_names_meaning.specs.declared.candidates.CandidateItem.{CandidateItem, out-CandidateItem}
use Rattle.vhdl_names_meaning.specs.declared.candidates.ChoiceCandidate.{ChoiceCandidate}
use Rattle.vhdl_names_operators.proofs.Given.{has_aggregates}
use Rattle.vhdl_names_operators.specs.Literals.{aggregates, holds}
use Rattle.vhdl_names_operators.specs.Sets.{has}
use Rattle.vhdl_units.specs.Types.{element, is_array, is_array_with}
use Rattle.vhdl_units.specs.declared.base_type.BaseType.{BaseType}
use Rattle.vhdl_names_typing.specs.Expressions.{aggregate_names, aggregate_told, choice_names, choice_typing, index_typing, item_names, item_typing, malformed}
use Rattle.vhdl_names_typing.specs.Expressions as told_of
use Rattle.vhdl_names_typing.specs.Faults.{asks, typing_of}
use Rattle.vhdl_names_typing.specs.declared.told.ChoiceTold.{ChoiceTold}
use Rattle.vhdl_names_typing.specs.declared.told.ItemTold.{ItemTold}
use Rattle.vhdl_names_typing.specs.declared.told.Told.{Told}
use Rattle.vhdl_names_meaning.specs.declared.candidates.ChoiceCandidate.TheVariants as choice
use Rattle.vhdl_names_typing.specs.declared.told.ChoiceTold.TheVariants as choice_told
use Rattle.vhdl_units.specs.declared.base_type.BaseType.TheVariants as base
use Rattle.vhdl_names_meaning.specs.declared.candidates.Open.TheVariants as pending

-- ---- choices

index_known : (t : Told) (c : Candidate) → Tells t c → t.names ≡ [] → index_typing t ≡ [] → known_value (settled c base.Integer) ≡ true
unfolding index_typing
index_known t c tells n h = let parts = both_empty (typing_of t) (asks base.Integer t) h in asked base.Integer t c tells (n, parts.0) parts.1

index_typed : (t : Told) (c : Candidate) → Tells t c → t.names ≡ [] → index_typing t ≡ [] → HasType (settled c base.Integer) base.Integer
unfolding index_typing
index_typed t c tells n h = let parts = both_empty (typing_of t) (asks base.Integer t) h in asked_type base.Integer t c tells (n, parts.0) parts.1

index_static : (t : Told) (c : Candidate) → Tells t c → t.names ≡ [] → index_typing t ≡ [] → (out-Candidate c).is_static ≡ t.is_static
unfolding index_typing
index_static t c tells n h = let parts = both_empty (typing_of t) (asks base.Integer t) h in asked_static base.Integer t c tells (n, parts.0) parts.1

choice_known : (t : ChoiceTold) (c : ChoiceCandidate) → ChoiceTells t c → choice_names t ≡ [] → choice_typing t ≡ [] → known_choice (choice_at base.Integer c) ≡ true
unfolding ChoiceTells choice_names choice_typing choice_at
choice_known (choice_told.Value t) (choice.Value c) tells n h = known_one (settled c base.Integer) ∙ index_known t c tells n h
choice_known (choice_told.Range t u) (choice.Range c direction d) tells n h =
    let names = both_empty t.names u.names n in
    let typing = both_empty (index_typing t) (index_typing u) h in
    known_between (settled c base.Integer) direction (settled d base.Integer)
    ∙ and_from (known_value (settled c base.Integer)) (known_value (settled d base.Integer)) (index_known t c tells.0 names.0 typing.0) (index_known u d tells.1 names.1 typing.1)
choice_known (choice_told.Others place) choice.Others tells n h = known_others
choice_known _ _ tells n h = absurd tells

choice_typed : (t : ChoiceTold) (c : ChoiceCandidate) → ChoiceTells t c → choice_names t ≡ [] → choice_typing t ≡ [] → is_integer_choice (choice_at base.Integer c) ≡ true
unfolding ChoiceTells choice_names choice_typing choice_at
choice_typed (choice_told.Value t) (choice.Value c) tells n h = type_one (settled c base.Integer) (index_typed t c tells n h)
choice_typed (choice_told.Range t u) (choice.Range c direction d) tells n h =
    let names = both_empty t.names u.names n in
    let typing = both_empty (index_typing t) (index_typing u) h in
    type_between (settled c base.Integer) direction (settled d base.Integer) (index_typed t c tells.0 names.0 typing.0) (index_typed u d tells.1 names.1 typing.1)
choice_typed (choice_told.Others place) choice.Others tells n h = type_others
choice_typed _ _ tells n h = absurd tells

choice_static : (t : ChoiceTold) (c : ChoiceCandidate) → ChoiceTells t c → choice_names t ≡ [] → choice_typing t ≡ [] → choice_is_static c ≡ told_of.choice_is_static t
unfolding ChoiceTells choice_names choice_typing choice_is_static told_of.choice_is_static
choice_static (choice_told.Value t) (choice.Value c) tells n h = index_static t c tells n h
choice_static (choice_told.Range t u) (choice.Range c direction d) tells n h =
    let names = both_empty t.names u.names n in
    let typing = both_empty (index_typing t) (index_typing u) h in
    rw (index_static t c tells.0 names.0 typing.0, index_static u d tells.1 names.1 typing.1) refl
choice_static (choice_told.Others place) choice.Others tells n h = refl
choice_static _ _ tells n h = absurd tells

choices_typed : (tolds : List ChoiceTold) (choices : List ChoiceCandidate) → ChoicesTell tolds choices → flat_map choice_names tolds ≡ [] → flat_map choice_typing tolds ≡ []
    → list_all (λ choice. choice) (map is_integer_choice (map (choice_at base.Integer) choices)) ≡ true
unfolding ChoicesTell
choices_typed [] [] tell n h = refl
choices_typed (t ∷ tolds) (c ∷ choices) tell n h =
    let names = both_empty (choice_names t) (flat_map choice_names tolds) n in
    let typing = both_empty (choice_typing t) (flat_map choice_typing tolds) h in
    and_from (is_integer_choice (choice_at base.Integer c)) (list_all (λ choice. choice) (map is_integer_choice (map (choice_at base.Integer) choices)))
    (choice_typed t c tell.0 names.0 typing.0) (choices_typed tolds choices tell.1 names.1 typing.1)
choices_typed [] (c ∷ choices) tell n h = absurd tell
choices_typed (t ∷ tolds) [] tell n h = absurd tell

choices_static : (tolds : List ChoiceTold) (choices : List ChoiceCandidate) → ChoicesTell tolds choices → flat_map choice_names tolds ≡ [] → flat_map choice_typing tolds ≡ []
    → list_all choice_is_static choices ≡ list_all told_of.choice_is_static tolds
unfolding ChoicesTell
choices_static [] [] tell n h = refl
choices_static (t ∷ tolds) (c ∷ choices) tell n h =
    let names = both_empty (choice_names t) (flat_map choice_names tolds) n in
    let typing = both_empty (choice_typing t) (flat_map choice_typing tolds) h in
    rw (choice_static t c tell.0 names.0 typing.0, choices_static tolds choices tell.1 names.1 typing.1) refl
choices_static [] (c ∷ choices) tell n h = absurd tell
choices_static (t ∷ tolds) [] tell n h = absurd tell

choices_known : (tolds : List ChoiceTold) (choices : List ChoiceCandidate) → ChoicesTell tolds choices → flat_map choice_names tolds ≡ [] → flat_map choice_typing tolds ≡ []
    → all_known (map known_choice (map (choice_at base.Integer) choices)) ≡ true
unfolding ChoicesTell
choices_known [] [] tell n h = refl
choices_known (t ∷ tolds) (c ∷ choices) tell n h =
    let names = both_empty (choice_names t) (flat_map choice_names tolds) n in
    let typing = both_empty (choice_typing t) (flat_map choice_typing tolds) h in
    and_from (known_choice (choice_at base.Integer c)) (all_known (map known_choice (map (choice_at base.Integer) choices)))
    (choice_known t c tell.0 names.0 typing.0) (choices_known tolds choices tell.1 names.1 typing.1)
choices_known [] (c ∷ choices) tell n h = absurd tell
choices_known (t ∷ tolds) [] tell n h = absurd tell

-- ---- elements

pub item_tells : (told : ItemTold) (choices : List ChoiceCandidate) (c : Candidate) → ChoicesTell told.choices choices → Tells told.value c → ItemTells told (item choices c)
unfolding item item_names item_typing told_of.item_is_static told_of.has_static_choices
item_tells told choices c tell tells = record {
  choices = λ n t.
      let names = both_empty (flat_map choice_names told.choices) told.value.names n in
      let typing = both_empty (flat_map choice_typing told.choices) (typing_of told.value) t in
      choices_known told.choices choices tell names.0 typing.0;
  integers = λ n t.
      let names = both_empty (flat_map choice_names told.choices) told.value.names n in
      let typing = both_empty (flat_map choice_typing told.choices) (typing_of told.value) t in
      choices_typed told.choices choices tell names.0 typing.0;
  value = tells;
  static = λ n t u h.
      let names = both_empty (flat_map choice_names told.choices) told.value.names n in
      let typing = both_empty (flat_map choice_typing told.choices) (typing_of told.value) t in
      rw (choices_static told.choices choices tell names.0 typing.0, (tells names.1 (own_typing told.value typing.1)).static u h) refl;
}

record ItemAgrees (told : ItemTold) (i : CandidateItem) : Type 0 where
  choices : all_known (map known_choice (out-CandidateItem i).choices) ≡ true
  integers : list_all (λ choice. choice) (map is_integer_choice (out-CandidateItem i).choices) ≡ true
  value : Agrees told.value (out-CandidateItem i).value
  static : (t : BaseType) → has told.value.types t ≡ true → (out-CandidateItem i).is_static ≡ told_of.item_is_static told

unfoldable ItemsAgree : List ItemTold → List CandidateItem → Type 0
ItemsAgree [] [] = Unit {0}
ItemsAgree (t ∷ tolds) (i ∷ items) = ItemAgrees t i × ItemsAgree tolds items
ItemsAgree _ _ = ⊥

item_agrees : (told : ItemTold) (i : CandidateItem) → ItemTells told i → item_names told ≡ [] → item_typing told ≡ [] → ItemAgrees told i
unfolding item_names item_typing
item_agrees told i tells n t =
    let names = both_empty (flat_map choice_names told.choices) told.value.names n in
    let typing = both_empty (flat_map choice_typing told.choices) (typing_of told.value) t in
    record { choices = tells.choices n t; integers = tells.integers n t; value = tells.value names.1 (own_typing told.value typing.1); static = tells.static n t }

items_agree : (tolds : List ItemTold) (items : List CandidateItem) → ItemsTell tolds items → flat_map item_names tolds ≡ [] → flat_map item_typing tolds ≡ [] → ItemsAgree tolds items
unfolding ItemsTell ItemsAgree
items_agree [] [] tell n h = tt
items_agree (t ∷ tolds) (i ∷ items) tell n h =
    let names = both_empty (item_names t) (flat_map item_names tolds) n in
    let typing = both_empty (item_typing t) (flat_map item_typing tolds) h in
    (item_agrees t i tell.0 names.0 typing.0, items_agree tolds items tell.1 names.1 typing.1)
items_agree [] (i ∷ items) tell n h = absurd tell
items_agree (t ∷ tolds) [] tell n h = absurd tell

items_types : (tolds : List ItemTold) (items : List CandidateItem) → ItemsAgree tolds items → map item_types items ≡ map told_of.item_types tolds
unfolding ItemsAgree item_types told_of.item_types
items_types [] [] a = refl
items_types (t ∷ tolds) (i ∷ items) a = rw (a.0.value.types, items_types tolds items a.1) refl
items_types [] (i ∷ items) a = absurd a
items_types (t ∷ tolds) [] a = absurd a

item_known : (told : ItemTold) (i : CandidateItem) (t : BaseType) → ItemAgrees told i → holds told.value.types t ≡ true → known_item (item_at (element_or (element t)) (settled_item i)) ≡ true
unfolding item_at
item_known told i t a h =
    let e = element_or (element t) in
    let value = settled (out-CandidateItem i).value e in
    ap (λ s. known_item (item_at e s)) (item_settled i)
    ∙ known_item_of (out-CandidateItem i).choices value
    ∙ and_from (all_known (map known_choice (out-CandidateItem i).choices)) (known_value value) a.choices (a.value.known e (holds_element told.value.types t h))

items_known : (tolds : List ItemTold) (items : List CandidateItem) (t : BaseType) → ItemsAgree tolds items → list_all (λ types. holds types t) (map told_of.item_types tolds) ≡ true
    → all_known (map known_item (map (item_at (element_or (element t))) (map settled_item items))) ≡ true
unfolding ItemsAgree told_of.item_types
items_known [] [] t a h = refl
items_known (told ∷ tolds) (i ∷ items) t a h =
    let e = element_or (element t) in
    let parts = and_parts (holds told.value.types t) (list_all (λ types. holds types t) (map told_of.item_types tolds)) h in
    and_from (known_item (item_at e (settled_item i))) (all_known (map known_item (map (item_at e) (map settled_item items)))) (item_known told i t a.0 parts.0) (items_known tolds items t a.1 parts.1)
items_known [] (i ∷ items) t a h = absurd a
items_known (told ∷ tolds) [] t a h = absurd a

item_typed : (told : ItemTold) (i : CandidateItem) (t : BaseType) → ItemAgrees told i → holds told.value.types t ≡ true → is_item_of (item_at (element_or (element t)) (settled_item i)) (element_or (element t)) ≡ true
unfolding item_at
item_typed told i t a h =
    let e = element_or (element t) in
    ap (λ s. is_item_of (item_at e s) e) (item_settled i)
    ∙ type_item_of (out-CandidateItem i).choices (settled (out-CandidateItem i).value e) e a.integers (a.value.typed e (holds_element told.value.types t h))

items_typed : (tolds : List ItemTold) (items : List CandidateItem) (t : BaseType) → ItemsAgree tolds items → list_all (λ types. holds types t) (map told_of.item_types tolds) ≡ true
    → list_all (λ item. item (element_or (element t))) (map is_item_of (map (item_at (element_or (element t))) (map settled_item items))) ≡ true
unfolding ItemsAgree told_of.item_types
items_typed [] [] t a h = refl
items_typed (told ∷ tolds) (i ∷ items) t a h =
    let e = element_or (element t) in
    let parts = and_parts (holds told.value.types t) (list_all (λ types. holds types t) (map told_of.item_types tolds)) h in
    and_from (is_item_of (item_at e (settled_item i)) e) (list_all (λ item. item e) (map is_item_of (map (item_at e) (map settled_item items)))) (item_typed told i t a.0 parts.0) (items_typed tolds items t a.1 parts.1)
items_typed [] (i ∷ items) t a h = absurd a
items_typed (told ∷ tolds) [] t a h = absurd a

items_static : (tolds : List ItemTold) (items : List CandidateItem) (t : BaseType) → ItemsAgree tolds items → list_all (λ types. holds types t) (map told_of.item_types tolds) ≡ true
    → list_all item_is_static items ≡ list_all told_of.item_is_static tolds
unfolding ItemsAgree told_of.item_types item_is_static
items_static [] [] t a h = refl
items_static (told ∷ tolds) (i ∷ items) t a h =
    let parts = and_parts (holds told.value.types t) (list_all (λ types. holds types t) (map told_of.item_types tolds)) h in
    rw (a.0.static (element_or (element t)) (holds_element told.value.types t parts.0), items_static tolds items t a.1 parts.1) refl
items_static [] (i ∷ items) t a h = absurd a
items_static (told ∷ tolds) [] t a h = absurd a

-- an array's elements
all_at_element : (e : Option BaseType) (items : List (BaseType → Bool)) → is_array_with e ≡ true → list_all (λ item. item (element_or e)) items ≡ true → all_of e items ≡ true
unfolding element_or
all_at_element (Some e) items array h = h
all_at_element None items array h = absurd cc

-- ---- whole aggregates

aggregate_has : (items : List CandidateItem) → (out-Candidate (aggregate items)).types ≡ aggregates (map item_types items)
unfolding aggregate
aggregate_has items = types_with (aggregates (map item_types items)) (list_all item_is_static items) (pending.Aggregate items)

aggregate_known : (tolds : List ItemTold) (items : List CandidateItem) (t : BaseType) → ItemsAgree tolds items → has (aggregates (map told_of.item_types tolds)) t ≡ true
    → known_value (settled (aggregate items) t) ≡ true
unfolding aggregate
aggregate_known tolds items t a h =
    let elements = map (item_at (element_or (element t))) (map settled_item items) in
    let own : has (aggregates (map item_types items)) t ≡ true = ap (λ types. has (aggregates types) t) (items_types tolds items a) ∙ h in
    let held = and_parts (is_array t) (list_all (λ types. holds types t) (map told_of.item_types tolds)) (sym (has_aggregates (map told_of.item_types tolds) t) ∙ h) in
    ap known_value (settled_own (aggregates (map item_types items)) (list_all item_is_static items) (pending.Aggregate items) t own ∙ open_aggregate items t)
    ∙ known_aggregate t elements
    ∙ items_known tolds items t a held.1

-- an aggregate's type is that of an array, whose element type each element can have
aggregate_held : (tolds : List ItemTold) (t : BaseType) → has (aggregates (map told_of.item_types tolds)) t ≡ true → (is_array t ≡ true) × (list_all (λ types. holds types t) (map told_of.item_types tolds) ≡ true)
aggregate_held tolds t h = and_parts (is_array t) (list_all (λ types. holds types t) (map told_of.item_types tolds)) (sym (has_aggregates (map told_of.item_types tolds) t) ∙ h)

aggregate_typed : (tolds : List ItemTold) (items : List CandidateItem) (t : BaseType) → ItemsAgree tolds items → has (aggregates (map told_of.item_types tolds)) t ≡ true
    → HasType (settled (aggregate items) t) t
unfolding aggregate
aggregate_typed tolds items t a h =
    let elements = map (item_at (element_or (element t))) (map settled_item items) in
    let own : has (aggregates (map item_types items)) t ≡ true = ap (λ types. has (aggregates types) t) (items_types tolds items a) ∙ h in
    let held = aggregate_held tolds t h in
    ap type_of (settled_own (aggregates (map item_types items)) (list_all item_is_static items) (pending.Aggregate items) t own ∙ open_aggregate items t)
    ∙ type_aggregate t elements (all_at_element (element t) (map is_item_of elements) held.0 (items_typed tolds items t a held.1))

aggregate_static : (items : List CandidateItem) → (out-Candidate (aggregate items)).is_static ≡ list_all item_is_static items
unfolding aggregate
aggregate_static items = static_with (aggregates (map item_types items)) (list_all item_is_static items) (pending.Aggregate items)

aggregate_agrees : (place : ℕ) (tolds : List ItemTold) (items : List CandidateItem) → ItemsAgree tolds items → Agrees (aggregate_told place tolds) (aggregate items)
unfolding aggregate_told
aggregate_agrees place tolds items a = record {
  types = aggregate_has items ∙ ap aggregates (items_types tolds items a);
  known = λ t h. aggregate_known tolds items t a h;
  typed = λ t h. aggregate_typed tolds items t a h;
  static = λ t h. aggregate_static items ∙ items_static tolds items t a (aggregate_held tolds t h).1;
}

pub aggregate_tells : (place : ℕ) (tolds : List ItemTold) (items : List CandidateItem) → ItemsTell tolds items → Tells (aggregate_told place tolds) (aggregate items)
unfolding aggregate_told aggregate_names
aggregate_tells place tolds items tell = λ n t.
    aggregate_agrees place tolds items (items_agree tolds items tell n (both_empty (flat_map item_typing tolds) (malformed place tolds) t).0)
