-- The type of a value, a reference or a part of one, form by form.
use Rattle.std.proofs.Common.{Bool, List, None, Option, Some, [], ap, false, if◌then◌else◌, map, refl, sym, true, ℕ, ◌&&◌, ◌++◌, ◌∙◌, ◌||◌, ◌≡◌, ◌∷◌}
use Rattle.std.proofs.lemmas.Bool.{and_from}
use Rattle.std.specs.List.{list_all}
use Rattle.std.specs.Prelude.{is_some}
use Rattle.vhdl_names_laws.specs.Typed.{HasType, OperandType, all_of, are_same, attribute_of, choice_step, given_by, has_type, is_integer_choice, is_item_of, is_of, item_step, link_step, named_after, named_with, only_if, operands_fit, part_step, reference_step, sides_fit, type_named, type_of, type_of_link, type_with, value_step}
use Rattle.vhdl_names_meaning.specs.Attributes.{attribute_type}
use Rattle.vhdl_names_meaning.specs.Names.{reference}
use Rattle.vhdl_names_overloads.proofs.Same.{same_is, same_self}
use Rattle.vhdl_names_operators.specs.Literals.{spells}
use Rattle.vhdl_names_operators.specs.Operators.{is_defined_on}
use Rattle.vhdl_names_operators.specs.Sets.{has}
use Rattle.vhdl_tree.specs.declared.expressions.Direction.{Direction}
use Rattle.vhdl_tree.specs.declared.expressions.Operator.{Operator}
use Rattle.vhdl_tree.specs.declared.expressions.Unary.{Unary}
use Rattle.vhdl_units.specs.Types.{element, is_array, same}
use Rattle.vhdl_units.specs.declared.base_type.BaseType.{BaseType}
use Rattle.vhdl_units.specs.declared.entry.Function.{Function}
use Rattle.vhdl_units.specs.declared.entry.Object.{Object}
use Rattle.vhdl_units.specs.declared.values.ChoiceValue.{ChoiceValue, roll-ChoiceValue}
use Rattle.vhdl_units.specs.declared.values.ChoiceValue.TheFolds.{fold-roll-ChoiceValue, fold-roll-PartValue, fold-roll-Reference, fold-roll-Value, fold_out-ItemValue, fold_out-LinkValue, map-ChoiceValue, map-PartValue, map-Value}
use Rattle.vhdl_units.specs.declared.values.ChoiceValue.TheOpen.{ChoiceValue-F, PartValue-F, Value-F}
use Rattle.vhdl_units.specs.declared.values.ItemValue.{ItemValue}
use Rattle.vhdl_units.specs.declared.values.LinkValue.{LinkValue}
use Rattle.vhdl_units.specs.declared.values.ObjectAttribute.{ObjectAttribute}
use Rattle.vhdl_units.specs.declared.values.PartValue.{PartValue, roll-PartValue}
use Rattle.vhdl_units.specs.declared.values.Reference.{Reference}
use Rattle.vhdl_units.specs.declared.values.Value.{Value, roll-Value}
use Rattle.vhdl_units.specs.declared.base_type.BaseType.TheVariants as base
use Rattle.vhdl_units.specs.declared.values.ChoiceValue.TheVariants as choice_value
use Rattle.vhdl_units.specs.declared.values.PartValue.TheVariants as part
use Rattle.vhdl_units.specs.declared.values.Value.TheVariants as value

-- ---- types

or_nothing : (b : Bool) → (b || false) ≡ true → b ≡ true
or_nothing true h = refl
or_nothing false h = h

pub has_one : (t u : BaseType) → has (t ∷ []) u ≡ true → u ≡ t
unfolding has
has_one t u h = same_is u t (or_nothing (same u t) h)

is_itself : (t : BaseType) (o : Option BaseType) → o ≡ Some t → is_of t o ≡ true
is_itself t o h = rw h (same_self t)

only_true : (b : Bool) (t : BaseType) → b ≡ true → only_if b t ≡ Some t
only_true true t h = refl
only_true false t h = absurd (cc)

-- ---- one form

value_rolled : (x : Value-F ChoiceValue PartValue Value ItemValue LinkValue Reference)
    → type_of (roll-Value x) ≡ value_step (map-Value _ _ _ _ _ _ _ _ _ _ _ _ is_integer_choice type_with type_of is_item_of type_of_link type_named x)
value_rolled x = fold-roll-Value Bool (BaseType → Option BaseType) (Option BaseType) (BaseType → Bool) OperandType (Option BaseType) choice_step part_step value_step item_step link_step reference_step x

choice_rolled : (x : ChoiceValue-F ChoiceValue PartValue Value ItemValue LinkValue Reference)
    → is_integer_choice (roll-ChoiceValue x) ≡ choice_step (map-ChoiceValue _ _ _ _ _ _ _ _ _ _ _ _ is_integer_choice type_with type_of is_item_of type_of_link type_named x)
choice_rolled x = fold-roll-ChoiceValue Bool (BaseType → Option BaseType) (Option BaseType) (BaseType → Bool) OperandType (Option BaseType) choice_step part_step value_step item_step link_step reference_step x

part_rolled : (x : PartValue-F ChoiceValue PartValue Value ItemValue LinkValue Reference)
    → type_with (roll-PartValue x) ≡ part_step (map-PartValue _ _ _ _ _ _ _ _ _ _ _ _ is_integer_choice type_with type_of is_item_of type_of_link type_named x)
part_rolled x = fold-roll-PartValue Bool (BaseType → Option BaseType) (Option BaseType) (BaseType → Bool) OperandType (Option BaseType) choice_step part_step value_step item_step link_step reference_step x

-- ---- values

pub type_integer : (n : ℕ) → HasType (value.Integer n) base.Integer
type_integer n = ap type_of (sym (value.rolls-Integer n)) ∙ value_rolled (Value-F.Integer n)

pub type_time : (n : ℕ) → HasType (value.Time n) base.Time
type_time n = ap type_of (sym (value.rolls-Time n)) ∙ value_rolled (Value-F.Time n)

pub type_literal : (t : BaseType) (position : ℕ) → HasType (value.Literal t position) t
type_literal t position = ap type_of (sym (value.rolls-Literal t position)) ∙ value_rolled (Value-F.Literal t position)

pub type_text : (t : BaseType) (bytes : List ℕ) → spells bytes t ≡ true → HasType (value.Text t bytes) t
type_text t bytes h = ap type_of (sym (value.rolls-Text t bytes)) ∙ value_rolled (Value-F.Text t bytes) ∙ only_true (spells bytes t) t h

pub type_object : (r : Reference) → type_of (value.Object r) ≡ type_named r
type_object r = ap type_of (sym (value.rolls-Object r)) ∙ value_rolled (Value-F.Object r)

pub type_attribute : (r : Reference) (a : ObjectAttribute) (t : BaseType) → type_named r ≡ Some t → HasType (value.Attribute r a) (attribute_type a t)
type_attribute r a t h = ap type_of (sym (value.rolls-Attribute r a)) ∙ value_rolled (Value-F.Attribute r a) ∙ ap (λ o. attribute_of o a) h

given : (o result : Option BaseType) → o ≡ Some base.StdUlogic → (if is_of base.StdUlogic o then result else None) ≡ result
given o result h = rw h refl

pub type_call : (f : Function) (v : Value) (t : BaseType) → given_by f ≡ Some t → HasType v base.StdUlogic → HasType (value.Call f v) t
type_call f v t gives h = ap type_of (sym (value.rolls-Call f v)) ∙ value_rolled (Value-F.Call f v) ∙ given (type_of v) (given_by f) h ∙ gives

pub type_now : HasType value.Now base.Time
type_now = ap type_of (sym value.rolls-Now) ∙ value_rolled Value-F.Now

pub type_position : (t : BaseType) (v : Value) → HasType v t → HasType (value.Position t v) base.Integer
type_position t v h = ap type_of (sym (value.rolls-Position t v)) ∙ value_rolled (Value-F.Position t v) ∙ only_true (is_of t (type_of v)) base.Integer (is_itself t (type_of v) h)

pub type_at : (t : BaseType) (v : Value) → HasType v base.Integer → HasType (value.At t v) t
type_at t v h = ap type_of (sym (value.rolls-At t v)) ∙ value_rolled (Value-F.At t v) ∙ only_true (is_of base.Integer (type_of v)) t (is_itself base.Integer (type_of v) h)

pub type_unary : (op : Unary) (t : BaseType) (v : Value) → is_defined_on op t ≡ true → HasType v t → HasType (value.Unary op t v) t
type_unary op t v defined h =
    ap type_of (sym (value.rolls-Unary op t v)) ∙ value_rolled (Value-F.Unary op t v)
    ∙ only_true (is_defined_on op t && is_of t (type_of v)) t (and_from (is_defined_on op t) (is_of t (type_of v)) defined (is_itself t (type_of v) h))

pub type_chain : (t : BaseType) (first : Value) (links : List LinkValue) → is_some (type_of first) ≡ true → list_all has_type (map type_of_link links) ≡ true
    → sides_fit (type_of first) (map type_of_link links) ≡ true → HasType (value.Chain t first links) t
type_chain t first links h k sides =
    let operands = map type_of_link links in
    ap type_of (sym (value.rolls-Chain t first links)) ∙ value_rolled (Value-F.Chain t first links)
    ∙ only_true (operands_fit (type_of first) operands) t (and_from (is_some (type_of first)) (list_all has_type operands && sides_fit (type_of first) operands) h
    (and_from (list_all has_type operands) (sides_fit (type_of first) operands) k sides))

pub same_types : (o other : Option BaseType) (t : BaseType) → o ≡ Some t → other ≡ Some t → are_same o other ≡ true
same_types o other t h k = rw (h, k) (same_self t)

pub type_aggregate : (t : BaseType) (items : List ItemValue) → all_of (element t) (map is_item_of items) ≡ true → HasType (value.Aggregate t items) t
type_aggregate t items h = ap type_of (sym (value.rolls-Aggregate t items)) ∙ value_rolled (Value-F.Aggregate t items) ∙ only_true (all_of (element t) (map is_item_of items)) t h

-- ---- their operands and elements

pub some_of : (o : Option BaseType) (t : BaseType) → o ≡ Some t → is_some o ≡ true
some_of o t h = rw h refl

pub type_link_of : (op : Operator) (v : Value) → type_of_link (record { operator = op; right = v }) ≡ record { operator = op; type = type_of v }
type_link_of op v = fold_out-LinkValue Bool (BaseType → Option BaseType) (Option BaseType) (BaseType → Bool) OperandType (Option BaseType) choice_step part_step value_step item_step link_step reference_step (record { operator = op; right = v })

pub type_item_of : (choices : List ChoiceValue) (v : Value) (t : BaseType) → list_all (λ choice. choice) (map is_integer_choice choices) ≡ true → HasType v t → is_item_of (record { choices = choices; value = v }) t ≡ true
type_item_of choices v t h k =
    ap (λ at. at t) (fold_out-ItemValue Bool (BaseType → Option BaseType) (Option BaseType) (BaseType → Bool) OperandType (Option BaseType) choice_step part_step value_step item_step link_step reference_step (record { choices = choices; value = v }))
    ∙ and_from (list_all (λ choice. choice) (map is_integer_choice choices)) (is_of t (type_of v)) h (is_itself t (type_of v) k)

pub type_one : (v : Value) → HasType v base.Integer → is_integer_choice (choice_value.Value v) ≡ true
type_one v h = ap is_integer_choice (sym (choice_value.rolls-Value v)) ∙ choice_rolled (ChoiceValue-F.Value v) ∙ is_itself base.Integer (type_of v) h

pub type_between : (left : Value) (d : Direction) (right : Value) → HasType left base.Integer → HasType right base.Integer → is_integer_choice (choice_value.Range left d right) ≡ true
type_between left d right h k =
    ap is_integer_choice (sym (choice_value.rolls-Range left d right)) ∙ choice_rolled (ChoiceValue-F.Range left d right)
    ∙ and_from (is_of base.Integer (type_of left)) (is_of base.Integer (type_of right)) (is_itself base.Integer (type_of left) h) (is_itself base.Integer (type_of right) k)

pub type_others : is_integer_choice choice_value.Others ≡ true
type_others = ap is_integer_choice (sym choice_value.rolls-Others) ∙ choice_rolled ChoiceValue-F.Others

-- ---- what follows the name of an object

indexed_by : (o : Option BaseType) (t : BaseType) → o ≡ Some base.Integer → (if is_of base.Integer o then element t else None) ≡ element t
indexed_by o t h = rw h refl

pub type_index : (v : Value) (is_static : Bool) (t : BaseType) → HasType v base.Integer → type_with (part.Index v is_static) t ≡ element t
type_index v is_static t h =
    ap (λ p. type_with p t) (sym (part.rolls-Index v is_static)) ∙ ap (λ f. f t) (part_rolled (PartValue-F.Index v is_static)) ∙ indexed_by (type_of v) t h

pub type_slice : (left : Value) (d : Direction) (right : Value) (are_static : Bool) (t : BaseType) → is_array t ≡ true → HasType left base.Integer → HasType right base.Integer
    → type_with (part.Slice left d right are_static) t ≡ Some t
type_slice left d right are_static t array h k =
    let from = is_of base.Integer (type_of left) in
    let to = is_of base.Integer (type_of right) in
    ap (λ p. type_with p t) (sym (part.rolls-Slice left d right are_static)) ∙ ap (λ f. f t) (part_rolled (PartValue-F.Slice left d right are_static))
    ∙ only_true (is_array t && (from && to)) t
    (and_from (is_array t) (from && to) array (and_from from to (is_itself base.Integer (type_of left) h) (is_itself base.Integer (type_of right) k)))

after_more : (t : Option BaseType) (parts : List (BaseType → Option BaseType)) (p : BaseType → Option BaseType) → named_after t (parts ++ p ∷ []) ≡ named_with (named_after t parts) p
after_more t [] p = refl
after_more t (q ∷ parts) p = after_more (named_with t q) parts p

with_more : (parts : List PartValue) (p : PartValue) → map type_with (parts ++ p ∷ []) ≡ map type_with parts ++ type_with p ∷ []
with_more [] p = refl
with_more (q ∷ parts) p = ap (λ rest. type_with q ∷ rest) (with_more parts p)

-- one more part leads on
pub leads_on : (t : Option BaseType) (parts : List PartValue) (p : PartValue) (u v : BaseType) → named_after t (map type_with parts) ≡ Some u → type_with p u ≡ Some v → named_after t (map type_with (parts ++ p ∷ [])) ≡ Some v
leads_on t parts p u v h k =
    ap (named_after t) (with_more parts p) ∙ after_more t (map type_with parts) (type_with p) ∙ ap (λ o. named_with o (type_with p)) h ∙ k

pub type_parts : (o : Object) (parts : List PartValue) (t : BaseType) → named_after (Some o.base) (map type_with parts) ≡ Some t → type_named (reference o parts t) ≡ Some t
unfolding reference
type_parts o parts t h =
    let leads = named_after (Some o.base) (map type_with parts) in
    fold-roll-Reference Bool (BaseType → Option BaseType) (Option BaseType) (BaseType → Bool) OperandType (Option BaseType) choice_step part_step value_step item_step link_step reference_step (record { object = o; parts = parts; base = t })
    ∙ only_true (is_of t leads) t (is_itself t leads h)
