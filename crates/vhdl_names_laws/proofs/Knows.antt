-- When a value, a reference or a part of one is known, form by form.
use Rattle.std.proofs.Common.{Bool, List, ap, map, sym, true, ℕ, ◌&&◌, ◌∙◌, ◌≡◌}
use Rattle.vhdl_names_laws.specs.Known.{all_known, choice_step, item_step, known_choice, known_item, known_link, known_part, known_reference, known_value, link_step, part_step, reference_step, value_step}
use Rattle.vhdl_names_meaning.specs.Names.{reference}
use Rattle.vhdl_tree.specs.declared.expressions.Direction.{Direction}
use Rattle.vhdl_tree.specs.declared.expressions.Operator.{Operator}
use Rattle.vhdl_tree.specs.declared.expressions.Unary.{Unary}
use Rattle.vhdl_units.specs.declared.base_type.BaseType.{BaseType}
use Rattle.vhdl_units.specs.declared.entry.Function.{Function}
use Rattle.vhdl_units.specs.declared.entry.Object.{Object}
use Rattle.vhdl_units.specs.declared.values.ChoiceValue.{ChoiceValue, roll-ChoiceValue}
use Rattle.vhdl_units.specs.declared.values.ChoiceValue.TheFolds.{fold-roll-ChoiceValue, fold-roll-PartValue, fold-roll-Reference, fold-roll-Value, fold_out-ItemValue, fold_out-LinkValue, map-ChoiceValue, map-PartValue, map-Value}
use Rattle.vhdl_units.specs.declared.values.ChoiceValue.TheOpen.{ChoiceValue-F, PartValue-F, Value-F}
use Rattle.vhdl_units.specs.declared.values.ItemValue.{ItemValue}
use Rattle.vhdl_units.specs.declared.values.LinkValue.{LinkValue}
use Rattle.vhdl_units.specs.declared.values.ObjectAttribute.{ObjectAttribute}
use Rattle.vhdl_units.specs.declared.values.PartValue.{PartValue, roll-PartValue}
use Rattle.vhdl_units.specs.declared.values.Reference.{Reference}
use Rattle.vhdl_units.specs.declared.values.Value.{Value, roll-Value}
use Rattle.vhdl_units.specs.declared.values.ChoiceValue.TheVariants as choice_value
use Rattle.vhdl_units.specs.declared.values.PartValue.TheVariants as part
use Rattle.vhdl_units.specs.declared.values.Value.TheVariants as value

-- ---- one form

value_rolled : (x : Value-F ChoiceValue PartValue Value ItemValue LinkValue Reference)
    → known_value (roll-Value x) ≡ value_step (map-Value _ _ _ _ _ _ _ _ _ _ _ _ known_choice known_part known_value known_item known_link known_reference x)
value_rolled x = fold-roll-Value Bool Bool Bool Bool Bool Bool choice_step part_step value_step item_step link_step reference_step x

choice_rolled : (x : ChoiceValue-F ChoiceValue PartValue Value ItemValue LinkValue Reference)
    → known_choice (roll-ChoiceValue x) ≡ choice_step (map-ChoiceValue _ _ _ _ _ _ _ _ _ _ _ _ known_choice known_part known_value known_item known_link known_reference x)
choice_rolled x = fold-roll-ChoiceValue Bool Bool Bool Bool Bool Bool choice_step part_step value_step item_step link_step reference_step x

part_rolled : (x : PartValue-F ChoiceValue PartValue Value ItemValue LinkValue Reference)
    → known_part (roll-PartValue x) ≡ part_step (map-PartValue _ _ _ _ _ _ _ _ _ _ _ _ known_choice known_part known_value known_item known_link known_reference x)
part_rolled x = fold-roll-PartValue Bool Bool Bool Bool Bool Bool choice_step part_step value_step item_step link_step reference_step x

-- ---- values

pub known_integer : (n : ℕ) → known_value (value.Integer n) ≡ true
known_integer n = ap known_value (sym (value.rolls-Integer n)) ∙ value_rolled (Value-F.Integer n)

pub known_time : (n : ℕ) → known_value (value.Time n) ≡ true
known_time n = ap known_value (sym (value.rolls-Time n)) ∙ value_rolled (Value-F.Time n)

pub known_literal : (t : BaseType) (position : ℕ) → known_value (value.Literal t position) ≡ true
known_literal t position = ap known_value (sym (value.rolls-Literal t position)) ∙ value_rolled (Value-F.Literal t position)

pub known_text : (t : BaseType) (bytes : List ℕ) → known_value (value.Text t bytes) ≡ true
known_text t bytes = ap known_value (sym (value.rolls-Text t bytes)) ∙ value_rolled (Value-F.Text t bytes)

pub known_object : (r : Reference) → known_value (value.Object r) ≡ known_reference r
known_object r = ap known_value (sym (value.rolls-Object r)) ∙ value_rolled (Value-F.Object r)

pub known_attribute : (r : Reference) (a : ObjectAttribute) → known_value (value.Attribute r a) ≡ known_reference r
known_attribute r a = ap known_value (sym (value.rolls-Attribute r a)) ∙ value_rolled (Value-F.Attribute r a)

pub known_call : (f : Function) (v : Value) → known_value (value.Call f v) ≡ known_value v
known_call f v = ap known_value (sym (value.rolls-Call f v)) ∙ value_rolled (Value-F.Call f v)

pub known_now : known_value value.Now ≡ true
known_now = ap known_value (sym value.rolls-Now) ∙ value_rolled Value-F.Now

pub known_position : (t : BaseType) (v : Value) → known_value (value.Position t v) ≡ known_value v
known_position t v = ap known_value (sym (value.rolls-Position t v)) ∙ value_rolled (Value-F.Position t v)

pub known_at : (t : BaseType) (v : Value) → known_value (value.At t v) ≡ known_value v
known_at t v = ap known_value (sym (value.rolls-At t v)) ∙ value_rolled (Value-F.At t v)

pub known_unary : (op : Unary) (t : BaseType) (v : Value) → known_value (value.Unary op t v) ≡ known_value v
known_unary op t v = ap known_value (sym (value.rolls-Unary op t v)) ∙ value_rolled (Value-F.Unary op t v)

pub known_chain : (t : BaseType) (first : Value) (links : List LinkValue) → known_value (value.Chain t first links) ≡ (known_value first && all_known (map known_link links))
known_chain t first links = ap known_value (sym (value.rolls-Chain t first links)) ∙ value_rolled (Value-F.Chain t first links)

pub known_aggregate : (t : BaseType) (items : List ItemValue) → known_value (value.Aggregate t items) ≡ all_known (map known_item items)
known_aggregate t items = ap known_value (sym (value.rolls-Aggregate t items)) ∙ value_rolled (Value-F.Aggregate t items)

-- ---- their operands and elements

pub known_link_of : (op : Operator) (v : Value) → known_link (record { operator = op; right = v }) ≡ known_value v
known_link_of op v = fold_out-LinkValue Bool Bool Bool Bool Bool Bool choice_step part_step value_step item_step link_step reference_step (record { operator = op; right = v })

pub known_item_of : (choices : List ChoiceValue) (v : Value) → known_item (record { choices = choices; value = v }) ≡ (all_known (map known_choice choices) && known_value v)
known_item_of choices v = fold_out-ItemValue Bool Bool Bool Bool Bool Bool choice_step part_step value_step item_step link_step reference_step (record { choices = choices; value = v })

pub known_one : (v : Value) → known_choice (choice_value.Value v) ≡ known_value v
known_one v = ap known_choice (sym (choice_value.rolls-Value v)) ∙ choice_rolled (ChoiceValue-F.Value v)

pub known_between : (left : Value) (d : Direction) (right : Value) → known_choice (choice_value.Range left d right) ≡ (known_value left && known_value right)
known_between left d right = ap known_choice (sym (choice_value.rolls-Range left d right)) ∙ choice_rolled (ChoiceValue-F.Range left d right)

pub known_others : known_choice choice_value.Others ≡ true
known_others = ap known_choice (sym choice_value.rolls-Others) ∙ choice_rolled ChoiceValue-F.Others

-- ---- what follows the name of an object

pub known_index : (v : Value) (is_static : Bool) → known_part (part.Index v is_static) ≡ known_value v
known_index v is_static = ap known_part (sym (part.rolls-Index v is_static)) ∙ part_rolled (PartValue-F.Index v is_static)

pub known_slice : (left : Value) (d : Direction) (right : Value) (are_static : Bool) → known_part (part.Slice left d right are_static) ≡ (known_value left && known_value right)
known_slice left d right are_static = ap known_part (sym (part.rolls-Slice left d right are_static)) ∙ part_rolled (PartValue-F.Slice left d right are_static)

pub known_parts : (o : Object) (parts : List PartValue) (t : BaseType) → known_reference (reference o parts t) ≡ all_known (map known_part parts)
unfolding reference
known_parts o parts t = fold-roll-Reference Bool Bool Bool Bool Bool Bool choice_step part_step value_step item_step link_step reference_step (record { object = o; parts = parts; base = t })
