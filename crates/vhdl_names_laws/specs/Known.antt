-- Values and names with a meaning: nothing in them is `Unknown` (IEEE Std 1076-2008, clauses 8 and 9).
use Rattle.std.specs.List.{list_all}
use Rattle.std.specs.Prelude.{Bool, List, None, Option, Some, false, true, ◌&&◌}
use Rattle.vhdl_units.specs.declared.values.ChoiceValue.{ChoiceValue}
use Rattle.vhdl_units.specs.declared.values.ItemValue.{ItemValue}
use Rattle.vhdl_units.specs.declared.values.LinkValue.{LinkValue}
use Rattle.vhdl_units.specs.declared.values.PartValue.{PartValue}
use Rattle.vhdl_units.specs.declared.values.RangeValue.{RangeValue}
use Rattle.vhdl_units.specs.declared.values.Reference.{Reference}
use Rattle.vhdl_units.specs.declared.values.Value.{Value}
use Rattle.vhdl_units.specs.declared.values.RangeValue.TheVariants as range
use Rattle.vhdl_units.specs.declared.values.ChoiceValue.TheOpen.{ChoiceValue-F, PartValue-F, Value-F, ItemValue-F, LinkValue-F, Reference-F}  -- keep
use Rattle.vhdl_units.specs.declared.values.ChoiceValue.TheFolds.{fold-ChoiceValue, fold-PartValue, fold-Value, fold-ItemValue, fold-LinkValue, fold-Reference}  -- keep

abbrev pub all_known : List Bool → Bool
all_known parts = list_all (λ part. part) parts

abbrev pub choice_step : ChoiceValue-F Bool Bool Bool Bool Bool Bool → Bool
choice_step (ChoiceValue-F.Value v) = v
choice_step (ChoiceValue-F.Range left direction right) = left && right
choice_step ChoiceValue-F.Others = true

abbrev pub part_step : PartValue-F Bool Bool Bool Bool Bool Bool → Bool
part_step (PartValue-F.Index v is_static) = v
part_step (PartValue-F.Slice left direction right are_static) = left && right

abbrev pub value_step : Value-F Bool Bool Bool Bool Bool Bool → Bool
value_step Value-F.Unknown = false
value_step (Value-F.Integer n) = true
value_step (Value-F.Time n) = true
value_step (Value-F.Literal t position) = true
value_step (Value-F.Text t bytes) = true
value_step (Value-F.Object r) = r
value_step (Value-F.Attribute r a) = r
value_step (Value-F.Call f v) = v
value_step Value-F.Now = true
value_step (Value-F.Position t v) = v
value_step (Value-F.At t v) = v
value_step (Value-F.Unary op t v) = v
value_step (Value-F.Chain t first links) = first && all_known links
value_step (Value-F.Aggregate t items) = all_known items

abbrev pub item_step : ItemValue-F Bool Bool Bool Bool Bool Bool → Bool
item_step i = all_known i.choices && i.value

abbrev pub link_step : LinkValue-F Bool Bool Bool Bool Bool Bool → Bool
link_step l = l.right

abbrev pub reference_step : Reference-F Bool Bool Bool Bool Bool Bool → Bool
reference_step r = all_known r.parts

abbrev pub known_value : Value → Bool
known_value = fold-Value Bool Bool Bool Bool Bool Bool choice_step part_step value_step item_step link_step reference_step

abbrev pub known_reference : Reference → Bool
known_reference = fold-Reference Bool Bool Bool Bool Bool Bool choice_step part_step value_step item_step link_step reference_step

abbrev pub known_part : PartValue → Bool
known_part = fold-PartValue Bool Bool Bool Bool Bool Bool choice_step part_step value_step item_step link_step reference_step

abbrev pub known_choice : ChoiceValue → Bool
known_choice = fold-ChoiceValue Bool Bool Bool Bool Bool Bool choice_step part_step value_step item_step link_step reference_step

abbrev pub known_item : ItemValue → Bool
known_item = fold-ItemValue Bool Bool Bool Bool Bool Bool choice_step part_step value_step item_step link_step reference_step

abbrev pub known_link : LinkValue → Bool
known_link = fold-LinkValue Bool Bool Bool Bool Bool Bool choice_step part_step value_step item_step link_step reference_step

unfoldable pub known_option : Option Value → Bool
known_option None = true
known_option (Some v) = known_value v

unfoldable pub known_range : RangeValue → Bool
known_range range.Unknown = false
known_range (range.Bounds left direction right) = known_value left && known_value right
known_range (range.Of r) = known_reference r
