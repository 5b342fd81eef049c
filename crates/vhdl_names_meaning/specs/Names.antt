-- What names denote (IEEE Std 1076-2008, clauses 8 and 12): an identifier, and part by part what follows it.
use Rattle.std.specs.Prelude.{Bool, List, None, Option, Some, [], false, true, ℕ, ◌&&◌, ◌++◌, ◌∷◌}
use Rattle.vhdl_names_meaning.specs.Attributes.{attribute_type, is_bound}
use Rattle.vhdl_names_meaning.specs.Settling.{settled}
use Rattle.vhdl_names_meaning.specs.declared.candidates.Candidate.{Candidate, out-Candidate, roll-Candidate}
use Rattle.vhdl_names_meaning.specs.declared.candidates.Denoted.{Denoted}
use Rattle.vhdl_names_meaning.specs.declared.candidates.Open.{Open}
use Rattle.vhdl_names_meaning.specs.declared.candidates.PartCandidate.{PartCandidate}
use Rattle.vhdl_tree.specs.declared.expressions.Direction.{Direction}
use Rattle.vhdl_units.specs.Types.{element, is_array}
use Rattle.vhdl_units.specs.declared.base_type.BaseType.{BaseType}
use Rattle.vhdl_units.specs.declared.entry.Entry.{Entry}
use Rattle.vhdl_units.specs.declared.entry.Function.{Function}
use Rattle.vhdl_units.specs.declared.entry.Object.{Object}
use Rattle.vhdl_names_typing.specs.Attributes.{attribute_of, is_static_class}
use Rattle.vhdl_names_overloads.specs.Literals.{literal_types}
use Rattle.vhdl_names_typing.specs.declared.told.Attribute.{Attribute}
use Rattle.vhdl_names_typing.specs.declared.told.TypeAttribute.{TypeAttribute}
use Rattle.vhdl_units.specs.declared.values.PartValue.{PartValue}
use Rattle.vhdl_units.specs.declared.values.Reference.{Reference, roll-Reference}
use Rattle.vhdl_units.specs.declared.values.Value.{Value}
use Rattle.vhdl_units.specs.declared.base_type.BaseType.TheVariants as base
use Rattle.vhdl_names_meaning.specs.declared.candidates.Denoted.TheVariants as denoted
use Rattle.vhdl_units.specs.declared.entry.Entry.TheVariants as entry
use Rattle.vhdl_units.specs.declared.entry.Function.TheVariants as function
use Rattle.vhdl_names_meaning.specs.declared.candidates.Open.TheVariants as pending
use Rattle.vhdl_units.specs.declared.values.PartValue.TheVariants as part
use Rattle.vhdl_names_meaning.specs.declared.candidates.PartCandidate.TheVariants as part_candidate
use Rattle.vhdl_units.specs.declared.values.Value.TheVariants as value
use Rattle.vhdl_names_typing.specs.declared.told.Attribute.TheVariants as attribute
use Rattle.vhdl_names_typing.specs.declared.told.TypeAttribute.TheVariants as type_attribute

-- ---- the identifier

unfoldable pub denoted_by : Entry → List Entry → Denoted
denoted_by (entry.Subtype mark) entries = denoted.Subtype mark.base
denoted_by (entry.Object o) entries = denoted.Object o [] o.base true
denoted_by (entry.Literal t position) entries = denoted.Literals entries
denoted_by (entry.Function function.Now) entries = denoted.Value value.Now base.Time false
denoted_by (entry.Function f) entries = denoted.Function f
denoted_by (entry.Unit u) entries = denoted.Unknown
denoted_by (entry.Label n) entries = denoted.Unknown

-- what an identifier denotes by its entries: one, or several literals
unfoldable pub begun : List Entry → Denoted
begun [] = denoted.Unknown
begun (e ∷ entries) = denoted_by e (e ∷ entries)

-- ---- what follows

unfoldable pub reference : Object → List PartValue → BaseType → Reference
reference o parts t = roll-Reference (record { object = o; parts = parts; base = t })

-- an element of an array
unfoldable pub element_denoted : Object → List PartValue → Option BaseType → Bool → Candidate → Denoted
element_denoted o parts (Some e) is_static c =
    denoted.Object o (parts ++ part.Index (settled c base.Integer) (out-Candidate c).is_static ∷ []) e (is_static && (out-Candidate c).is_static)
element_denoted o parts None is_static c = denoted.Unknown

-- what a function gives of its argument, which is of STD_ULOGIC
unfoldable pub called : Function → Value → Denoted
called function.RisingEdge v = denoted.Value (value.Call function.RisingEdge v) base.Boolean false
called function.FallingEdge v = denoted.Value (value.Call function.FallingEdge v) base.Boolean false
called function.ToX01 v = denoted.Value (value.Call function.ToX01 v) base.StdUlogic false
called function.Now v = denoted.Unknown

unfoldable pub of_type : TypeAttribute → BaseType → Candidate → Denoted
of_type type_attribute.Pos t c = denoted.Value (value.Position t (settled c t)) base.Integer false
of_type type_attribute.Val t c = denoted.Value (value.At t (settled c base.Integer)) t false

-- ( expr )
unfoldable pub indexed : Denoted → Candidate → Denoted
indexed (denoted.Object o parts t is_static) c = element_denoted o parts (element t) is_static c
indexed (denoted.Function f) c = called f (settled c base.StdUlogic)
indexed (denoted.TypeAttribute a t) c = of_type a t c
indexed _ c = denoted.Unknown

unfoldable pub both_static : Candidate → Candidate → Bool
both_static left right = (out-Candidate left).is_static && (out-Candidate right).is_static

unfoldable pub slice_part : Candidate → Direction → Candidate → PartValue
slice_part left direction right = part.Slice (settled left base.Integer) direction (settled right base.Integer) (both_static left right)

-- ( simple dir simple )
unfoldable pub slice_denoted : Bool → Object → List PartValue → BaseType → Bool → PartValue → Denoted
slice_denoted true o parts t is_static p = denoted.Object o (parts ++ p ∷ []) t is_static
slice_denoted false o parts t is_static p = denoted.Unknown

unfoldable pub sliced : Denoted → Bool → PartValue → Denoted
sliced (denoted.Object o parts t is_static) are_static p = slice_denoted (is_array t) o parts t (is_static && are_static) p
sliced _ are_static p = denoted.Unknown

-- ' id and ' range
unfoldable pub object_attributed : Attribute → Object → List PartValue → BaseType → Denoted
object_attributed (attribute.Object a) o parts t = denoted.Value (value.Attribute (reference o parts t) a) (attribute_type a t) (is_bound a)
object_attributed attribute.Range o parts t = denoted.Range (reference o parts t)
object_attributed (attribute.Type a) o parts t = denoted.Unknown

unfoldable pub type_attributed : Attribute → BaseType → Denoted
type_attributed (attribute.Type a) t = denoted.TypeAttribute a t
type_attributed _ t = denoted.Unknown

unfoldable pub attributed : Denoted → Option Attribute → Denoted
attributed (denoted.Object o parts t is_static) (Some a) = object_attributed a o parts t
attributed (denoted.Subtype t) (Some a) = type_attributed a t
attributed _ a = denoted.Unknown

unfoldable pub extended : List ℕ → Denoted → PartCandidate → Denoted
extended text d (part_candidate.Index c) = indexed d c
extended text d (part_candidate.Slice left direction right) = sliced d (both_static left right) (slice_part left direction right)
extended text d (part_candidate.Attribute word) = attributed d (attribute_of text word)

unfoldable pub extended_by : List ℕ → Denoted → List PartCandidate → Denoted
extended_by text d [] = d
extended_by text d (p ∷ parts) = extended_by text (extended text d p) parts

-- ---- a name as an expression

unfoldable pub candidate_with : List BaseType → Bool → Open → Candidate
candidate_with types is_static o = roll-Candidate (record { types = types; is_static = is_static; form = o })

unfoldable pub only_value : Value → BaseType → Bool → Candidate
only_value v t is_static = candidate_with (t ∷ []) is_static (pending.Value v)

-- what a name means in an expression
unfoldable pub candidate_of : Denoted → Candidate
candidate_of (denoted.Literals entries) = candidate_with (literal_types entries) true (pending.Literals entries)
candidate_of (denoted.Object o parts t is_static) = only_value (value.Object (reference o parts t)) t (is_static_class o.class && is_static)
candidate_of (denoted.Value v t is_static) = only_value v t is_static
candidate_of _ = candidate_with [] false (pending.Value value.Unknown)

-- what a name means as a target, or where a signal is named
unfoldable pub target_of : Denoted → Value
target_of (denoted.Object o parts t is_static) = value.Object (reference o parts t)
target_of _ = value.Unknown
