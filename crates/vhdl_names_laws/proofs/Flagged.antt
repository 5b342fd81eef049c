-- What follows an identifier adds its flag to those of the name.
use Rattle.std.proofs.Common.{◌≡◌, ℕ, Bool, true, false, ◌&&◌, if◌then◌else◌, Option, Some, None, List, [], ◌∷◌, ◌++◌, map, refl, ap, sym, ◌∙◌}
use Rattle.vhdl_names_laws.specs.Flags.{FlagsAre, flags, tested_static}
use Rattle.vhdl_names_laws.specs.Meanings.{part_is_static}
use Rattle.vhdl_names_laws.proofs.NamesTell.{Begins, IsValueOf, Means, PartTells, PartsTell}
use Rattle.vhdl_names_laws.specs.Tells.{Tells}
use Rattle.vhdl_names_laws.proofs.Faults.{Fine, asked_static}
use Rattle.vhdl_names_laws.proofs.Free.{both_empty, no_break}
use Rattle.vhdl_names_laws.proofs.Naming.{begun_begins}
use Rattle.vhdl_names_laws.proofs.Parts.{BothFine, bounds_same, extended_begins, index_flag, slice_static, took_one, took_two}
use Rattle.vhdl_names_meaning.specs.Names as meaning
use Rattle.vhdl_names_meaning.specs.Settling.{settled}
use Rattle.vhdl_names_meaning.specs.declared.candidates.Candidate.{Candidate, out-Candidate}
use Rattle.vhdl_names_meaning.specs.declared.candidates.Denoted.{Denoted}
use Rattle.vhdl_names_meaning.specs.declared.candidates.PartCandidate.{PartCandidate}
use Rattle.vhdl_tree.specs.declared.expressions.Direction.{Direction}
use Rattle.vhdl_units.specs.Types.{element, is_array, is_enumeration}
use Rattle.vhdl_units.specs.declared.base_type.BaseType.{BaseType}
use Rattle.vhdl_units.specs.declared.entry.Entry.{Entry}
use Rattle.vhdl_units.specs.declared.entry.Function.{Function}
use Rattle.vhdl_names_typing.specs.Attributes.{attribute_of, has_bounds, is_array_type, is_signal}
use Rattle.vhdl_names_typing.specs.Faults.{asks, break_if, typing_of}
use Rattle.vhdl_names_typing.specs.Names as typing
use Rattle.vhdl_names_typing.specs.declared.told.Attribute.{Attribute}
use Rattle.vhdl_units.specs.declared.values.ObjectAttribute.{ObjectAttribute}
use Rattle.vhdl_units.specs.declared.values.ObjectAttribute.TheVariants as object_attribute
use Rattle.vhdl_names_typing.specs.declared.told.Denotes.{Denotes}
use Rattle.vhdl_names_typing.specs.declared.told.NameTold.{NameTold}
use Rattle.vhdl_names_typing.specs.declared.told.ObjectName.{ObjectName}
use Rattle.vhdl_names_typing.specs.declared.told.PartTold.{PartTold}
use Rattle.vhdl_names_typing.specs.declared.told.Told.{Told}
use Rattle.vhdl_names_typing.specs.declared.told.TypeAttribute.{TypeAttribute}
use Rattle.vhdl_units.specs.declared.values.PartValue.{PartValue}
use Rattle.vhdl_units.specs.declared.base_type.BaseType.TheVariants as base
use Rattle.vhdl_names_typing.specs.declared.told.Attribute.TheVariants as attribute
use Rattle.vhdl_names_typing.specs.declared.told.Denotes.TheVariants as denotes
use Rattle.vhdl_units.specs.declared.entry.Entry.TheVariants as entry
use Rattle.vhdl_units.specs.declared.entry.Function.TheVariants as function
use Rattle.vhdl_names_meaning.specs.declared.candidates.PartCandidate.TheVariants as part_candidate
use Rattle.vhdl_names_typing.specs.declared.told.PartTold.TheVariants as part_told
use Rattle.vhdl_units.specs.declared.fault.Rule.TheVariants as rule
use Rattle.vhdl_names_typing.specs.declared.told.TypeAttribute.TheVariants as type_attribute
use Rattle.vhdl_units.specs.declared.values.PartValue.TheVariants as part

-- a name whose flags so far are these
abbrev Flagged : List Bool → NameTold → Denoted → Type 0
Flagged fs n d = n.names ≡ [] → n.typing ≡ [] → n.is_misfit ≡ false → FlagsAre n.denotes fs d

-- ---- what is no object has no flags

wrong_flagged : (fs : List Bool) (n : NameTold) (d : Denoted) → Flagged fs (typing.wrong_kind n) d
unfolding typing.wrong_kind FlagsAre
wrong_flagged fs n d = λ names typed fits. tt

misfit_flagged : (x : Denotes) (fs : List Bool) (n : NameTold) (d : Denoted) → Flagged fs (typing.misfits x n) d
unfolding typing.misfits
misfit_flagged x fs n d = λ names typed fits. absurd cc

no_such_flagged : (place : ℕ) (fs : List Bool) (n : NameTold) (d : Denoted) → Flagged fs (typing.has_no_such place n) d
unfolding typing.has_no_such FlagsAre
no_such_flagged place fs n d = λ names typed fits. tt

value_flagged : (types : List BaseType) (fs : List Bool) (n : NameTold) (d : Denoted) → Flagged fs (typing.becomes_value types n) d
unfolding typing.becomes_value FlagsAre
value_flagged types fs n d = λ names typed fits. tt

bound_flagged : (fs : List Bool) (n : NameTold) (d : Denoted) → Flagged fs (typing.bound_of n) d
unfolding typing.bound_of FlagsAre
bound_flagged fs n d = λ names typed fits. tt

range_flagged : (fs : List Bool) (n : NameTold) (d : Denoted) → Flagged fs (typing.range_of n) d
unfolding typing.range_of FlagsAre
range_flagged fs n d = λ names typed fits. tt

or_no_such : (b : Bool) (good : NameTold) (place : ℕ) (fs : List Bool) (n : NameTold) (d : Denoted) → Flagged fs good d → Flagged fs (if b then good else typing.has_no_such place n) d
or_no_such true good place fs n d h = h
or_no_such false good place fs n d h = no_such_flagged place fs n d

-- ---- what a name has taken

-- where no rule is broken so far, this holds, and the name denotes what it denoted, with these flags
abbrev Kept : Denotes → NameTold → Bool → Type 0 → List Bool → Denoted → Type 0
Kept x n static A fs d = n.names ≡ [] → n.typing ≡ [] → n.is_misfit ≡ false → (A × Means x n.types static d) × FlagsAre x fs d

kept_one : (fs : List Bool) (n : NameTold) (told : Told) (d : Denoted) → Begins n d → Flagged fs n d → Kept n.denotes (typing.takes n told) n.is_static (Fine told) fs d
unfolding typing.takes
kept_one fs n told d h k = λ names typed fits.
    let ns = both_empty n.names told.names names in
    let ts = both_empty n.typing (typing_of told) typed in
    (took_one n told d h names typed fits, k ns.0 ts.0 fits)

kept_two : (fs : List Bool) (n : NameTold) (left right : Told) (d : Denoted) → Begins n d → Flagged fs n d → Kept n.denotes (typing.takes (typing.takes n left) right) n.is_static (BothFine left right) fs d
unfolding typing.takes
kept_two fs n left right d h k = λ names typed fits.
    let ns = both_empty (n.names ++ left.names) right.names names in
    let ts = both_empty (n.typing ++ typing_of left) (typing_of right) typed in
    let ms = both_empty n.names left.names ns.0 in
    let us = both_empty n.typing (typing_of left) ts.0 in
    (took_two n left right d h names typed fits, k ms.0 us.0 fits)

flags_more : (parts : List PartValue) (p : PartValue) → map part_is_static (parts ++ p ∷ []) ≡ map part_is_static parts ++ part_is_static p ∷ []
flags_more [] p = refl
flags_more (q ∷ parts) p = ap (λ rest. part_is_static q ∷ rest) (flags_more parts p)

-- ---- ( expr )

element_flags : (o : ObjectName) (e : BaseType) (s : Bool) (c : Candidate) (d : Denoted) → Some e ≡ typing.element_of o.base → IsValueOf o s d → flags (meaning.indexed d c) ≡ flags d ++ (out-Candidate c).is_static ∷ []
unfolding flags meaning.indexed meaning.element_denoted typing.element_of
element_flags o e s c d same v =
    let h = v.object in
    let is : Some e ≡ element h.base = rw h.typed at same in
    let p = part.Index (settled c base.Integer) (out-Candidate c).is_static in
    ap (λ x. flags (meaning.indexed x c)) h.is
    ∙ ap (λ u. flags (meaning.element_denoted o.object h.parts u h.is_static c)) (sym is)
    ∙ flags_more h.parts p
    ∙ ap (λ b. map part_is_static h.parts ++ b ∷ []) (index_flag (settled c base.Integer) (out-Candidate c).is_static)
    ∙ ap (λ x. flags x ++ (out-Candidate c).is_static ∷ []) (sym h.is)

flag_added : (fs gs : List Bool) (a b : Bool) → fs ≡ gs → a ≡ b → (fs ++ a ∷ []) ≡ (gs ++ b ∷ [])
flag_added fs gs a b h k = rw (h, k) refl

element_flagged : (o : ObjectName) (e : Option BaseType) (fs : List Bool) (told : Told) (n : NameTold) (s : Bool) (c : Candidate) (d : Denoted) → e ≡ typing.element_of o.base → Tells told c
    → Kept (denotes.Object o) n s (Fine told) fs d
    → Flagged (fs ++ told.is_static ∷ []) (typing.element_named o e told n) (meaning.indexed d c)
unfolding typing.element_named typing.with_typing typing.with_denoted FlagsAre
element_flagged o (Some e) fs told n s c d same tells kept = λ names typed fits.
    let ts = both_empty n.typing (asks base.Integer told) typed in
    let k = kept names ts.0 fits in
    element_flags o e s c d same k.0.1 ∙ flag_added (flags d) fs (out-Candidate c).is_static told.is_static k.1 (asked_static base.Integer told c tells k.0.0 ts.1)
element_flagged o None fs told n s c d same tells kept = misfit_flagged (denotes.Object (typing.part_of o None told.is_static)) (fs ++ told.is_static ∷ []) n (meaning.indexed d c)

edge_flagged : (fs : List Bool) (told : Told) (n : NameTold) (d : Denoted) → Flagged fs (typing.edge_of told n) d
unfolding typing.edge_of
edge_flagged fs told n d = value_flagged (base.Boolean ∷ []) fs _ d

called_flagged : (f : Function) (fs : List Bool) (told : Told) (n : NameTold) (d : Denoted) → Flagged fs (typing.called f told n) d
unfolding typing.called
called_flagged function.RisingEdge fs told n d = edge_flagged fs told n d
called_flagged function.FallingEdge fs told n d = edge_flagged fs told n d
called_flagged function.ToX01 fs told n d = value_flagged (base.StdUlogic ∷ []) fs _ d
called_flagged function.Now fs told n d = wrong_flagged fs n d

of_type_flagged : (a : TypeAttribute) (t : BaseType) (fs : List Bool) (told : Told) (n : NameTold) (d : Denoted) → Flagged fs (typing.of_type a t told n) d
unfolding typing.of_type
of_type_flagged type_attribute.Pos t fs told n d = value_flagged (base.Integer ∷ []) fs _ d
of_type_flagged type_attribute.Val t fs told n d = value_flagged (t ∷ []) fs _ d

indexed_as_flagged : (x : Denotes) (fs : List Bool) (told : Told) (n : NameTold) (s : Bool) (c : Candidate) (d : Denoted) → Tells told c → Kept x n s (Fine told) fs d
    → Flagged (fs ++ told.is_static ∷ []) (typing.indexed_as x told n) (meaning.indexed d c)
unfolding typing.indexed_as
indexed_as_flagged denotes.Unknown fs told n s c d tells kept = λ names typed fits. absurd (kept names typed fits).0.1
indexed_as_flagged (denotes.Object o) fs told n s c d tells kept = element_flagged o (typing.element_of o.base) fs told n s c d refl tells kept
indexed_as_flagged denotes.Value fs told n s c d tells kept = misfit_flagged denotes.Value _ n (meaning.indexed d c)
indexed_as_flagged (denotes.Function f) fs told n s c d tells kept = called_flagged f _ told n (meaning.indexed d c)
indexed_as_flagged (denotes.TypeAttribute a t) fs told n s c d tells kept = of_type_flagged a t _ told n (meaning.indexed d c)
indexed_as_flagged _ fs told n s c d tells kept = wrong_flagged _ n (meaning.indexed d c)

indexed_flagged : (fs : List Bool) (n : NameTold) (told : Told) (c : Candidate) (d : Denoted) → Tells told c → Begins n d → Flagged fs n d → Flagged (fs ++ told.is_static ∷ []) (typing.indexed n told) (meaning.indexed d c)
unfolding typing.indexed
indexed_flagged fs n told c d tells h k = indexed_as_flagged n.denotes fs told (typing.takes n told) n.is_static c d tells (kept_one fs n told d h k)

-- ---- ( simple dir simple )

slice_flags : (o : ObjectName) (s are_static : Bool) (p : PartValue) (d : Denoted) → true ≡ is_array_type o.base → IsValueOf o s d → flags (meaning.sliced d are_static p) ≡ flags d ++ part_is_static p ∷ []
unfolding flags meaning.sliced meaning.slice_denoted is_array_type
slice_flags o s are_static p d array v =
    let h = v.object in
    let is : true ≡ is_array h.base = rw h.typed at array in
    ap (λ x. flags (meaning.sliced x are_static p)) h.is
    ∙ ap (λ b. flags (meaning.slice_denoted b o.object h.parts h.base (h.is_static && are_static) p)) (sym is)
    ∙ flags_more h.parts p
    ∙ ap (λ x. flags x ++ part_is_static p ∷ []) (sym h.is)

slice_flagged : (o : ObjectName) (b : Bool) (fs : List Bool) (low high : Told) (n : NameTold) (s : Bool) (left : Candidate) (direction : Direction) (right : Candidate) (d : Denoted) → b ≡ is_array_type o.base
    → Tells low left → Tells high right → Kept (denotes.Object o) n s (BothFine low high) fs d
    → Flagged (fs ++ (low.is_static && high.is_static) ∷ []) (typing.slice_named o b low high n) (meaning.sliced d (meaning.both_static left right) (meaning.slice_part left direction right))
unfolding typing.slice_named typing.with_typing typing.with_denoted FlagsAre
slice_flagged o true fs low high n s left direction right d array from to kept = λ names typed fits.
    let ts = both_empty n.typing (asks base.Integer low ++ asks base.Integer high) typed in
    let us = both_empty (asks base.Integer low) (asks base.Integer high) ts.1 in
    let k = kept names ts.0 fits in
    let p = meaning.slice_part left direction right in
    slice_flags o s (meaning.both_static left right) p d array k.0.1
    ∙ flag_added (flags d) fs (part_is_static p) (low.is_static && high.is_static) k.1 (slice_static left direction right
    ∙ bounds_same low high left right (asked_static base.Integer low left from k.0.0.0 us.0) (asked_static base.Integer high right to k.0.0.1 us.1))
slice_flagged o false fs low high n s left direction right d array from to kept =
    misfit_flagged (denotes.Object (typing.part_of o None (low.is_static && high.is_static))) _ n (meaning.sliced d (meaning.both_static left right) (meaning.slice_part left direction right))

sliced_as_flagged : (x : Denotes) (fs : List Bool) (low high : Told) (n : NameTold) (s : Bool) (left : Candidate) (direction : Direction) (right : Candidate) (d : Denoted)
    → Tells low left → Tells high right → Kept x n s (BothFine low high) fs d
    → Flagged (fs ++ (low.is_static && high.is_static) ∷ []) (typing.sliced_as x low high n) (meaning.sliced d (meaning.both_static left right) (meaning.slice_part left direction right))
unfolding typing.sliced_as
sliced_as_flagged denotes.Unknown fs low high n s left direction right d from to kept = λ names typed fits. absurd (kept names typed fits).0.1
sliced_as_flagged (denotes.Object o) fs low high n s left direction right d from to kept = slice_flagged o (is_array_type o.base) fs low high n s left direction right d refl from to kept
sliced_as_flagged denotes.Value fs low high n s left direction right d from to kept = misfit_flagged denotes.Value _ n (meaning.sliced d (meaning.both_static left right) (meaning.slice_part left direction right))
sliced_as_flagged denotes.Now fs low high n s left direction right d from to kept = misfit_flagged denotes.Value _ n (meaning.sliced d (meaning.both_static left right) (meaning.slice_part left direction right))
sliced_as_flagged _ fs low high n s left direction right d from to kept = wrong_flagged _ n (meaning.sliced d (meaning.both_static left right) (meaning.slice_part left direction right))

sliced_flagged : (fs : List Bool) (n : NameTold) (low high : Told) (left : Candidate) (direction : Direction) (right : Candidate) (d : Denoted) → Tells low left → Tells high right → Begins n d → Flagged fs n d
    → Flagged (fs ++ (low.is_static && high.is_static) ∷ []) (typing.sliced n low high) (meaning.sliced d (meaning.both_static left right) (meaning.slice_part left direction right))
unfolding typing.sliced
sliced_flagged fs n low high left direction right d from to h k =
    sliced_as_flagged n.denotes fs low high (typing.takes (typing.takes n low) high) n.is_static left direction right d from to (kept_two fs n low high d h k)

-- ---- ' id and ' range

own_flagged : (a : ObjectAttribute) (o : ObjectName) (place : ℕ) (fs : List Bool) (n : NameTold) (d : Denoted) → Flagged fs (typing.object_attribute a o place n) d
unfolding typing.object_attribute typing.change_of typing.last_value_of
own_flagged object_attribute.Event o place fs n d = or_no_such (is_signal o) (typing.becomes_value (base.Boolean ∷ []) n) place fs n d (value_flagged (base.Boolean ∷ []) fs n d)
own_flagged object_attribute.Active o place fs n d = or_no_such (is_signal o) (typing.becomes_value (base.Boolean ∷ []) n) place fs n d (value_flagged (base.Boolean ∷ []) fs n d)
own_flagged object_attribute.LastValue o place fs n d = or_no_such _ (typing.becomes_value (typing.option_types o.base) n) place fs n d (value_flagged (typing.option_types o.base) fs n d)
own_flagged object_attribute.Left o place fs n d = or_no_such (has_bounds o) (typing.bound_of n) place fs n d (bound_flagged fs n d)
own_flagged object_attribute.Right o place fs n d = or_no_such (has_bounds o) (typing.bound_of n) place fs n d (bound_flagged fs n d)
own_flagged object_attribute.High o place fs n d = or_no_such (has_bounds o) (typing.bound_of n) place fs n d (bound_flagged fs n d)
own_flagged object_attribute.Low o place fs n d = or_no_such (has_bounds o) (typing.bound_of n) place fs n d (bound_flagged fs n d)
own_flagged object_attribute.Length o place fs n d = or_no_such (has_bounds o) (typing.bound_of n) place fs n d (bound_flagged fs n d)

object_flagged : (a : Attribute) (o : ObjectName) (place : ℕ) (fs : List Bool) (n : NameTold) (d : Denoted) → Flagged fs (typing.object_attributed a o place n) d
unfolding typing.object_attributed
object_flagged (attribute.Object a) o place fs n d = own_flagged a o place fs n d
object_flagged attribute.Range o place fs n d = or_no_such (has_bounds o) (typing.range_of n) place fs n d (range_flagged fs n d)
object_flagged (attribute.Type a) o place fs n d = no_such_flagged place fs n d

argument_flagged : (a : TypeAttribute) (t : BaseType) (place : ℕ) (fs : List Bool) (n : NameTold) (d : Denoted) → Flagged fs (typing.with_argument a t place n) d
unfolding typing.with_argument typing.with_denoted FlagsAre
argument_flagged a t place fs n d = or_no_such (is_enumeration t) (typing.with_denoted (denotes.TypeAttribute a t) n) place fs n d (λ names typed fits. tt)

type_flagged : (a : Attribute) (t : BaseType) (place : ℕ) (fs : List Bool) (n : NameTold) (d : Denoted) → Flagged fs (typing.type_attributed a t place n) d
unfolding typing.type_attributed
type_flagged (attribute.Type a) t place fs n d = argument_flagged a t place fs n d
type_flagged attribute.Range t place fs n d = no_such_flagged place fs n d
type_flagged (attribute.Object a) t place fs n d = no_such_flagged place fs n d

attributed_as_flagged : (x : Denotes) (a : Option Attribute) (place : ℕ) (fs : List Bool) (n : NameTold) (d e : Denoted) → (n.names ≡ [] → n.typing ≡ [] → n.is_misfit ≡ false → Means x n.types n.is_static d)
    → Flagged fs (typing.attributed_as x a place n) e
unfolding typing.attributed_as
attributed_as_flagged denotes.Unknown a place fs n d e was = λ names typed fits. absurd (was names typed fits)
attributed_as_flagged (denotes.Object o) (Some a) place fs n d e was = object_flagged a o place fs n e
attributed_as_flagged (denotes.Subtype mark) (Some a) place fs n d e was = type_flagged a mark.base place fs n e
attributed_as_flagged _ a place fs n d e was = no_such_flagged place fs n e

-- ---- all that follows

extended_flagged : (text : List ℕ) (fs : List Bool) (n : NameTold) (d : Denoted) (told : PartTold) (c : PartCandidate) → PartTells told c → Begins n d → Flagged fs n d
    → Flagged (fs ++ tested_static told ∷ []) (typing.extended text n told) (meaning.extended text d c)
unfolding typing.extended meaning.extended tested_static typing.attributed
extended_flagged text fs n d (part_told.Index told) (part_candidate.Index c) tells h k = indexed_flagged fs n told c d tells h k
extended_flagged text fs n d (part_told.Slice low high) (part_candidate.Slice left direction right) tells h k = sliced_flagged fs n low high left direction right d tells.0 tells.1 h k
extended_flagged text fs n d (part_told.Attribute word) (part_candidate.Attribute other) same h k = attributed_as_flagged n.denotes (attribute_of text word) word.start _ n d _ h
extended_flagged text fs n d _ _ tells h k = absurd tells

one_by_one : (fs gs : List Bool) (b : Bool) → ((fs ++ b ∷ []) ++ gs) ≡ (fs ++ b ∷ gs)
one_by_one [] gs b = refl
one_by_one (f ∷ fs) gs b = ap (λ rest. f ∷ rest) (one_by_one fs gs b)

nothing_more : (fs : List Bool) → (fs ++ []) ≡ fs
nothing_more [] = refl
nothing_more (f ∷ fs) = ap (λ rest. f ∷ rest) (nothing_more fs)

parts_flagged : (text : List ℕ) (fs : List Bool) (n : NameTold) (d : Denoted) (tolds : List PartTold) (parts : List PartCandidate) → PartsTell tolds parts → Begins n d → Flagged fs n d
    → Flagged (fs ++ map tested_static tolds) (typing.extended_by text n tolds) (meaning.extended_by text d parts)
unfolding typing.extended_by meaning.extended_by
parts_flagged text fs n d [] [] tell h k = rw (nothing_more fs) k
parts_flagged text fs n d (told ∷ tolds) (c ∷ parts) tell h k = rw (sym (one_by_one fs (map tested_static tolds) (tested_static told)))
    (parts_flagged text (fs ++ tested_static told ∷ []) (typing.extended text n told) (meaning.extended text d c) tolds parts tell.1 (extended_begins text n d told c tell.0 h) (extended_flagged text fs n d told c tell.0 h k))
parts_flagged text fs n d _ _ tell h k = absurd tell

-- ---- the whole name

entry_flagged : (e : Entry) (entries : List Entry) → FlagsAre (typing.denoted e) [] (meaning.denoted_by e entries)
unfolding typing.denoted meaning.denoted_by FlagsAre flags
entry_flagged (entry.Object o) entries = refl
entry_flagged (entry.Function function.Now) entries = tt
entry_flagged (entry.Function function.RisingEdge) entries = tt
entry_flagged (entry.Function function.FallingEdge) entries = tt
entry_flagged (entry.Function function.ToX01) entries = tt
entry_flagged (entry.Subtype mark) entries = tt
entry_flagged (entry.Literal t position) entries = tt
entry_flagged (entry.Unit u) entries = tt
entry_flagged (entry.Label n) entries = tt

begun_flagged : (place : ℕ) (entries : List Entry) → Flagged [] (typing.begun place entries) (meaning.begun entries)
unfolding typing.begun typing.undeclared typing.declared meaning.begun
begun_flagged place [] = λ names typed fits. absurd cc
begun_flagged place (e ∷ entries) = λ names typed fits. entry_flagged e (e ∷ entries)

pub name_flagged : (text : List ℕ) (place : ℕ) (entries : List Entry) (tolds : List PartTold) (parts : List PartCandidate) → PartsTell tolds parts
    → (typing.name_told text place entries tolds).names ≡ [] → (typing.name_told text place entries tolds).typing ≡ []
    → FlagsAre (typing.name_told text place entries tolds).denotes (map tested_static tolds) (meaning.extended_by text (meaning.begun entries) parts)
unfolding typing.name_told typing.finished
name_flagged text place entries tolds parts tell names typed =
    let n = typing.extended_by text (typing.begun place entries) tolds in
    let ts = both_empty n.typing (break_if n.is_misfit n.names n.place rule.Type) typed in
    parts_flagged text [] (typing.begun place entries) (meaning.begun entries) tolds parts tell (begun_begins place entries) (begun_flagged place entries) names ts.0
    (no_break n.is_misfit n.names n.place rule.Type names ts.1)
