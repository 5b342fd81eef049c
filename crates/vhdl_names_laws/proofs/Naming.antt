-- Whole names: as values, as targets and as ranges.
use Rattle.std.proofs.Common.{◌≡◌, ℕ, Bool, true, false, ◌&&◌, List, [], ◌∷◌, inl, inr, refl, ap, sym, ◌∙◌}
use Rattle.std.proofs.Math.Bool.{and-true}
use Rattle.vhdl_names_laws.specs.Known.{known_range, known_value}
use Rattle.vhdl_names_laws.specs.Meanings.{IsObject, NameTells, ObjectNamed, bounds_are_static}
use Rattle.vhdl_names_laws.proofs.NamesTell.{Begins, IsLiterals, IsOne, IsRange, IsValueOf, Means, NameMeans, PartsTell}
use Rattle.vhdl_names_laws.specs.Tells.{Agrees, Tells}
use Rattle.vhdl_names_laws.specs.Typed.{type_of}
use Rattle.vhdl_names_laws.proofs.Free.{both_empty, no_break}
use Rattle.vhdl_names_laws.proofs.Knows.{known_now, known_object, known_parts}
use Rattle.vhdl_names_laws.proofs.Literals.{literals_agree}
use Rattle.vhdl_names_laws.proofs.OfType.{type_now, type_object, type_parts}
use Rattle.vhdl_names_laws.proofs.Parts.{parts_begin}
use Rattle.vhdl_names_laws.proofs.Single.{only_agrees}
use Rattle.vhdl_names_meaning.specs.Names as meaning
use Rattle.vhdl_names_meaning.specs.Names.{candidate_of, reference, target_of}
use Rattle.vhdl_names_meaning.specs.Ranges.{range_of}
use Rattle.vhdl_names_meaning.specs.declared.candidates.Candidate.{Candidate}
use Rattle.vhdl_names_meaning.specs.declared.candidates.Denoted.{Denoted}
use Rattle.vhdl_names_meaning.specs.declared.candidates.PartCandidate.{PartCandidate}
use Rattle.vhdl_units.specs.Faults.{at}
use Rattle.vhdl_units.specs.declared.base_type.BaseType.{BaseType}
use Rattle.vhdl_units.specs.declared.entry.Entry.{Entry}
use Rattle.vhdl_units.specs.declared.entry.Object.{Object}
use Rattle.vhdl_names_typing.specs.Attributes.{is_static_class}
use Rattle.vhdl_names_typing.specs.Faults.{break_if}
use Rattle.vhdl_names_typing.specs.Names as telling
use Rattle.vhdl_names_overloads.specs.Literals.{literal_types}
use Rattle.vhdl_names_typing.specs.Names.{finished, name_told, value_of}
use Rattle.vhdl_names_typing.specs.Ranges.{range_as, range_name}
use Rattle.vhdl_names_typing.specs.declared.told.Denotes.{Denotes}
use Rattle.vhdl_names_typing.specs.declared.told.NameTold.{NameTold}
use Rattle.vhdl_names_typing.specs.declared.told.ObjectName.{ObjectName}
use Rattle.vhdl_names_typing.specs.declared.told.PartTold.{PartTold}
use Rattle.vhdl_names_typing.specs.declared.told.Told.{Told}
use Rattle.vhdl_units.specs.declared.base_type.BaseType.TheVariants as base
use Rattle.vhdl_names_meaning.specs.declared.candidates.Denoted.TheVariants as denoted
use Rattle.vhdl_names_typing.specs.declared.told.Denotes.TheVariants as denotes
use Rattle.vhdl_units.specs.declared.entry.Entry.TheVariants as entry
use Rattle.vhdl_units.specs.declared.entry.Function.TheVariants as function
use Rattle.vhdl_units.specs.declared.fault.Rule.TheVariants as rule
use Rattle.vhdl_units.specs.declared.values.Value.TheVariants as value

-- ---- the identifier

object_is : (o : Object) → IsObject (telling.object_name o) (denoted.Object o [] o.base true)
unfolding telling.object_name bounds_are_static
object_is o = record {
  parts = [];
  base = o.base;
  is_static = true;
  typed = refl;
  is = refl;
  known = refl;
  leads = refl;
  static = refl;
  parts_static = refl;
  bounds_static = refl;
}

value_is : (o : Object) → IsValueOf (telling.object_name o) (is_static_class o.class) (denoted.Object o [] o.base true)
unfolding telling.object_name
value_is o = record { object = object_is o; told = sym (and-true (is_static_class o.class)) }

literals_are : (entries : List Entry) → IsLiterals (literal_types entries) true (denoted.Literals entries)
literals_are entries = record { entries = entries; is = refl; typed = refl; told = refl }

entry_means : (e : Entry) (entries : List Entry) → Means (telling.denoted e) (literal_types entries) (telling.is_static_entry e) (meaning.denoted_by e entries)
unfolding telling.denoted telling.is_static_entry meaning.denoted_by
entry_means (entry.Subtype mark) entries = refl
entry_means (entry.Object o) entries = value_is o
entry_means (entry.Literal t position) entries = inl (literals_are entries)
entry_means (entry.Function function.RisingEdge) entries = refl
entry_means (entry.Function function.FallingEdge) entries = refl
entry_means (entry.Function function.ToX01) entries = refl
entry_means (entry.Function function.Now) entries = (refl, refl)
entry_means (entry.Unit u) entries = tt
entry_means (entry.Label n) entries = tt

pub begun_begins : (place : ℕ) (entries : List Entry) → Begins (telling.begun place entries) (meaning.begun entries)
unfolding telling.begun telling.undeclared telling.declared meaning.begun
begun_begins place [] = λ names typing fits. absurd cc
begun_begins place (e ∷ entries) = λ names typing fits. entry_means e (e ∷ entries)

-- ---- the whole name

finished_means : (n : NameTold) (d : Denoted) → Begins n d → NameMeans (finished n) d
unfolding finished
finished_means n d h = λ names typing.
    let ts = both_empty n.typing (break_if n.is_misfit n.names n.place rule.Type) typing in
    h names ts.0 (no_break n.is_misfit n.names n.place rule.Type names ts.1)

pub name_means : (text : List ℕ) (place : ℕ) (entries : List Entry) (tolds : List PartTold) (parts : List PartCandidate) → PartsTell tolds parts
    → NameMeans (name_told text place entries tolds) (meaning.extended_by text (meaning.begun entries) parts)
unfolding name_told
name_means text place entries tolds parts tell = finished_means (telling.extended_by text (telling.begun place entries) tolds) (meaning.extended_by text (meaning.begun entries) parts)
    (parts_begin text (telling.begun place entries) (meaning.begun entries) tolds parts tell (begun_begins place entries))

-- ---- a name as a value

object_agrees : (told : Told) (o : ObjectName) (d : Denoted) → told.types ≡ telling.option_types o.base → IsValueOf o told.is_static d → Agrees told (candidate_of d)
unfolding telling.option_types candidate_of
object_agrees told o d types v =
    let h = v.object in
    let r = reference o.object h.parts h.base in
    let static : told.is_static ≡ (is_static_class o.object.class && h.is_static) = rw h.static v.told in
    rw h.is (only_agrees told (value.Object r) h.base (is_static_class o.object.class && h.is_static) (types ∙ ap telling.option_types h.typed) static
    (known_object r ∙ (known_parts o.object h.parts h.base ∙ h.known)) (type_object r ∙ type_parts o.object h.parts h.base h.leads))

literals_tell : (told : Told) (types : List BaseType) (d : Denoted) → told.types ≡ types → IsLiterals types told.is_static d → Agrees told (candidate_of d)
unfolding candidate_of
literals_tell told types d same h = rw h.is (literals_agree told h.entries (same ∙ h.typed) h.told)

one_tells : (told : Told) (types : List BaseType) (d : Denoted) → told.types ≡ types → IsOne types told.is_static d → Agrees told (candidate_of d)
unfolding candidate_of
one_tells told types d same h = rw h.is (only_agrees told h.value h.type h.is_static (same ∙ h.typed) h.told h.known h.has_type)

now_tells : (told : Told) (d : Denoted) → told.types ≡ base.Time ∷ [] → told.is_static ≡ false → d ≡ denoted.Value value.Now base.Time false → Agrees told (candidate_of d)
unfolding candidate_of
now_tells told d same static h = rw h (only_agrees told value.Now base.Time false same static known_now type_now)

no_value_tells : (n : NameTold) (c : Candidate) → Tells (telling.no_value n) c
unfolding telling.no_value
no_value_tells n c = λ names typing. let both = both_empty n.names (at n.place rule.WrongKind) names in absurd cc

value_as_tells : (x : Denotes) (n : NameTold) (d : Denoted) → (n.names ≡ [] → n.typing ≡ [] → Means x n.types n.is_static d) → Tells (telling.value_as x n) (candidate_of d)
unfolding telling.value_as telling.told_as
value_as_tells denotes.Unknown n d h = λ names typing. absurd (h names typing)
value_as_tells (denotes.Object o) n d h = λ names typing. object_agrees (telling.value_as (denotes.Object o) n) o d refl (h names typing)
value_as_tells denotes.Value n d h = λ names typing. elim (h names typing) as (λ m. Agrees (telling.value_as denotes.Value n) (candidate_of d)) [
  | inl literals ↦ literals_tell (telling.value_as denotes.Value n) n.types d refl literals
  | inr one ↦ one_tells (telling.value_as denotes.Value n) n.types d refl one
]
value_as_tells denotes.Now n d h = λ names typing. let m = h names typing in now_tells (telling.value_as denotes.Now n) d refl m.1 m.0
value_as_tells _ n d h = no_value_tells n (candidate_of d)

pub name_tells : (n : NameTold) (d : Denoted) → NameMeans n d → Tells (value_of n) (candidate_of d)
unfolding value_of
name_tells n d h = value_as_tells n.denotes n d h

-- ---- a name as a target, or where a signal is named

named_as : (x : Denotes) (types : List BaseType) (s : Bool) (d : Denoted) → Means x types s d → ObjectNamed x d
unfolding ObjectNamed
named_as (denotes.Object o) types s d h = h.object
named_as _ types s d h = tt

pub object_named : (n : NameTold) (d : Denoted) → NameMeans n d → NameTells n d
object_named n d h = λ names typing. named_as n.denotes n.types n.is_static d (h names typing)

pub target_known : (o : ObjectName) (d : Denoted) → IsObject o d → known_value (target_of d) ≡ true
unfolding target_of
target_known o d h = rw h.is (known_object (reference o.object h.parts h.base) ∙ (known_parts o.object h.parts h.base ∙ h.known))

pub target_typed : (o : ObjectName) (d : Denoted) → IsObject o d → type_of (target_of d) ≡ o.base
unfolding target_of
target_typed o d h = rw h.is (type_object (reference o.object h.parts h.base) ∙ type_parts o.object h.parts h.base h.leads ∙ sym h.typed)

-- ---- a name as a range

range_is : (d : Denoted) → IsRange d → known_range (range_of d) ≡ true
unfolding range_of known_range
range_is d h = rw h.is h.known

wrong_range : (n : NameTold) (d : Denoted) → (telling.wrong_kind n).names ≡ [] → known_range (range_of d) ≡ true
unfolding telling.wrong_kind
wrong_range n d names = let both = both_empty n.names (at n.place rule.WrongKind) names in absurd cc

range_as_known : (x : Denotes) (n : NameTold) (d : Denoted) → (n.names ≡ [] → n.typing ≡ [] → Means x n.types n.is_static d) → (range_as x n).names ≡ [] → (range_as x n).typing ≡ []
    → known_range (range_of d) ≡ true
unfolding range_as
range_as_known denotes.Range n d h names typing = range_is d (h names typing)
range_as_known denotes.Unknown n d h names typing = absurd (h names typing)
range_as_known _ n d h names typing = wrong_range n d names

pub range_known : (n : NameTold) (d : Denoted) → NameMeans n d → (range_name n).names ≡ [] → (range_name n).typing ≡ [] → known_range (range_of d) ≡ true
unfolding range_name
range_known n d h names typing = range_as_known n.denotes n d h names typing
