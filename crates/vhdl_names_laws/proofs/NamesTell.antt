-- What a name tells and what it denotes: where no rule is broken in it, the two agree (IEEE Std 1076-2008, clauses 8 and 12).
use Rattle.std.specs.Prelude.{Bool, List, [], false, true, ◌&&◌, ◌≡◌, ◌⊎◌, ◌∷◌}
use Rattle.vhdl_names_meaning.specs.declared.candidates.Denoted.{Denoted}
use Rattle.vhdl_names_meaning.specs.declared.candidates.PartCandidate.{PartCandidate}
use Rattle.vhdl_units.specs.declared.base_type.BaseType.{BaseType}
use Rattle.vhdl_units.specs.declared.entry.Entry.{Entry}
use Rattle.vhdl_names_typing.specs.Attributes.{is_static_class}
use Rattle.vhdl_names_overloads.specs.Literals.{literal_types}
use Rattle.vhdl_names_typing.specs.declared.told.Denotes.{Denotes}
use Rattle.vhdl_names_typing.specs.declared.told.NameTold.{NameTold}
use Rattle.vhdl_names_typing.specs.declared.told.ObjectName.{ObjectName}
use Rattle.vhdl_names_typing.specs.declared.told.PartTold.{PartTold}
use Rattle.vhdl_units.specs.declared.values.Reference.{Reference}
use Rattle.vhdl_units.specs.declared.values.Value.{Value}
use Rattle.vhdl_names_laws.specs.Known.{known_reference, known_value}
use Rattle.vhdl_names_laws.specs.Meanings.{IsObject}
use Rattle.vhdl_names_laws.specs.Tells.{Tells}
use Rattle.vhdl_names_laws.specs.Typed.{HasType}
use Rattle.vhdl_units.specs.declared.base_type.BaseType.TheVariants as base
use Rattle.vhdl_names_meaning.specs.declared.candidates.Denoted.TheVariants as denoted
use Rattle.vhdl_names_typing.specs.declared.told.Denotes.TheVariants as denotes
use Rattle.vhdl_names_meaning.specs.declared.candidates.PartCandidate.TheVariants as part
use Rattle.vhdl_names_typing.specs.declared.told.PartTold.TheVariants as part_told
use Rattle.vhdl_units.specs.declared.values.Value.TheVariants as value

-- ---- what is denoted

-- enumeration literals, which are globally static
pub record IsLiterals (types : List BaseType) (static : Bool) (d : Denoted) : Type 0 where
  pub entries : List Entry
  pub is : d ≡ denoted.Literals entries
  pub typed : types ≡ literal_types entries
  pub told : static ≡ true

-- a value of one type, globally static where it is told so
pub record IsOne (types : List BaseType) (static : Bool) (d : Denoted) : Type 0 where
  pub type : BaseType
  pub value : Value
  pub is_static : Bool
  pub is : d ≡ denoted.Value value type is_static
  pub typed : types ≡ type ∷ []
  pub known : known_value value ≡ true
  pub has_type : HasType value type
  pub told : static ≡ is_static

-- an object, an element of it or a slice: globally static as a value where the object is and all that follows it
pub record IsValueOf (o : ObjectName) (static : Bool) (d : Denoted) : Type 0 where
  pub object : IsObject o d
  pub told : static ≡ (is_static_class o.object.class && o.is_static)

-- the range of an array
pub record IsRange (d : Denoted) : Type 0 where
  pub reference : Reference
  pub is : d ≡ denoted.Range reference
  pub known : known_reference reference ≡ true

-- by what a name tells that it denotes, the types that it can have and whether it is globally static as a value
abbrev pub Means : Denotes → List BaseType → Bool → Denoted → Type 0
Means denotes.Unknown types static d = ⊥
Means (denotes.Object o) types static d = IsValueOf o static d
Means denotes.Value types static d = IsLiterals types static d ⊎ IsOne types static d
Means denotes.Now types static d = (d ≡ denoted.Value value.Now base.Time false) × (static ≡ false)
Means (denotes.Subtype mark) types static d = d ≡ denoted.Subtype mark.base
Means (denotes.Function f) types static d = d ≡ denoted.Function f
Means (denotes.TypeAttribute a t) types static d = d ≡ denoted.TypeAttribute a t
Means denotes.Range types static d = IsRange d
Means _ types static d = Unit {0}

-- a whole name
abbrev pub NameMeans : NameTold → Denoted → Type 0
NameMeans n d = n.names ≡ [] → n.typing ≡ [] → Means n.denotes n.types n.is_static d

-- a name to which more can come: an index or slice on a scalar is tested of the whole name
abbrev pub Begins : NameTold → Denoted → Type 0
Begins n d = n.names ≡ [] → n.typing ≡ [] → n.is_misfit ≡ false → Means n.denotes n.types n.is_static d

-- ---- what follows an identifier

abbrev pub PartTells : PartTold → PartCandidate → Type 0
PartTells (part_told.Index told) (part.Index c) = Tells told c
PartTells (part_told.Slice low high) (part.Slice left direction right) = Tells low left × Tells high right
PartTells (part_told.Attribute word) (part.Attribute other) = word ≡ other
PartTells _ _ = ⊥

abbrev pub PartsTell : List PartTold → List PartCandidate → Type 0
PartsTell [] [] = Unit {0}
PartsTell (told ∷ tolds) (c ∷ parts) = PartTells told c × PartsTell tolds parts
PartsTell _ _ = ⊥
