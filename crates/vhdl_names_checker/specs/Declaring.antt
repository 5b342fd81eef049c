-- What a declaration adds to what stands around the places behind it (IEEE Std 1076-2008, clauses 6 and 12).
use Rattle.std.specs.List.{last_or}
use Rattle.std.specs.Option.{option_map_or}
use Rattle.std.specs.Prelude.{Bool, List, None, Option, Some, [], false, if◌then◌else◌, length, ℕ, ◌++◌, ◌+◌, ◌∷◌}
use Rattle.vhdl_names_checker.specs.Around.{Around}
use Rattle.vhdl_names_checker.specs.declared.interface.Interface.{Interface}
use Rattle.vhdl_names_scope.specs.Declarations.{own}
use Rattle.vhdl_names_scope.specs.Names.{word_in}
use Rattle.vhdl_names_scope.specs.Nesting.{Nested, declared, declares_other, whole}
use Rattle.vhdl_tokens.specs.declared.token.Token.{Token}
use Rattle.vhdl_tree.specs.declared.declarations.TypeDeclaration.{TypeDeclaration}
use Rattle.vhdl_units.specs.Faults.{at}
use Rattle.vhdl_units.specs.Types.{same}
use Rattle.vhdl_units.specs.declared.base_type.BaseType.{BaseType}
use Rattle.vhdl_units.specs.declared.entry.Class.{Class}
use Rattle.vhdl_units.specs.declared.entry.Entry.{Entry}
use Rattle.vhdl_units.specs.declared.entry.Mark.{Mark}
use Rattle.vhdl_units.specs.declared.entry.Object.{Object}
use Rattle.vhdl_units.specs.declared.fault.Fault.{Fault}
use Rattle.vhdl_units.specs.declared.base_type.BaseType.TheVariants as base
use Rattle.vhdl_units.specs.declared.entry.Class.TheVariants as class
use Rattle.vhdl_units.specs.declared.entry.Entry.TheVariants as entry
use Rattle.vhdl_units.specs.declared.fault.Rule.TheVariants as rule

-- how many types and subtypes are always visible: a design's own declarations have the numbers behind theirs
unfoldable pub standard_marks : ℕ
standard_marks = 14

unfoldable pub next_number : Around → ℕ
next_number a = standard_marks + length a.declarations

-- a declaration that has a number, in the innermost region
unfoldable pub numbered : List ℕ → Entry → Around → Around
numbered word e a = record a { regions = declared (record { name = word; entry = e }) a.regions; declarations = a.declarations ++ e ∷ [] }

-- ---- a name that is declared twice in one region

unfoldable pub twice_if : Bool → ℕ → List Fault
twice_if is_declared place = if is_declared then at place rule.DeclaredTwice else []

unfoldable pub twice : List ℕ → Nested → Token → List Fault
twice text regions token = twice_if (declares_other regions (word_in text token)) token.start

-- ---- objects

unfoldable pub object_numbered : ℕ → Class → BaseType → Object
object_numbered number c t = record { number = number; class = c; base = t }

-- a generic or port is a formal of its entity
unfoldable pub with_formal : Class → List ℕ → Object → Interface → Interface
with_formal class.Generic word o i = record i { generics = i.generics ++ o ∷ []; formals = i.formals ++ (record { name = word; entry = entry.Object o }) ∷ [] }
with_formal (class.Port mode) word o i = record i { ports = i.ports ++ o ∷ []; formals = i.formals ++ (record { name = word; entry = entry.Object o }) ∷ [] }
with_formal _ word o i = i

unfoldable pub with_object : Class → List ℕ → Object → Around → Around
with_object c word o a = numbered word (entry.Object o) (record a { interface = with_formal c word o a.interface })

unfoldable pub object_declared : List ℕ → Class → BaseType → Token → Around → Around
object_declared text c t token a = with_object c (word_in text token) (object_numbered (next_number a) c t) a

-- one after the other
unfoldable pub objects_declared : List ℕ → Class → BaseType → List Token → Around → Around
objects_declared text c t [] a = a
objects_declared text c t (token ∷ tokens) a = objects_declared text c t tokens (object_declared text c t token a)

unfoldable pub objects_twice : List ℕ → Class → BaseType → List Token → Around → List Fault
objects_twice text c t [] a = []
objects_twice text c t (token ∷ tokens) a = twice text a.regions token ++ objects_twice text c t tokens (object_declared text c t token a)

-- The type of an object whose type isn't known. The fault that made it so stands before all places where it shows.
unfoldable pub type_or : Option Mark → BaseType
type_or (Some mark) = mark.base
type_or None = base.Integer

-- ---- subtypes

unfoldable pub renumbered : ℕ → Option Mark → Mark
renumbered number (Some mark) = record mark { number = number }
renumbered number None = record { number = number; base = base.Integer; resolved = false; bounded = false }

unfoldable pub subtype_declared : List ℕ → Token → Option Mark → Around → Around
subtype_declared text token mark a = numbered (word_in text token) (entry.Subtype (renumbered (next_number a) mark)) a

-- ---- enumeration types

unfoldable pub enumeration : ℕ → Mark
enumeration number = record { number = number; base = base.Own number; resolved = false; bounded = false }

unfoldable pub is_literal_of : BaseType → Entry → Bool
is_literal_of t (entry.Literal u position) = same t u
is_literal_of t _ = false

-- the literal was declared with the type already: then its first position stands
unfoldable pub is_last_literal : BaseType → List Entry → Bool
is_last_literal t entries = option_map_or (is_literal_of t) (last_or None entries) false

unfoldable pub own_entries : List ℕ → Around → List Entry
own_entries word a = own word (whole a.regions.inner.region)

unfoldable pub literal_declared : List ℕ → BaseType → ℕ → Around → Around
literal_declared word t position a =
    if is_last_literal t (own_entries word a) then a else record a { regions = declared (record { name = word; entry = entry.Literal t position }) a.regions }

unfoldable pub literals_declared : List ℕ → BaseType → ℕ → List Token → Around → Around
literals_declared text t position [] a = a
literals_declared text t position (token ∷ tokens) a =
    literals_declared text t (position + 1) tokens (literal_declared (word_in text token) t position a)

unfoldable pub enumeration_declared : List ℕ → TypeDeclaration → Around → Around
enumeration_declared text d a =
    literals_declared text (base.Own (next_number a)) 0 d.literals (numbered (word_in text d.name) (entry.Subtype (enumeration (next_number a))) a)

-- ---- labels

unfoldable pub label_declared : List ℕ → Token → Around → Around
label_declared text token a = numbered (word_in text token) (entry.Label (next_number a)) a
