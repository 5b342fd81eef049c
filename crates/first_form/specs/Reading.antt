-- The form that a syntax tree has, one function a production. `text` is the text that the tree's tokens stand in.
use Rattle.std.specs.Prelude.{ℕ, Bool, true, false, not, ◌&&◌, ◌==◌, length, codes, List, [], ◌∷◌, Option, Some, None, is_none, if◌then◌else◌}
use Rattle.std.specs.Option.{option_and_then}
use Rattle.std.specs.Str.{bytes_eq}
use Rattle.vhdl_tokens.specs.declared.token.Kind.{Kind}
use Rattle.vhdl_tokens.specs.declared.token.Kind.TheVariants as kind
use Rattle.vhdl_tokens.specs.declared.token.Token.{Token}
use Rattle.vhdl_tokens.specs.Meaning.{span, identifier_of, integer_of}
use Rattle.vhdl_tokens.specs.Values.{char_value}
use Rattle.vhdl_tree.specs.declared.expressions.Expr.{Expr, out-Expr}
use Rattle.vhdl_tree.specs.declared.expressions.Choice.TheOpen.{Expr-F}
use Rattle.vhdl_tree.specs.declared.expressions.Choice.{Choice}
use Rattle.vhdl_tree.specs.declared.expressions.Link.{Link}
use Rattle.vhdl_tree.specs.declared.expressions.Item.{Item}
use Rattle.vhdl_tree.specs.declared.expressions.Name.{Name, out-Name}
use Rattle.vhdl_tree.specs.declared.expressions.Part.{Part}
use Rattle.vhdl_tree.specs.declared.declarations.Subtype.{Subtype}
use Rattle.vhdl_tree.specs.declared.declarations.ObjectDeclaration.{ObjectDeclaration}
use Rattle.vhdl_tree.specs.declared.declarations.Declaration.{Declaration}
use Rattle.vhdl_tree.specs.declared.declarations.Declaration.TheVariants as declaration
use Rattle.vhdl_tree.specs.declared.statements.Delay.{Delay}
use Rattle.vhdl_tree.specs.declared.statements.Delay.TheVariants as delay
use Rattle.vhdl_tree.specs.declared.statements.Element as tree_element
use Rattle.vhdl_tree.specs.declared.units.ConcurrentAssignment.{ConcurrentAssignment}
use Rattle.vhdl_tree.specs.declared.units.ConcurrentBody.{ConcurrentBody}
use Rattle.vhdl_tree.specs.declared.units.ConcurrentBody.TheVariants as body
use Rattle.vhdl_tree.specs.declared.units.Concurrent.{Concurrent}
use Rattle.vhdl_tree.specs.declared.units.Entity.{Entity}
use Rattle.vhdl_tree.specs.declared.units.Architecture.{Architecture}
use Rattle.vhdl_tree.specs.declared.units.LibraryUnit.{LibraryUnit}
use Rattle.vhdl_tree.specs.declared.units.LibraryUnit.TheVariants as unit
use Rattle.vhdl_tree.specs.declared.units.DesignUnit.{DesignUnit}
use Rattle.vhdl_tree.specs.declared.units.DesignFile.{DesignFile}
use Rattle.first_form.specs.declared.form.TimeUnit.{TimeUnit}
use Rattle.first_form.specs.declared.form.TimeUnit.TheVariants.{Femtosecond, Picosecond, Nanosecond, Microsecond, Millisecond, Second, Minute, Hour}
use Rattle.first_form.specs.declared.form.Element.{Element}
use Rattle.first_form.specs.declared.form.Assignment.{Assignment}
use Rattle.first_form.specs.declared.form.Form.{Form}

infixl 10 ◌>>=◌
abbrev pub ◌>>=◌ : {A B : Type 0} → Option A → (A → Option B) → Option B
o >>= f = option_and_then f o

-- what each element of a list gives, if each gives something
unfoldable pub each : {A B : Type 0} → (A → Option B) → List A → Option (List B)
each f [] = Some []
each f (x ∷ xs) = do
  y ← f x
  ys ← each f xs
  Some (y ∷ ys)

-- ---- words

-- the word of an identifier, in lower case
abbrev pub word_in : List ℕ → Token → Option (List ℕ)
word_in text token = identifier_of (span text token)

-- the units of type TIME (5.2.4.1)
abbrev pub unit_named : List ℕ → Option TimeUnit
unit_named w =
    if bytes_eq w (codes "fs") then Some Femtosecond else (
    if bytes_eq w (codes "ps") then Some Picosecond else (
    if bytes_eq w (codes "ns") then Some Nanosecond else (
    if bytes_eq w (codes "us") then Some Microsecond else (
    if bytes_eq w (codes "ms") then Some Millisecond else (
    if bytes_eq w (codes "sec") then Some Second else (
    if bytes_eq w (codes "min") then Some Minute else (
    if bytes_eq w (codes "hr") then Some Hour else (
    None))))))))

-- a word that may be declared: neither `bit` nor a unit of time
abbrev pub is_free : List ℕ → Bool
is_free w = not (bytes_eq w (codes "bit")) && is_none (unit_named w)

-- id
unfoldable pub name_in : List ℕ → Token → Option (List ℕ)
name_in text token = do
  word ← word_in text token
  if is_free word then Some word else None

-- bit
unfoldable pub bit_in : List ℕ → Token → Option (Unit {0})
bit_in text token = do
  word ← word_in text token
  if bytes_eq word (codes "bit") then Some tt else None

-- a unit of time
unfoldable pub unit_in : List ℕ → Token → Option TimeUnit
unit_in text token = do
  word ← word_in text token
  unit_named word

-- ---- declarations

-- bit
unfoldable pub subtype_in : List ℕ → Subtype → Option (Unit {0})
subtype_in text s = if is_none s.constraint then bit_in text s.mark else None

-- id
unfoldable pub names_in : List ℕ → List Token → Option (List ℕ)
names_in text (name ∷ []) = name_in text name
names_in text _ = None

-- id : bit
unfoldable pub object_in : List ℕ → ObjectDeclaration → Option (List ℕ)
object_in text o = if is_none o.initial then (do
  bit ← subtype_in text o.subtype
  names_in text o.names) else None

-- signal id : bit ;
unfoldable pub signal_in : List ℕ → Declaration → Option (List ℕ)
signal_in text (declaration.Signal o) = object_in text o
signal_in text _ = None

-- ---- elements

-- the byte of a character literal
abbrev pub byte_of : Kind → List ℕ → Option ℕ
byte_of kind.Char bytes = char_value bytes
byte_of _ bytes = None

abbrev pub char_in : List ℕ → Token → Option ℕ
char_in text token = byte_of token.kind (span text token)

-- one level of an expression
abbrev pub Layer : Type 0
Layer = Expr-F Choice Expr Part Item Link Name

-- CHAR
abbrev pub literal_of : List ℕ → Layer → Option ℕ
literal_of text (Expr-F.Literal token) = char_in text token
literal_of text _ = None

unfoldable pub literal_in : List ℕ → Expr → Option ℕ
literal_in text e = literal_of text (out-Expr e)

-- the number and the unit of a time
unfoldable pub amount_in : List ℕ → Token → Token → Option (ℕ × TimeUnit)
amount_in text number unit = do
  n ← integer_of (span text number)
  u ← unit_in text unit
  Some (n, u)

-- INT unit
abbrev pub time_of : List ℕ → Layer → Option (ℕ × TimeUnit)
time_of text (Expr-F.Number number (Some unit)) = amount_in text number unit
time_of text _ = None

unfoldable pub time_in : List ℕ → Expr → Option (ℕ × TimeUnit)
time_in text e = time_of text (out-Expr e)

-- after INT unit
unfoldable pub after_in : List ℕ → Option Expr → Option (ℕ × TimeUnit)
after_in text (Some e) = time_in text e
after_in text None = None

-- CHAR after INT unit
unfoldable pub element_in : List ℕ → tree_element.Element → Option Element
element_in text e = do
  literal ← literal_in text e.value
  time ← after_in text e.after
  Some (record { literal = literal; number = time.0; unit = time.1 })

-- ---- statements

-- id
unfoldable pub target_in : List ℕ → Name → Option (List ℕ)
target_in text n = if length (out-Name n).parts == 0 then name_in text (out-Name n).identifier else None

abbrev pub is_inertial : Delay → Bool
is_inertial delay.Inertial = true
is_inertial _ = false

-- not postponed, of inertial delay, and of one waveform with no condition
abbrev pub is_plain : ConcurrentAssignment → Bool
is_plain a = ((not a.postponed && is_inertial a.delay) && length a.alternatives == 0) && is_none a.condition

-- id <= elem { , elem } ;
unfoldable pub assignment_in : List ℕ → ConcurrentAssignment → Option Assignment
assignment_in text a = if is_plain a then (do
  target ← target_in text a.target
  elements ← each (element_in text) a.waveform
  Some (record { target = target; elements = elements })) else None

unfoldable pub body_in : List ℕ → ConcurrentBody → Option Assignment
body_in text (body.Assignment a) = assignment_in text a
body_in text _ = None

-- the same, without a label
unfoldable pub statement_in : List ℕ → Concurrent → Option Assignment
statement_in text s = if is_none s.label then body_in text s.body else None

-- ---- units

-- entity id is end ;
unfoldable pub entity_in : List ℕ → Entity → Option (List ℕ)
entity_in text e = if (length e.generics == 0 && length e.ports == 0) && is_none e.end_name then name_in text e.name else None

unfoldable pub entity_of : List ℕ → LibraryUnit → Option (List ℕ)
entity_of text (unit.Entity e) = entity_in text e
entity_of text _ = None

-- the same, without a context
unfoldable pub first_in : List ℕ → DesignUnit → Option (List ℕ)
first_in text u = if length u.context == 0 then entity_of text u.unit else None

-- of id, which is the entity's name
unfoldable pub of_in : List ℕ → List ℕ → Token → Option (Unit {0})
of_in text entity token = do
  name ← name_in text token
  if bytes_eq name entity then Some tt else None

-- architecture id of id is { signal id : bit ; } begin { id <= elem { , elem } ; } end ;
unfoldable pub architecture_in : List ℕ → List ℕ → Architecture → Option Form
architecture_in text entity a = if is_none a.end_name then (do
  architecture ← name_in text a.name
  of_entity ← of_in text entity a.entity
  signals ← each (signal_in text) a.declarations
  assignments ← each (statement_in text) a.statements
  Some (record { entity = entity; architecture = architecture; signals = signals; assignments = assignments })) else None

unfoldable pub architecture_of : List ℕ → List ℕ → LibraryUnit → Option Form
architecture_of text entity (unit.Architecture a) = architecture_in text entity a
architecture_of text entity _ = None

-- the same, without a context
unfoldable pub second_in : List ℕ → List ℕ → DesignUnit → Option Form
second_in text entity u = if length u.context == 0 then architecture_of text entity u.unit else None

-- an entity and an architecture of it
unfoldable pub units_in : List ℕ → List DesignUnit → Option Form
units_in text (e ∷ a ∷ []) = do
  entity ← first_in text e
  second_in text entity a
units_in text _ = None

-- the form of a design file, if it is of the first form
unfoldable pub form_in : List ℕ → DesignFile → Option Form
form_in text file = units_in text file.units
