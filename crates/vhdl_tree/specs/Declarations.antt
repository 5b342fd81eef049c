-- Subtypes, declarations and entities (IEEE Std 1076-2008, clauses 3.2, 5 and 6).
use Rattle.std.specs.Prelude.{◌≡◌, Option, Some, None, List, [], ◌∷◌}
use Rattle.vhdl_tokens.specs.declared.token.Kind.{Kind}
use Rattle.vhdl_tokens.specs.declared.token.Kind.TheVariants as kind
use Rattle.vhdl_tokens.specs.declared.token.Token.{Token}
use Rattle.vhdl_tokens.specs.declared.token.Delimiter.TheVariants as delimiter
use Rattle.vhdl_tokens.specs.declared.reserved.Reserved.{Reserved}
use Rattle.vhdl_tokens.specs.declared.reserved.Reserved.TheVariants as reserved
use Rattle.vhdl_tree.specs.declared.expressions.Expr.{Expr}
use Rattle.vhdl_tree.specs.declared.declarations.Bounds.{Bounds}
use Rattle.vhdl_tree.specs.declared.declarations.Constraint.{Constraint}
use Rattle.vhdl_tree.specs.declared.declarations.Constraint.TheVariants as constraint
use Rattle.vhdl_tree.specs.declared.declarations.Subtype.{Subtype}
use Rattle.vhdl_tree.specs.declared.declarations.Mode.{Mode}
use Rattle.vhdl_tree.specs.declared.declarations.Mode.TheVariants as mode
use Rattle.vhdl_tree.specs.declared.declarations.TypeDeclaration.{TypeDeclaration}
use Rattle.vhdl_tree.specs.declared.declarations.SubtypeDeclaration.{SubtypeDeclaration}
use Rattle.vhdl_tree.specs.declared.declarations.ConstantDeclaration.{ConstantDeclaration}
use Rattle.vhdl_tree.specs.declared.declarations.ObjectDeclaration.{ObjectDeclaration}
use Rattle.vhdl_tree.specs.declared.declarations.AttributeSpecification.{AttributeSpecification}
use Rattle.vhdl_tree.specs.declared.declarations.Declaration.{Declaration}
use Rattle.vhdl_tree.specs.declared.declarations.Declaration.TheVariants as declaration
use Rattle.vhdl_tree.specs.declared.units.Generic.{Generic}
use Rattle.vhdl_tree.specs.declared.units.Port.{Port}
use Rattle.vhdl_tree.specs.declared.units.Entity.{Entity}
use Rattle.vhdl_tree.specs.Words.{Span, tok, id, word, mark}
use Rattle.vhdl_tree.specs.Lists.{Separated, Perhaps, IsToken, IsOptional}
use Rattle.vhdl_tree.specs.Expressions.{Expression}
use Rattle.vhdl_tree.specs.Ranges.{IsBounds}

-- mode ::= in | out | inout
abbrev pub mode_of : Option Kind → Option Mode
mode_of (Some (kind.Word reserved.In)) = Some mode.In
mode_of (Some (kind.Word reserved.Out)) = Some mode.Out
mode_of (Some (kind.Word reserved.Inout)) = Some mode.Inout
mode_of _ = None

abbrev pub subtype_of : Token → Option Constraint → Subtype
subtype_of type constraint = record { mark = type; constraint = constraint }

-- ids ::= id { , id }
abbrev pub Identifiers : List Token → List Token → List Token → Type 0
Identifiers = Separated (kind.Delimiter delimiter.Comma) (IsToken kind.Identifier)

-- [ := expression ]
abbrev pub Default : List Token → Option Expr → List Token → Type 0
Default = Perhaps (kind.Delimiter delimiter.Assign) Expression

-- subtype_ind ::= id [ range bounds ] | id ( bounds )
pub data IsSubtype : List Token → Subtype → List Token → Type 0 where
  plain : {us : List Token} {x : Span} → IsSubtype (id x ∷ us) (subtype_of (id x) None) us
  range : {us vs : List Token} {x y : Span} {b : Bounds} → IsBounds us b vs
      → IsSubtype (id x ∷ word reserved.Range y ∷ us) (subtype_of (id x) (Some (constraint.Range b))) vs
  index : {us vs : List Token} {x y z : Span} {b : Bounds} → IsBounds us b (mark delimiter.RightParen z ∷ vs)
      → IsSubtype (id x ∷ mark delimiter.LeftParen y ∷ us) (subtype_of (id x) (Some (constraint.Index b))) vs

-- enum_literal ::= id | CHAR
pub data IsEnumerationLiteral : List Token → Token → List Token → Type 0 where
  identifier : {us : List Token} {x : Span} → IsEnumerationLiteral (id x ∷ us) (id x) us
  character : {us : List Token} {x : Span} → IsEnumerationLiteral (tok kind.Char x ∷ us) (tok kind.Char x) us

-- type_decl ::= type id is ( enum_literal { , enum_literal } ) ;
pub data IsType : List Token → TypeDeclaration → List Token → Type 0 where
  enumeration : {ts us : List Token} {x y z u v w : Span} {literals : List Token}
      → Separated (kind.Delimiter delimiter.Comma) IsEnumerationLiteral ts literals (mark delimiter.RightParen v ∷ mark delimiter.Semicolon w ∷ us)
      → IsType (word reserved.Type_ x ∷ id y ∷ word reserved.Is z ∷ mark delimiter.LeftParen u ∷ ts) (record { name = id y; literals = literals }) us

-- subtype_decl ::= subtype id is subtype_ind ;
pub data IsSubtypeDeclaration : List Token → SubtypeDeclaration → List Token → Type 0 where
  declared : {ts us : List Token} {x y z u : Span} {s : Subtype} → IsSubtype ts s (mark delimiter.Semicolon u ∷ us)
      → IsSubtypeDeclaration (word reserved.Subtype x ∷ id y ∷ word reserved.Is z ∷ ts) (record { name = id y; subtype = s }) us

-- constant_decl ::= constant ids : subtype_ind := expression ;
pub data IsConstant : List Token → ConstantDeclaration → List Token → Type 0 where
  declared : {ts us vs ws : List Token} {x y z u : Span} {names : List Token} {s : Subtype} {a : Expr}
      → Identifiers ts names (mark delimiter.Colon y ∷ us) → IsSubtype us s (mark delimiter.Assign z ∷ vs) → Expression vs a (mark delimiter.Semicolon u ∷ ws)
      → IsConstant (word reserved.Constant x ∷ ts) (record { names = names; subtype = s; value = a }) ws

-- ids : subtype_ind [ := expression ] ;
pub data IsObject : List Token → ObjectDeclaration → List Token → Type 0 where
  declared : {ts us vs ws : List Token} {x y : Span} {names : List Token} {s : Subtype} {initial : Option Expr}
      → Identifiers ts names (mark delimiter.Colon x ∷ us) → IsSubtype us s vs → Default vs initial (mark delimiter.Semicolon y ∷ ws)
      → IsObject ts (record { names = names; subtype = s; initial = initial }) ws

-- signal_decl ::= signal ids : subtype_ind [ := expression ] ;
pub data IsSignal : List Token → ObjectDeclaration → List Token → Type 0 where
  declared : {ts us : List Token} {x : Span} {o : ObjectDeclaration} → IsObject ts o us → IsSignal (word reserved.Signal x ∷ ts) o us

-- variable_decl ::= variable ids : subtype_ind [ := expression ] ;
pub data IsVariable : List Token → ObjectDeclaration → List Token → Type 0 where
  declared : {ts us : List Token} {x : Span} {o : ObjectDeclaration} → IsObject ts o us → IsVariable (word reserved.Variable x ∷ ts) o us

-- attribute_spec ::= attribute id of id : architecture is expression ;
pub data IsAttribute : List Token → AttributeSpecification → List Token → Type 0 where
  specified : {ts us : List Token} {x y z u v w t s : Span} {a : Expr} → Expression ts a (mark delimiter.Semicolon s ∷ us)
      → IsAttribute (word reserved.Attribute x ∷ id y ∷ word reserved.Of z ∷ id u ∷ mark delimiter.Colon v ∷ word reserved.Architecture w ∷ word reserved.Is t ∷ ts)
      (record { attribute = id y; architecture = id u; value = a }) us

-- block_decl ::= type_decl | subtype_decl | constant_decl | signal_decl | attribute_spec
pub data IsDeclaration : List Token → Declaration → List Token → Type 0 where
  type_is : {ts us : List Token} {d : TypeDeclaration} → IsType ts d us → IsDeclaration ts (declaration.Type d) us
  subtype_is : {ts us : List Token} {d : SubtypeDeclaration} → IsSubtypeDeclaration ts d us → IsDeclaration ts (declaration.Subtype d) us
  constant : {ts us : List Token} {d : ConstantDeclaration} → IsConstant ts d us → IsDeclaration ts (declaration.Constant d) us
  signal : {ts us : List Token} {d : ObjectDeclaration} → IsSignal ts d us → IsDeclaration ts (declaration.Signal d) us
  attribute : {ts us : List Token} {d : AttributeSpecification} → IsAttribute ts d us → IsDeclaration ts (declaration.Attribute d) us

-- process_decl ::= variable_decl | constant_decl | type_decl | subtype_decl
pub data IsProcessDeclaration : List Token → Declaration → List Token → Type 0 where
  variable : {ts us : List Token} {d : ObjectDeclaration} → IsVariable ts d us → IsProcessDeclaration ts (declaration.Variable d) us
  constant : {ts us : List Token} {d : ConstantDeclaration} → IsConstant ts d us → IsProcessDeclaration ts (declaration.Constant d) us
  type_is : {ts us : List Token} {d : TypeDeclaration} → IsType ts d us → IsProcessDeclaration ts (declaration.Type d) us
  subtype_is : {ts us : List Token} {d : SubtypeDeclaration} → IsSubtypeDeclaration ts d us → IsProcessDeclaration ts (declaration.Subtype d) us

-- generic_decl ::= [ constant ] ids : [ in ] subtype_ind [ := expression ]
pub data IsGeneric : List Token → Generic → List Token → Type 0 where
  declared : {ts us vs ws xs ys : List Token} {x : Span} {class way : Option Token} {names : List Token} {s : Subtype} {a : Option Expr}
      → IsOptional (kind.Word reserved.Constant) ts class us → Identifiers us names (mark delimiter.Colon x ∷ vs) → IsOptional (kind.Word reserved.In) vs way ws
      → IsSubtype ws s xs → Default xs a ys → IsGeneric ts (record { names = names; subtype = s; default = a }) ys

-- [ mode ]
pub data IsMode : List Token → Mode → List Token → Type 0 where
  absent : {ts : List Token} → IsMode ts mode.In ts
  present : {us : List Token} {k : Kind} {x : Span} {m : Mode} → mode_of (Some k) ≡ Some m → IsMode (tok k x ∷ us) m us

-- port_decl ::= [ signal ] ids : [ mode ] subtype_ind [ := expression ]
pub data IsPort : List Token → Port → List Token → Type 0 where
  declared : {ts us vs ws xs ys : List Token} {x : Span} {class : Option Token} {names : List Token} {m : Mode} {s : Subtype} {a : Option Expr}
      → IsOptional (kind.Word reserved.Signal) ts class us → Identifiers us names (mark delimiter.Colon x ∷ vs) → IsMode vs m ws
      → IsSubtype ws s xs → Default xs a ys → IsPort ts (record { names = names; mode = m; subtype = s; default = a }) ys

-- [ w ( x { ; x } ) ; ]
pub data IsInterface {A : Type 0} (w : Reserved) (R : List Token → A → List Token → Type 0) : List Token → List A → List Token → Type 0 where
  absent : {ts : List Token} → IsInterface w R ts [] ts
  present : {ts us : List Token} {x y z u : Span} {all : List A}
      → Separated (kind.Delimiter delimiter.Semicolon) R ts all (mark delimiter.RightParen z ∷ mark delimiter.Semicolon u ∷ us)
      → IsInterface w R (word w x ∷ mark delimiter.LeftParen y ∷ ts) all us

-- entity_decl ::= entity id is [ generic ( generic_decl { ; generic_decl } ) ; ] [ port ( port_decl { ; port_decl } ) ; ] end [ entity ] [ id ] ;
pub data IsEntity : List Token → Entity → List Token → Type 0 where
  declared : {ts us vs ws xs : List Token} {x y z u v : Span} {generics : List Generic} {ports : List Port} {class end_name : Option Token}
      → IsInterface reserved.Generic IsGeneric ts generics us → IsInterface reserved.Port IsPort us ports (word reserved.End u ∷ vs)
      → IsOptional (kind.Word reserved.Entity) vs class ws → IsOptional kind.Identifier ws end_name (mark delimiter.Semicolon v ∷ xs)
      → IsEntity (word reserved.Entity x ∷ id y ∷ word reserved.Is z ∷ ts)
      (record { line = x.line; name = id y; generics = generics; ports = ports; end_name = end_name }) xs
