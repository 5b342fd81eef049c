-- Concurrent statements and design units (IEEE Std 1076-2008, clauses 3, 11 and 13).
use Rattle.std.specs.Prelude.{Bool, true, false, Option, Some, None, List, [], ◌∷◌}
use Rattle.vhdl_tokens.specs.declared.token.Kind.TheVariants as kind
use Rattle.vhdl_tokens.specs.declared.token.Token.{Token}
use Rattle.vhdl_tokens.specs.declared.token.Delimiter.TheVariants as delimiter
use Rattle.vhdl_tokens.specs.declared.reserved.Reserved.{Reserved}
use Rattle.vhdl_tokens.specs.declared.reserved.Reserved.TheVariants as reserved
use Rattle.vhdl_tree.specs.declared.expressions.Expr.{Expr}
use Rattle.vhdl_tree.specs.declared.expressions.Name.{Name}
use Rattle.vhdl_tree.specs.declared.declarations.Declaration.{Declaration}
use Rattle.vhdl_tree.specs.declared.statements.Delay.{Delay}
use Rattle.vhdl_tree.specs.declared.statements.Element.{Element}
use Rattle.vhdl_tree.specs.declared.statements.Statement.{Statement}
use Rattle.vhdl_tree.specs.declared.units.Sensitivity.{Sensitivity}
use Rattle.vhdl_tree.specs.declared.units.Sensitivity.TheVariants as sensitivity
use Rattle.vhdl_tree.specs.declared.units.Process.{Process}
use Rattle.vhdl_tree.specs.declared.units.Alternative.{Alternative}
use Rattle.vhdl_tree.specs.declared.units.ConcurrentAssignment.{ConcurrentAssignment}
use Rattle.vhdl_tree.specs.declared.units.Actual.{Actual}
use Rattle.vhdl_tree.specs.declared.units.Actual.TheVariants as actual
use Rattle.vhdl_tree.specs.declared.units.Association.{Association}
use Rattle.vhdl_tree.specs.declared.units.Instantiation.{Instantiation}
use Rattle.vhdl_tree.specs.declared.units.ConcurrentBody.{ConcurrentBody}
use Rattle.vhdl_tree.specs.declared.units.ConcurrentBody.TheVariants as concurrent_body
use Rattle.vhdl_tree.specs.declared.units.Concurrent.{Concurrent}
use Rattle.vhdl_tree.specs.declared.units.Entity.{Entity}
use Rattle.vhdl_tree.specs.declared.units.Architecture.{Architecture}
use Rattle.vhdl_tree.specs.declared.units.ContextClause.{ContextClause}
use Rattle.vhdl_tree.specs.declared.units.ContextClause.TheVariants as context_clause
use Rattle.vhdl_tree.specs.declared.units.LibraryUnit.{LibraryUnit}
use Rattle.vhdl_tree.specs.declared.units.LibraryUnit.TheVariants as library_unit
use Rattle.vhdl_tree.specs.declared.units.DesignUnit.{DesignUnit}
use Rattle.vhdl_tree.specs.declared.units.DesignFile.{DesignFile}
use Rattle.vhdl_tree.specs.Words.{Span, id, word, mark, line_of}
use Rattle.vhdl_tree.specs.Lists.{Many, Separated, Perhaps, IsOptional}
use Rattle.vhdl_tree.specs.Expressions.{Expression, NameOf}
use Rattle.vhdl_tree.specs.Declarations.{Identifiers, IsDeclaration, IsProcessDeclaration, IsEntity}
use Rattle.vhdl_tree.specs.Statements.{IsDelay, IsWaveform, IsNames, StatementsOf}

-- ---- processes and concurrent assignments

-- [ id : ]
pub data IsLabel : List Token → Option Token → List Token → Type 0 where
  absent : {ts : List Token} → IsLabel ts None ts
  present : {us : List Token} {x y : Span} → IsLabel (id x ∷ mark delimiter.Colon y ∷ us) (Some (id x)) us

-- [ postponed ]
pub data IsPostponed : List Token → Bool → List Token → Type 0 where
  absent : {ts : List Token} → IsPostponed ts false ts
  present : {us : List Token} {x : Span} → IsPostponed (word reserved.Postponed x ∷ us) true us

-- [ ( sensitivity ) ], where sensitivity ::= all | names
pub data IsSensitivity : List Token → Sensitivity → List Token → Type 0 where
  unlisted : {ts : List Token} → IsSensitivity ts sensitivity.Unlisted ts
  all : {us : List Token} {x y z : Span} → IsSensitivity (mark delimiter.LeftParen x ∷ word reserved.All y ∷ mark delimiter.RightParen z ∷ us) sensitivity.All us
  names : {ts us : List Token} {x y : Span} {all : List Name} → IsNames ts all (mark delimiter.RightParen y ∷ us)
      → IsSensitivity (mark delimiter.LeftParen x ∷ ts) (sensitivity.Names all) us

-- process_stmt ::= process [ ( sensitivity ) ] [ is ] { process_decl } begin { statement } end [ postponed ] process [ id ] ;
pub data IsProcess (postponed : Bool) : List Token → Process → List Token → Type 0 where
  process : {ts us vs ws xs ys zs : List Token} {x y z u v : Span} {s : Sensitivity} {body again end_name : Option Token} {declarations : List Declaration} {statements : List Statement}
      → IsSensitivity ts s us → IsOptional (kind.Word reserved.Is) us body vs → Many IsProcessDeclaration vs declarations (word reserved.Begin y ∷ ws)
      → StatementsOf ws statements (word reserved.End z ∷ xs) → IsOptional (kind.Word reserved.Postponed) xs again (word reserved.Process u ∷ ys)
      → IsOptional kind.Identifier ys end_name (mark delimiter.Semicolon v ∷ zs)
      → IsProcess postponed (word reserved.Process x ∷ ts)
      (record { postponed = postponed; sensitivity = s; declarations = declarations; statements = statements; end_name = end_name }) zs

-- when expression else waveform
pub data IsAlternative : List Token → Alternative → List Token → Type 0 where
  otherwise : {ts us vs : List Token} {x y : Span} {a : Expr} {all : List Element} → Expression ts a (word reserved.Else y ∷ us) → IsWaveform us all vs
      → IsAlternative (word reserved.When x ∷ ts) (record { condition = a; otherwise = all }) vs

-- assignment ::= name <= [ delay ] waveform { when expression else waveform } [ when expression ] ;
pub data IsConcurrentAssignment (postponed : Bool) : List Token → ConcurrentAssignment → List Token → Type 0 where
  assigned : {ts us vs ws xs ys : List Token} {x y : Span} {n : Name} {d : Delay} {all : List Element} {alternatives : List Alternative} {condition : Option Expr}
      → NameOf ts n (mark delimiter.LessEqual x ∷ us) → IsDelay us d vs → IsWaveform vs all ws → Many IsAlternative ws alternatives xs
      → Perhaps (kind.Word reserved.When) Expression xs condition (mark delimiter.Semicolon y ∷ ys)
      → IsConcurrentAssignment postponed ts
      (record { postponed = postponed; target = n; delay = d; waveform = all; alternatives = alternatives; condition = condition }) ys

-- ---- instances

-- [ id => ]
pub data IsFormal : List Token → Option Token → List Token → Type 0 where
  absent : {ts : List Token} → IsFormal ts None ts
  present : {us : List Token} {x y : Span} → IsFormal (id x ∷ mark delimiter.Arrow y ∷ us) (Some (id x)) us

-- actual ::= expression | open
pub data IsActual : List Token → Actual → List Token → Type 0 where
  value : {ts us : List Token} {a : Expr} → Expression ts a us → IsActual ts (actual.Expr a) us
  open_ : {us : List Token} {x : Span} → IsActual (word reserved.Open x ∷ us) (actual.Open (word reserved.Open x)) us

-- association ::= [ id => ] actual
pub data IsAssociation : List Token → Association → List Token → Type 0 where
  associated : {ts us vs : List Token} {formal : Option Token} {a : Actual} → IsFormal ts formal us → IsActual us a vs
      → IsAssociation ts (record { formal = formal; actual = a }) vs

-- associations ::= association { , association }
abbrev pub IsAssociations : List Token → List Association → List Token → Type 0
IsAssociations = Separated (kind.Delimiter delimiter.Comma) IsAssociation

-- [ w map ( assocs ) ]
pub data IsMap (w : Reserved) : List Token → List Association → List Token → Type 0 where
  absent : {ts : List Token} → IsMap w ts [] ts
  present : {ts us : List Token} {x y z u : Span} {all : List Association} → IsAssociations ts all (mark delimiter.RightParen u ∷ us)
      → IsMap w (word w x ∷ word reserved.Map y ∷ mark delimiter.LeftParen z ∷ ts) all us

-- [ id . ]
pub data IsLibrary : List Token → Option Token → List Token → Type 0 where
  absent : {ts : List Token} → IsLibrary ts None ts
  present : {us : List Token} {x y : Span} → IsLibrary (id x ∷ mark delimiter.Dot y ∷ us) (Some (id x)) us

-- [ ( id ) ]
pub data IsArchitectureName : List Token → Option Token → List Token → Type 0 where
  absent : {ts : List Token} → IsArchitectureName ts None ts
  present : {us : List Token} {x y z : Span} → IsArchitectureName (mark delimiter.LeftParen x ∷ id y ∷ mark delimiter.RightParen z ∷ us) (Some (id y)) us

-- instance ::= entity [ id . ] id [ ( id ) ] [ generic map ( associations ) ] [ port map ( associations ) ] ;
pub data IsInstantiation : List Token → Instantiation → List Token → Type 0 where
  instance : {ts us vs ws xs : List Token} {x y z : Span} {library architecture : Option Token} {generics ports : List Association}
      → IsLibrary ts library (id y ∷ us) → IsArchitectureName us architecture vs → IsMap reserved.Generic vs generics ws
      → IsMap reserved.Port ws ports (mark delimiter.Semicolon z ∷ xs)
      → IsInstantiation (word reserved.Entity x ∷ ts)
      (record { library = library; entity = id y; architecture = architecture; generics = generics; ports = ports }) xs

-- ---- concurrent statements

abbrev pub concurrent_of : List Token → Option Token → ConcurrentBody → Concurrent
concurrent_of ts label body = record { line = line_of ts; label = label; body = body }

-- concurrent ::= [ id : ] [ postponed ] process_stmt | [ id : ] [ postponed ] assignment | id : instance
pub data IsConcurrent : List Token → Concurrent → List Token → Type 0 where
  process : {ts us vs ws : List Token} {label : Option Token} {postponed : Bool} {p : Process} → IsLabel ts label us → IsPostponed us postponed vs
      → IsProcess postponed vs p ws → IsConcurrent ts (concurrent_of ts label (concurrent_body.Process p)) ws
  assignment : {ts us vs ws : List Token} {label : Option Token} {postponed : Bool} {a : ConcurrentAssignment} → IsLabel ts label us → IsPostponed us postponed vs
      → IsConcurrentAssignment postponed vs a ws → IsConcurrent ts (concurrent_of ts label (concurrent_body.Assignment a)) ws
  instance : {ts us : List Token} {x y : Span} {i : Instantiation} → IsInstantiation ts i us
      → IsConcurrent (id x ∷ mark delimiter.Colon y ∷ ts) (concurrent_of (id x ∷ mark delimiter.Colon y ∷ ts) (Some (id x)) (concurrent_body.Instance i)) us

-- ---- units

-- architecture_body ::= architecture id of id is { block_decl } begin { concurrent } end [ architecture ] [ id ] ;
pub data IsArchitecture : List Token → Architecture → List Token → Type 0 where
  architecture : {ts us vs ws xs : List Token} {x y z u v w t s : Span} {declarations : List Declaration} {statements : List Concurrent} {class end_name : Option Token}
      → Many IsDeclaration ts declarations (word reserved.Begin w ∷ us) → Many IsConcurrent us statements (word reserved.End t ∷ vs)
      → IsOptional (kind.Word reserved.Architecture) vs class ws → IsOptional kind.Identifier ws end_name (mark delimiter.Semicolon s ∷ xs)
      → IsArchitecture (word reserved.Architecture x ∷ id y ∷ word reserved.Of z ∷ id u ∷ word reserved.Is v ∷ ts)
      (record { line = x.line; name = id y; entity = id u; declarations = declarations; statements = statements; end_name = end_name }) xs

-- suffix ::= id | all
pub data IsSuffix : List Token → Token → List Token → Type 0 where
  identifier : {us : List Token} {x : Span} → IsSuffix (id x ∷ us) (id x) us
  all : {us : List Token} {x : Span} → IsSuffix (word reserved.All x ∷ us) (word reserved.All x) us

-- context_item ::= library ids ; | use id . id . suffix ;
pub data IsContext : List Token → ContextClause → List Token → Type 0 where
  library : {ts us : List Token} {x y : Span} {names : List Token} → Identifiers ts names (mark delimiter.Semicolon y ∷ us)
      → IsContext (word reserved.Library x ∷ ts) (context_clause.Library names) us
  use_ : {ts us : List Token} {x y z u v w : Span} {suffix : Token} → IsSuffix ts suffix (mark delimiter.Semicolon w ∷ us)
      → IsContext (word reserved.Use x ∷ id y ∷ mark delimiter.Dot z ∷ id u ∷ mark delimiter.Dot v ∷ ts)
      (context_clause.Use (record { library = id y; «package» = id u; suffix = suffix })) us

-- library_unit ::= entity_decl | architecture_body
pub data IsLibraryUnit : List Token → LibraryUnit → List Token → Type 0 where
  entity : {ts us : List Token} {e : Entity} → IsEntity ts e us → IsLibraryUnit ts (library_unit.Entity e) us
  architecture : {ts us : List Token} {a : Architecture} → IsArchitecture ts a us → IsLibraryUnit ts (library_unit.Architecture a) us

-- design_unit ::= { context_item } library_unit
pub data IsDesignUnit : List Token → DesignUnit → List Token → Type 0 where
  unit : {ts us vs : List Token} {context : List ContextClause} {u : LibraryUnit} → Many IsContext ts context us → IsLibraryUnit us u vs
      → IsDesignUnit ts (record { context = context; unit = u }) vs

-- design_file ::= design_unit { design_unit }
pub data IsDesignFile : List Token → DesignFile → List Token → Type 0 where
  units : {ts us vs : List Token} {first : DesignUnit} {more : List DesignUnit} → IsDesignUnit ts first us → Many IsDesignUnit us more vs
      → IsDesignFile ts (record { units = first ∷ more }) vs

-- The tokens are those of a design file, and nothing follows.
abbrev pub Sentence : List Token → DesignFile → Type 0
Sentence ts file = IsDesignFile ts file []
