-- The readers of declarations and entities as functions on tokens, beside which the code is proved.
use Rattle.std.specs.Prelude.{ℕ, Bool, true, false, Option, Some, None, List, [], ◌∷◌, if◌then◌else◌}
use Rattle.vhdl_tokens.specs.declared.token.Kind.{Kind}
use Rattle.vhdl_tokens.specs.declared.token.Kind.TheVariants as kind
use Rattle.vhdl_tokens.specs.declared.token.Token.{Token}
use Rattle.vhdl_tokens.specs.declared.token.Delimiter.TheVariants as delimiter
use Rattle.vhdl_tokens.specs.declared.reserved.Reserved.TheVariants as reserved
use Rattle.vhdl_tree.specs.declared.expressions.Expr.{Expr}
use Rattle.vhdl_tree.specs.declared.declarations.Constraint.TheVariants as a_constraint
use Rattle.vhdl_tree.specs.declared.declarations.Subtype.{Subtype}
use Rattle.vhdl_tree.specs.declared.declarations.Mode.{Mode}
use Rattle.vhdl_tree.specs.declared.declarations.Mode.TheVariants as a_mode
use Rattle.vhdl_tree.specs.declared.declarations.TypeDeclaration.{TypeDeclaration}
use Rattle.vhdl_tree.specs.declared.declarations.SubtypeDeclaration.{SubtypeDeclaration}
use Rattle.vhdl_tree.specs.declared.declarations.ConstantDeclaration.{ConstantDeclaration}
use Rattle.vhdl_tree.specs.declared.declarations.ObjectDeclaration.{ObjectDeclaration}
use Rattle.vhdl_tree.specs.declared.declarations.AttributeSpecification.{AttributeSpecification}
use Rattle.vhdl_tree.specs.declared.declarations.Declaration.{Declaration}
use Rattle.vhdl_tree.specs.declared.declarations.Declaration.TheVariants as a_declaration
use Rattle.vhdl_tree.specs.declared.units.Generic.{Generic}
use Rattle.vhdl_tree.specs.declared.units.Port.{Port}
use Rattle.vhdl_tree.specs.declared.units.Entity.{Entity}
use Rattle.vhdl_tree.specs.Declarations.{mode_of, subtype_of}
use Rattle.vhdl_reader_expressions.specs.Steps.{Parser, ◌>>=◌, ◌>>◌, pure, stop, on, choose, look, on_line, word, token, optional, perhaps, many_from, preceded_from}
use Rattle.vhdl_reader_expressions.specs.Reading.{expression_within, bounds_within}

-- ---- what the next token is

abbrev pub is_character : Option Kind → Bool
is_character (Some kind.Char) = true
is_character _ = false

-- a declaration of an architecture begins here
abbrev pub begins_declaration : Option Kind → Bool
begins_declaration (Some (kind.Word reserved.Type_)) = true
begins_declaration (Some (kind.Word reserved.Subtype)) = true
begins_declaration (Some (kind.Word reserved.Constant)) = true
begins_declaration (Some (kind.Word reserved.Signal)) = true
begins_declaration (Some (kind.Word reserved.Attribute)) = true
begins_declaration _ = false

-- a declaration of a process begins here
abbrev pub begins_process_declaration : Option Kind → Bool
begins_process_declaration (Some (kind.Word reserved.Type_)) = true
begins_process_declaration (Some (kind.Word reserved.Subtype)) = true
begins_process_declaration (Some (kind.Word reserved.Constant)) = true
begins_process_declaration (Some (kind.Word reserved.Variable)) = true
begins_process_declaration _ = false

-- ---- the readers, with a bound on the turns of their loops and on what expressions need

module _ (bound : ℕ) where
  abbrev pub more_identifiers : List Token → Parser (List Token)
  more_identifiers found = preceded_from bound (kind.Delimiter delimiter.Comma) (token kind.Identifier) found

  unfoldable pub identifiers : Parser (List Token)
  identifiers = do first ← token kind.Identifier; more_identifiers (first ∷ [])

  unfoldable pub default : Parser (Option Expr)
  default = perhaps (kind.Delimiter delimiter.Assign) (expression_within bound)

  -- what follows the word range
  unfoldable pub range_constraint : Token → Parser Subtype
  range_constraint type = do b ← bounds_within bound; pure (subtype_of type (Some (a_constraint.Range b)))

  -- what follows the bracket behind a type
  unfoldable pub index_constraint : Token → Parser Subtype
  index_constraint type = do b ← bounds_within bound; word (kind.Delimiter delimiter.RightParen); pure (subtype_of type (Some (a_constraint.Index b)))

  unfoldable pub subtype_after : Token → Parser Subtype
  subtype_after type = on (kind.Word reserved.Range) (range_constraint type) (on (kind.Delimiter delimiter.LeftParen) (index_constraint type) (pure (subtype_of type None)))

  unfoldable pub subtype : Parser Subtype
  subtype = do type ← token kind.Identifier; subtype_after type

  -- a colon and a subtype
  unfoldable pub typed : Parser Subtype
  typed = do word (kind.Delimiter delimiter.Colon); subtype

  abbrev pub literal_by : Bool → Parser Token
  literal_by b = if b then token kind.Char else token kind.Identifier

  unfoldable pub literal : Parser Token
  literal = look is_character literal_by

  abbrev pub more_literals : List Token → Parser (List Token)
  more_literals found = preceded_from bound (kind.Delimiter delimiter.Comma) literal found

  -- the literals of a type, in their brackets
  unfoldable pub literals : Parser (List Token)
  literals = do word (kind.Delimiter delimiter.LeftParen); first ← literal; all ← more_literals (first ∷ []); word (kind.Delimiter delimiter.RightParen); pure all

  -- what follows the first word of a declaration

  unfoldable pub type_declaration : Parser TypeDeclaration
  type_declaration = do name ← token kind.Identifier; word (kind.Word reserved.Is); all ← literals; word (kind.Delimiter delimiter.Semicolon); pure (record { name = name; literals = all })

  unfoldable pub subtype_declaration : Parser SubtypeDeclaration
  subtype_declaration = do name ← token kind.Identifier; word (kind.Word reserved.Is); s ← subtype; word (kind.Delimiter delimiter.Semicolon); pure (record { name = name; subtype = s })

  -- what gives a constant its value
  unfoldable pub given : Parser Expr
  given = do word (kind.Delimiter delimiter.Assign); value ← expression_within bound; word (kind.Delimiter delimiter.Semicolon); pure value

  unfoldable pub constant_declaration : Parser ConstantDeclaration
  constant_declaration = do names ← identifiers; s ← typed; value ← given; pure (record { names = names; subtype = s; value = value })

  unfoldable pub object_declaration : Parser ObjectDeclaration
  object_declaration = do names ← identifiers; s ← typed; initial ← default; word (kind.Delimiter delimiter.Semicolon); pure (record { names = names; subtype = s; initial = initial })

  -- the architecture of an attribute, from the word of on
  unfoldable pub attributed : Parser Token
  attributed = do word (kind.Word reserved.Of); name ← token kind.Identifier; word (kind.Delimiter delimiter.Colon); word (kind.Word reserved.Architecture); pure name

  unfoldable pub attribute_specification : Parser AttributeSpecification
  attribute_specification = do attribute ← token kind.Identifier; architecture ← attributed; word (kind.Word reserved.Is); value ← expression_within bound; word (kind.Delimiter delimiter.Semicolon); pure (record { attribute = attribute; architecture = architecture; value = value })

  -- a declaration of a constant, and of types
  unfoldable pub constant : Parser Declaration
  constant = on (kind.Word reserved.Constant) (do d ← constant_declaration; pure (a_declaration.Constant d)) stop

  unfoldable pub subtype_or_constant : Parser Declaration
  subtype_or_constant = on (kind.Word reserved.Subtype) (do d ← subtype_declaration; pure (a_declaration.Subtype d)) constant

  unfoldable pub type_or_constant : Parser Declaration
  type_or_constant = on (kind.Word reserved.Type_) (do d ← type_declaration; pure (a_declaration.Type d)) subtype_or_constant

  unfoldable pub attribute_or_type : Parser Declaration
  attribute_or_type = on (kind.Word reserved.Attribute) (do d ← attribute_specification; pure (a_declaration.Attribute d)) type_or_constant

  unfoldable pub declaration : Parser Declaration
  declaration = on (kind.Word reserved.Signal) (do d ← object_declaration; pure (a_declaration.Signal d)) attribute_or_type

  unfoldable pub process_declaration : Parser Declaration
  process_declaration = on (kind.Word reserved.Variable) (do d ← object_declaration; pure (a_declaration.Variable d)) type_or_constant

  abbrev pub more_declarations : List Declaration → Parser (List Declaration)
  more_declarations found = many_from bound begins_declaration declaration found

  unfoldable pub declarations : Parser (List Declaration)
  declarations = more_declarations []

  abbrev pub more_process_declarations : List Declaration → Parser (List Declaration)
  more_process_declarations found = many_from bound begins_process_declaration process_declaration found

  unfoldable pub process_declarations : Parser (List Declaration)
  process_declarations = more_process_declarations []

  -- ---- entities

  -- the subtype of a generic, from its colon on
  unfoldable pub generic_subtype : Parser Subtype
  generic_subtype = do word (kind.Delimiter delimiter.Colon); optional (kind.Word reserved.In); subtype

  unfoldable pub generic : Parser Generic
  generic = do optional (kind.Word reserved.Constant); names ← identifiers; s ← generic_subtype; a ← default; pure (record { names = names; subtype = s; default = a })

  abbrev pub more_generics : List Generic → Parser (List Generic)
  more_generics found = preceded_from bound (kind.Delimiter delimiter.Semicolon) generic found

  -- what follows the word generic
  unfoldable pub generic_list : Parser (List Generic)
  generic_list = do word (kind.Delimiter delimiter.LeftParen); first ← generic; all ← more_generics (first ∷ []); word (kind.Delimiter delimiter.RightParen); word (kind.Delimiter delimiter.Semicolon); pure all

  unfoldable pub generics : Parser (List Generic)
  generics = on (kind.Word reserved.Generic) generic_list (pure [])

  unfoldable pub mode : Parser Mode
  mode = choose mode_of pure (pure a_mode.In)

  -- the mode of a port, from its colon on
  unfoldable pub port_mode : Parser Mode
  port_mode = do word (kind.Delimiter delimiter.Colon); mode

  unfoldable pub port : Parser Port
  port = do optional (kind.Word reserved.Signal); names ← identifiers; m ← port_mode; s ← subtype; a ← default; pure (record { names = names; mode = m; subtype = s; default = a })

  abbrev pub more_ports : List Port → Parser (List Port)
  more_ports found = preceded_from bound (kind.Delimiter delimiter.Semicolon) port found

  -- what follows the word port
  unfoldable pub port_list : Parser (List Port)
  port_list = do word (kind.Delimiter delimiter.LeftParen); first ← port; all ← more_ports (first ∷ []); word (kind.Delimiter delimiter.RightParen); word (kind.Delimiter delimiter.Semicolon); pure all

  unfoldable pub ports : Parser (List Port)
  ports = on (kind.Word reserved.Port) port_list (pure [])

  -- the name of an entity, from the word entity up to the word is
  unfoldable pub entity_name : Parser Token
  entity_name = do word (kind.Word reserved.Entity); name ← token kind.Identifier; word (kind.Word reserved.Is); pure name

  -- the end of an entity
  unfoldable pub entity_end : Parser (Option Token)
  entity_end = do word (kind.Word reserved.End); optional (kind.Word reserved.Entity); name ← optional kind.Identifier; word (kind.Delimiter delimiter.Semicolon); pure name

  -- what follows the name of an entity
  abbrev pub entity_rest : ℕ → Token → Parser Entity
  entity_rest line name = do gs ← generics; ps ← ports; end_name ← entity_end; pure (record { line = line; name = name; generics = gs; ports = ps; end_name = end_name })

  abbrev pub entity_at : ℕ → Parser Entity
  entity_at line = do name ← entity_name; entity_rest line name

  unfoldable pub entity : Parser Entity
  entity = on_line entity_at
