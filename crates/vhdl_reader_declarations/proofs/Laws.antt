-- What a reader of declarations answers hangs on no token behind its place, and its bounds suffice.
use Rattle.std.proofs.Common.{◌≡◌, ℕ, Bool, true, false, List, [], ◌∷◌, Option, arith}
use Rattle.vhdl_tokens.specs.declared.token.Kind.{Kind}
use Rattle.vhdl_tokens.specs.declared.token.Kind.TheVariants as kind
use Rattle.vhdl_tokens.specs.declared.token.Token.{Token}
use Rattle.vhdl_tokens.specs.declared.token.Delimiter.TheVariants as delimiter
use Rattle.vhdl_tree.specs.Declarations.{mode_of}
use Rattle.vhdl_reader_expressions.proofs.Local.{Law, bind_law, then_law, choose_law, pure_law, stop_law, look_law, on_law, on_line_law, word_law, token_law, optional_law, perhaps_law}
use Rattle.vhdl_reader_expressions.proofs.Loops.{Moves, on_moves, stop_moves, bind_moves, word_moves, on_line_moves, many_law, preceded_law}
use Rattle.vhdl_reader_expressions.proofs.Bounded.{expression_bounded, bounds_bounded}
use Rattle.vhdl_reader_declarations.specs.Reading as spec
use Rattle.vhdl_reader_declarations.specs.Reading.{identifiers, default, range_constraint, index_constraint, subtype_after, subtype, typed, literal, literals, type_declaration, subtype_declaration, given, constant_declaration, object_declaration, attributed, attribute_specification, constant, subtype_or_constant, type_or_constant, attribute_or_type, declaration, process_declaration, declarations, process_declarations, generic_subtype, generic, generic_list, generics, mode, port_mode, port, port_list, ports, entity_name, entity_end, entity}

module _ (bound : ℕ) where
  -- ---- subtypes

  pub identifiers_law : Law bound (identifiers bound)
  unfolding identifiers
  identifiers_law = bind_law (token_law _) (λ first. preceded_law bound (kind.Delimiter delimiter.Comma) (first ∷ []) (omega arith) (token_law _))

  default_law : Law bound (default bound)
  unfolding default
  default_law = perhaps_law _ (expression_bounded bound)

  range_constraint_law : (type : Token) → Law bound (range_constraint bound type)
  unfolding range_constraint
  range_constraint_law type = bind_law (bounds_bounded bound) (λ b. pure_law)

  index_constraint_law : (type : Token) → Law bound (index_constraint bound type)
  unfolding index_constraint
  index_constraint_law type = bind_law (bounds_bounded bound) (λ b. bind_law (word_law _) (λ _. pure_law))

  subtype_after_law : (type : Token) → Law bound (subtype_after bound type)
  unfolding subtype_after
  subtype_after_law type = on_law _ (range_constraint_law type) (on_law _ (index_constraint_law type) pure_law)

  pub subtype_law : Law bound (subtype bound)
  unfolding subtype
  subtype_law = bind_law (token_law _) subtype_after_law

  typed_law : Law bound (typed bound)
  unfolding typed
  typed_law = bind_law (word_law _) (λ _. subtype_law)

  -- ---- declarations

  literal_by_law : (b : Bool) → Law bound (spec.literal_by bound b)
  literal_by_law true = token_law _
  literal_by_law false = token_law _

  literal_law : Law bound (literal bound)
  unfolding literal
  literal_law = look_law spec.is_character (spec.literal_by bound) literal_by_law

  literals_law : Law bound (literals bound)
  unfolding literals
  literals_law = bind_law (word_law _) (λ _. bind_law literal_law (λ first. bind_law (preceded_law bound (kind.Delimiter delimiter.Comma) (first ∷ []) (omega arith) literal_law)
      (λ all. bind_law (word_law _) (λ _. pure_law))))

  type_declaration_law : Law bound (type_declaration bound)
  unfolding type_declaration
  type_declaration_law = bind_law (token_law _) (λ name. bind_law (word_law _) (λ _. bind_law literals_law (λ all. bind_law (word_law _) (λ _. pure_law))))

  subtype_declaration_law : Law bound (subtype_declaration bound)
  unfolding subtype_declaration
  subtype_declaration_law = bind_law (token_law _) (λ name. bind_law (word_law _) (λ _. bind_law subtype_law (λ s. bind_law (word_law _) (λ _. pure_law))))

  given_law : Law bound (given bound)
  unfolding given
  given_law = bind_law (word_law _) (λ _. bind_law (expression_bounded bound) (λ value. bind_law (word_law _) (λ _. pure_law)))

  constant_declaration_law : Law bound (constant_declaration bound)
  unfolding constant_declaration
  constant_declaration_law = bind_law identifiers_law (λ names. bind_law typed_law (λ s. bind_law given_law (λ value. pure_law)))

  object_declaration_law : Law bound (object_declaration bound)
  unfolding object_declaration
  object_declaration_law = bind_law identifiers_law (λ names. bind_law typed_law (λ s. bind_law default_law (λ initial. bind_law (word_law _) (λ _. pure_law))))

  attributed_law : Law bound (attributed bound)
  unfolding attributed
  attributed_law = bind_law (word_law _) (λ _. bind_law (token_law _) (λ name. bind_law (word_law _) (λ _. bind_law (word_law _) (λ _. pure_law))))

  attribute_specification_law : Law bound (attribute_specification bound)
  unfolding attribute_specification
  attribute_specification_law = bind_law (token_law _) (λ attribute. bind_law attributed_law (λ architecture. bind_law (word_law _) (λ _. bind_law (expression_bounded bound)
      (λ value. bind_law (word_law _) (λ _. pure_law)))))

  constant_law : Law bound (constant bound)
  unfolding constant
  constant_law = on_law _ (bind_law constant_declaration_law (λ d. pure_law)) stop_law

  subtype_or_constant_law : Law bound (subtype_or_constant bound)
  unfolding subtype_or_constant
  subtype_or_constant_law = on_law _ (bind_law subtype_declaration_law (λ d. pure_law)) constant_law

  type_or_constant_law : Law bound (type_or_constant bound)
  unfolding type_or_constant
  type_or_constant_law = on_law _ (bind_law type_declaration_law (λ d. pure_law)) subtype_or_constant_law

  attribute_or_type_law : Law bound (attribute_or_type bound)
  unfolding attribute_or_type
  attribute_or_type_law = on_law _ (bind_law attribute_specification_law (λ d. pure_law)) type_or_constant_law

  declaration_law : Law bound (declaration bound)
  unfolding declaration
  declaration_law = on_law _ (bind_law object_declaration_law (λ d. pure_law)) attribute_or_type_law

  process_declaration_law : Law bound (process_declaration bound)
  unfolding process_declaration
  process_declaration_law = on_law _ (bind_law object_declaration_law (λ d. pure_law)) type_or_constant_law

  -- ---- each declaration takes a token

  constant_moves : {begins : Option Kind → Bool} → Moves bound begins (constant bound)
  unfolding constant
  constant_moves = on_moves _ (bind_law constant_declaration_law (λ d. pure_law)) stop_moves

  subtype_or_constant_moves : {begins : Option Kind → Bool} → Moves bound begins (subtype_or_constant bound)
  unfolding subtype_or_constant
  subtype_or_constant_moves = on_moves _ (bind_law subtype_declaration_law (λ d. pure_law)) constant_moves

  type_or_constant_moves : {begins : Option Kind → Bool} → Moves bound begins (type_or_constant bound)
  unfolding type_or_constant
  type_or_constant_moves = on_moves _ (bind_law type_declaration_law (λ d. pure_law)) subtype_or_constant_moves

  attribute_or_type_moves : {begins : Option Kind → Bool} → Moves bound begins (attribute_or_type bound)
  unfolding attribute_or_type
  attribute_or_type_moves = on_moves _ (bind_law attribute_specification_law (λ d. pure_law)) type_or_constant_moves

  declaration_moves : {begins : Option Kind → Bool} → Moves bound begins (declaration bound)
  unfolding declaration
  declaration_moves = on_moves _ (bind_law object_declaration_law (λ d. pure_law)) attribute_or_type_moves

  process_declaration_moves : {begins : Option Kind → Bool} → Moves bound begins (process_declaration bound)
  unfolding process_declaration
  process_declaration_moves = on_moves _ (bind_law object_declaration_law (λ d. pure_law)) type_or_constant_moves

  pub declarations_law : Law bound (declarations bound)
  unfolding declarations
  declarations_law = many_law bound [] (omega arith) declaration_law declaration_moves

  pub process_declarations_law : Law bound (process_declarations bound)
  unfolding process_declarations
  process_declarations_law = many_law bound [] (omega arith) process_declaration_law process_declaration_moves

  -- ---- entities

  generic_subtype_law : Law bound (generic_subtype bound)
  unfolding generic_subtype
  generic_subtype_law = bind_law (word_law _) (λ _. bind_law (optional_law _) (λ _. subtype_law))

  generic_law : Law bound (generic bound)
  unfolding generic
  generic_law = bind_law (optional_law _) (λ _. bind_law identifiers_law (λ names. bind_law generic_subtype_law (λ s. bind_law default_law (λ a. pure_law))))

  generic_list_law : Law bound (generic_list bound)
  unfolding generic_list
  generic_list_law = bind_law (word_law _) (λ _. bind_law generic_law (λ first. bind_law (preceded_law bound (kind.Delimiter delimiter.Semicolon) (first ∷ []) (omega arith) generic_law)
      (λ all. bind_law (word_law _) (λ _. bind_law (word_law _) (λ _. pure_law)))))

  generics_law : Law bound (generics bound)
  unfolding generics
  generics_law = on_law _ generic_list_law pure_law

  mode_law : Law bound (mode bound)
  unfolding mode
  mode_law = choose_law mode_of (λ m. pure_law) pure_law

  port_mode_law : Law bound (port_mode bound)
  unfolding port_mode
  port_mode_law = bind_law (word_law _) (λ _. mode_law)

  port_law : Law bound (port bound)
  unfolding port
  port_law = bind_law (optional_law _) (λ _. bind_law identifiers_law (λ names. bind_law port_mode_law (λ m. bind_law subtype_law (λ s. bind_law default_law (λ a. pure_law)))))

  port_list_law : Law bound (port_list bound)
  unfolding port_list
  port_list_law = bind_law (word_law _) (λ _. bind_law port_law (λ first. bind_law (preceded_law bound (kind.Delimiter delimiter.Semicolon) (first ∷ []) (omega arith) port_law)
      (λ all. bind_law (word_law _) (λ _. bind_law (word_law _) (λ _. pure_law)))))

  ports_law : Law bound (ports bound)
  unfolding ports
  ports_law = on_law _ port_list_law pure_law

  entity_name_law : Law bound (entity_name bound)
  unfolding entity_name
  entity_name_law = bind_law (word_law _) (λ _. bind_law (token_law _) (λ name. bind_law (word_law _) (λ _. pure_law)))

  entity_end_law : Law bound (entity_end bound)
  unfolding entity_end
  entity_end_law = bind_law (word_law _) (λ _. bind_law (optional_law _) (λ _. bind_law (optional_law _) (λ name. bind_law (word_law _) (λ _. pure_law))))

  entity_rest_law : (line : ℕ) (name : Token) → Law bound (spec.entity_rest bound line name)
  entity_rest_law line name = bind_law generics_law (λ gs. bind_law ports_law (λ ps. bind_law entity_end_law (λ end_name. pure_law)))

  pub entity_law : Law bound (entity bound)
  unfolding entity
  entity_law = on_line_law (spec.entity_at bound) (λ line. bind_law entity_name_law (entity_rest_law line))

  entity_name_moves : {begins : Option Kind → Bool} → Moves bound begins (entity_name bound)
  unfolding entity_name
  entity_name_moves = bind_moves (word_moves _) (λ _. bind_law (token_law _) (λ name. bind_law (word_law _) (λ _. pure_law)))

  -- an entity takes a token
  pub entity_moves : {begins : Option Kind → Bool} → Moves bound begins (entity bound)
  unfolding entity
  entity_moves = on_line_moves (spec.entity_at bound) (λ line. bind_moves entity_name_moves (entity_rest_law line))
