-- What a reader of declarations finds is so by the grammar.
use Rattle.std.proofs.Common.{◌≡◌, ℕ, Bool, true, false, List, [], ◌∷◌, Option, Some, None, refl, sym, subst}
use Rattle.vhdl_tokens.specs.declared.token.Kind.TheVariants as kind
use Rattle.vhdl_tokens.specs.declared.token.Token.{Token}
use Rattle.vhdl_tokens.specs.declared.token.Delimiter.TheVariants as delimiter
use Rattle.vhdl_tokens.specs.declared.reserved.Reserved.TheVariants as reserved
use Rattle.vhdl_tree.specs.declared.expressions.Expr.{Expr}
use Rattle.vhdl_tree.specs.declared.declarations.Subtype.{Subtype}
use Rattle.vhdl_tree.specs.declared.declarations.Mode.{Mode}
use Rattle.vhdl_tree.specs.declared.declarations.TypeDeclaration.{TypeDeclaration}
use Rattle.vhdl_tree.specs.declared.declarations.SubtypeDeclaration.{SubtypeDeclaration}
use Rattle.vhdl_tree.specs.declared.declarations.ConstantDeclaration.{ConstantDeclaration}
use Rattle.vhdl_tree.specs.declared.declarations.Declaration.{Declaration}
use Rattle.vhdl_tree.specs.declared.declarations.Declaration.TheVariants as a_declaration
use Rattle.vhdl_tree.specs.declared.units.Entity.{Entity}
use Rattle.vhdl_tree.specs.Words.{Span, tok, id, word, mark, kind_of, line_of}
use Rattle.vhdl_tree.specs.Lists.{Many, Separated, Preceded, IsToken, IsOptional}
use Rattle.vhdl_tree.specs.Expressions.{Expression}
use Rattle.vhdl_tree.specs.Declarations.{mode_of, Identifiers, Default, IsSubtype, IsEnumerationLiteral, IsType, IsSubtypeDeclaration, IsConstant, IsObject, IsSignal, IsVariable, IsAttribute, IsDeclaration, IsProcessDeclaration, IsGeneric, IsMode, IsPort, IsInterface, IsEntity}
use Rattle.vhdl_reader_expressions.proofs.Sound.{Triple, Sound, start_t, call_t, bind_t, pure_t, stop_t, choose_t, on_t, on_line_start, word_t, token_t, kept_t, before_t, after_t, placed, look_t, token_sound, optional_sound, perhaps_sound, sound_as}
use Rattle.vhdl_reader_expressions.proofs.SoundLists.{many_sound, separated_sound, separated_t}
use Rattle.vhdl_reader_expressions.proofs.Read.{expression_read, bounds_read}
use Rattle.vhdl_reader_declarations.specs.Reading as spec
use Rattle.vhdl_reader_declarations.specs.Reading.{identifiers, default, range_constraint, index_constraint, subtype_after, subtype, typed, literal, literals, type_declaration, subtype_declaration, given, constant_declaration, object_declaration, attributed, attribute_specification, constant, subtype_or_constant, type_or_constant, attribute_or_type, declaration, process_declaration, declarations, process_declarations, generic_subtype, generic, generic_list, generics, mode, port_mode, port, port_list, ports, entity_name, entity_end, entity}

-- an enumeration literal, by its kind
pub identifier_literal : (ts us : List Token) (t : Token) → IsToken kind.Identifier ts t us → IsEnumerationLiteral ts t us
identifier_literal ts us t IsToken.single = IsEnumerationLiteral.identifier

pub character_literal : (ts us : List Token) (t : Token) → IsToken kind.Char ts t us → IsEnumerationLiteral ts t us
character_literal ts us t IsToken.single = IsEnumerationLiteral.character

module _ (bound : ℕ) where
  -- ---- subtypes

  pub identifiers_sound : Sound (identifiers bound) Identifiers
  unfolding identifiers
  identifiers_sound = separated_sound bound token_sound

  default_sound : Sound (default bound) Default
  unfolding default
  default_sound = perhaps_sound (expression_read bound)

  range_constraint_t : (ts : List Token) (x : Span) → Triple (λ us. (y : Span) × (id x ∷ word reserved.Range y ∷ us ≡ ts)) (range_constraint bound (id x)) (IsSubtype ts)
  unfolding range_constraint
  range_constraint_t ts x = bind_t (call_t (bounds_read bound)) (λ b. pure_t (λ us h. placed IsSubtype h.1.1 (IsSubtype.range h.2)))

  index_constraint_t : (ts : List Token) (x : Span) → Triple (λ us. (y : Span) × (id x ∷ mark delimiter.LeftParen y ∷ us ≡ ts)) (index_constraint bound (id x)) (IsSubtype ts)
  unfolding index_constraint
  index_constraint_t ts x = bind_t (call_t (bounds_read bound)) (λ b. bind_t (word_t _) (λ _. pure_t (λ us h. placed IsSubtype h.1.1.1 (IsSubtype.index h.1.2))))

  subtype_after_t : (ts : List Token) (x : Span) → Triple (λ us. id x ∷ us ≡ ts) (subtype_after bound (id x)) (IsSubtype ts)
  unfolding subtype_after
  subtype_after_t ts x = on_t _ (range_constraint_t ts x) (on_t _ (index_constraint_t ts x) (pure_t (λ us h. placed IsSubtype h IsSubtype.plain)))

  pub subtype_sound : Sound (subtype bound) IsSubtype
  unfolding subtype
  subtype_sound = record { from = λ ts. token_t _ _ (λ x. subtype_after_t ts x) }

  -- a colon, and then a subtype
  abbrev Typed : (List Token → Type 0) → Subtype → List Token → Type 0
  Typed before s us = (ts : List Token) × ((x : Span) × before (mark delimiter.Colon x ∷ ts)) × IsSubtype ts s us

  typed_t : {before : List Token → Type 0} → Triple before (typed bound) (Typed before)
  unfolding typed
  typed_t = bind_t (word_t _) (λ _. call_t subtype_sound)

  -- ---- types

  literal_by_t : (ts : List Token) (b : Bool) → Triple (λ us. (us ≡ ts) × (spec.is_character (kind_of us) ≡ b)) (spec.literal_by bound b) (IsEnumerationLiteral ts)
  literal_by_t ts true = before_t (λ us h. h.0) (start_t (sound_as character_literal token_sound))
  literal_by_t ts false = before_t (λ us h. h.0) (start_t (sound_as identifier_literal token_sound))

  literal_sound : Sound (literal bound) IsEnumerationLiteral
  unfolding literal
  literal_sound = record { from = λ ts. look_t spec.is_character (spec.literal_by bound) (literal_by_t ts) }

  -- literals in brackets
  abbrev Literals : (List Token → Type 0) → List Token → List Token → Type 0
  Literals before all us = (y : Span)
      × ((ts : List Token) × ((x : Span) × before (mark delimiter.LeftParen x ∷ ts)) × Separated (kind.Delimiter delimiter.Comma) IsEnumerationLiteral ts all (mark delimiter.RightParen y ∷ us))

  literals_t : {before : List Token → Type 0} → Triple before (literals bound) (Literals before)
  unfolding literals
  literals_t = bind_t (word_t _) (λ _. bind_t (call_t literal_sound) (λ first.
      bind_t (separated_t bound (first ∷ []) literal_sound (λ us h. (h.0, h.1, Separated.several h.2 Preceded.none))) (λ all. bind_t (word_t _) (λ _. pure_t (λ us h. h)))))

  type_declaration_t : (ts : List Token) → Triple (λ us. (x : Span) × (word reserved.Type_ x ∷ us ≡ ts)) (type_declaration bound) (IsType ts)
  unfolding type_declaration
  type_declaration_t ts = token_t _ _ (λ y. bind_t (word_t _) (λ _. bind_t literals_t (λ all. bind_t (word_t _) (λ _.
      pure_t (λ us h. placed IsType h.1.1.1.1.1.1 (IsType.enumeration h.1.1.2))))))

  subtype_declaration_t : (ts : List Token) → Triple (λ us. (x : Span) × (word reserved.Subtype x ∷ us ≡ ts)) (subtype_declaration bound) (IsSubtypeDeclaration ts)
  unfolding subtype_declaration
  subtype_declaration_t ts = token_t _ _ (λ y. bind_t (word_t _) (λ _. bind_t (call_t subtype_sound) (λ s. bind_t (word_t _) (λ _.
      pure_t (λ us h. placed IsSubtypeDeclaration h.1.1.1.1 (IsSubtypeDeclaration.declared h.1.2))))))

  -- ---- objects and attributes

  -- a value between its delimiters
  abbrev Given : (List Token → Type 0) → Expr → List Token → Type 0
  Given before a us = (y : Span) × ((ts : List Token) × ((x : Span) × before (mark delimiter.Assign x ∷ ts)) × Expression ts a (mark delimiter.Semicolon y ∷ us))

  given_t : {before : List Token → Type 0} → Triple before (given bound) (Given before)
  unfolding given
  given_t = bind_t (word_t _) (λ _. bind_t (call_t (expression_read bound)) (λ a. bind_t (word_t _) (λ _. pure_t (λ us h. h))))

  constant_declaration_t : (ts : List Token) → Triple (λ us. (x : Span) × (word reserved.Constant x ∷ us ≡ ts)) (constant_declaration bound) (IsConstant ts)
  unfolding constant_declaration
  constant_declaration_t ts = bind_t (call_t identifiers_sound) (λ names. bind_t typed_t (λ s. bind_t given_t (λ a.
      pure_t (λ us h. placed IsConstant h.1.1.1.1.1.1.1 (IsConstant.declared h.1.1.1.1.1.2 h.1.1.1.2 h.1.2)))))

  object_declaration_sound : Sound (object_declaration bound) IsObject
  unfolding object_declaration
  object_declaration_sound = record {
    from = λ ts. bind_t (start_t identifiers_sound) (λ names. bind_t typed_t (λ s. bind_t (call_t default_sound) (λ initial. bind_t (word_t _) (λ _.
        pure_t (λ us h. IsObject.declared h.1.1.1.1 h.1.1.2 h.1.2)))));
  }

  -- the architecture of an attribute
  abbrev Attributed : (List Token → Type 0) → Token → List Token → Type 0
  Attributed before t us = (w : Span) × ((v : Span) × ((u : Span) × (t ≡ id u) × ((z : Span)
      × before (word reserved.Of z ∷ id u ∷ mark delimiter.Colon v ∷ word reserved.Architecture w ∷ us))))

  attributed_t : {before : List Token → Type 0} → Triple before (attributed bound) (Attributed before)
  unfolding attributed
  attributed_t = bind_t (word_t _) (λ _. bind_t (kept_t _) (λ t. bind_t (word_t _) (λ _. bind_t (word_t _) (λ _. pure_t (λ us h. h)))))

  attribute_specification_t : (ts : List Token) → Triple (λ us. (x : Span) × (word reserved.Attribute x ∷ us ≡ ts)) (attribute_specification bound) (IsAttribute ts)
  unfolding attribute_specification
  attribute_specification_t ts = token_t _ _ (λ y. bind_t attributed_t (λ t. bind_t (word_t _) (λ _. bind_t (call_t (expression_read bound)) (λ a. bind_t (word_t _) (λ _.
      pure_t (λ us h. let named = h.1.1.1.1.1 in
      subst (λ n. IsAttribute ts (record { attribute = id y; architecture = n; value = a }) us) (sym named.1) (placed IsAttribute named.2.1.1 (IsAttribute.specified h.1.2))))))))

  -- ---- declarations

  module _ (R : List Token → Declaration → List Token → Type 0)
      (types : (ts us : List Token) (d : TypeDeclaration) → IsType ts d us → R ts (a_declaration.Type d) us)
      (subtypes : (ts us : List Token) (d : SubtypeDeclaration) → IsSubtypeDeclaration ts d us → R ts (a_declaration.Subtype d) us)
      (constants : (ts us : List Token) (d : ConstantDeclaration) → IsConstant ts d us → R ts (a_declaration.Constant d) us) where
    constant_t : (ts : List Token) → Triple (λ us. us ≡ ts) (constant bound) (R ts)
    unfolding constant
    constant_t ts = on_t _ (bind_t (constant_declaration_t ts) (λ d. pure_t (λ us h. constants ts us d h))) stop_t

    subtype_or_constant_t : (ts : List Token) → Triple (λ us. us ≡ ts) (subtype_or_constant bound) (R ts)
    unfolding subtype_or_constant
    subtype_or_constant_t ts = on_t _ (bind_t (subtype_declaration_t ts) (λ d. pure_t (λ us h. subtypes ts us d h))) (constant_t ts)

    type_or_constant_t : (ts : List Token) → Triple (λ us. us ≡ ts) (type_or_constant bound) (R ts)
    unfolding type_or_constant
    type_or_constant_t ts = on_t _ (bind_t (type_declaration_t ts) (λ d. pure_t (λ us h. types ts us d h))) (subtype_or_constant_t ts)

  attribute_or_type_t : (ts : List Token) → Triple (λ us. us ≡ ts) (attribute_or_type bound) (IsDeclaration ts)
  unfolding attribute_or_type
  attribute_or_type_t ts = on_t _ (bind_t (attribute_specification_t ts) (λ d. pure_t (λ us h. IsDeclaration.attribute h)))
      (type_or_constant_t IsDeclaration (λ ts us d h. IsDeclaration.type_is h) (λ ts us d h. IsDeclaration.subtype_is h) (λ ts us d h. IsDeclaration.constant h) ts)

  declaration_sound : Sound (declaration bound) IsDeclaration
  unfolding declaration
  declaration_sound = record {
    from = λ ts. on_t _ (bind_t (call_t object_declaration_sound) (λ d. pure_t (λ us h. placed IsDeclaration h.1.1 (IsDeclaration.signal (IsSignal.declared h.2))))) (attribute_or_type_t ts);
  }

  process_declaration_sound : Sound (process_declaration bound) IsProcessDeclaration
  unfolding process_declaration
  process_declaration_sound = record {
    from = λ ts. on_t _ (bind_t (call_t object_declaration_sound) (λ d. pure_t (λ us h. placed IsProcessDeclaration h.1.1 (IsProcessDeclaration.variable (IsVariable.declared h.2)))))
        (type_or_constant_t IsProcessDeclaration (λ ts us d h. IsProcessDeclaration.type_is h) (λ ts us d h. IsProcessDeclaration.subtype_is h) (λ ts us d h. IsProcessDeclaration.constant h) ts);
  }

  pub declarations_sound : Sound (declarations bound) (Many IsDeclaration)
  unfolding declarations
  declarations_sound = many_sound bound spec.begins_declaration declaration_sound

  pub process_declarations_sound : Sound (process_declarations bound) (Many IsProcessDeclaration)
  unfolding process_declarations
  process_declarations_sound = many_sound bound spec.begins_process_declaration process_declaration_sound

  -- ---- generics and ports

  -- a colon, the word in where it stands, and then a subtype
  abbrev GenericSubtype : (List Token → Type 0) → Subtype → List Token → Type 0
  GenericSubtype before s us = (way : Option Token) × ((ws : List Token)
      × ((vs : List Token) × ((x : Span) × before (mark delimiter.Colon x ∷ vs)) × IsOptional (kind.Word reserved.In) vs way ws) × IsSubtype ws s us)

  generic_subtype_t : {before : List Token → Type 0} → Triple before (generic_subtype bound) (GenericSubtype before)
  unfolding generic_subtype
  generic_subtype_t = bind_t (word_t _) (λ _. bind_t (call_t optional_sound) (λ way. after_t (λ s us h. (way, h)) (call_t subtype_sound)))

  generic_sound : Sound (generic bound) IsGeneric
  unfolding generic
  generic_sound = record {
    from = λ ts. bind_t (start_t optional_sound) (λ class. bind_t (call_t identifiers_sound) (λ names. bind_t generic_subtype_t (λ s. bind_t (call_t default_sound) (λ a.
        pure_t (λ us h. let named = h.1.1.1.1.1 in IsGeneric.declared named.1 named.2 h.1.1.1.2 h.1.1.2 h.2)))));
  }

  generic_list_t : (ts : List Token) → Triple (λ us. (x : Span) × (word reserved.Generic x ∷ us ≡ ts)) (generic_list bound) (IsInterface reserved.Generic IsGeneric ts)
  unfolding generic_list
  generic_list_t ts = bind_t (word_t _) (λ _. bind_t (call_t generic_sound) (λ first.
      bind_t (separated_t bound (first ∷ []) generic_sound (λ us h. (h.0, h.1, Separated.several h.2 Preceded.none))) (λ all. bind_t (word_t _) (λ _. bind_t (word_t _) (λ _.
      pure_t (λ us h. placed (IsInterface reserved.Generic IsGeneric) h.1.1.1.1.1 (IsInterface.present h.1.1.2)))))))

  generics_sound : Sound (generics bound) (IsInterface reserved.Generic IsGeneric)
  unfolding generics
  generics_sound = record { from = λ ts. on_t _ (generic_list_t ts) (pure_t (λ us h. placed (IsInterface reserved.Generic IsGeneric) h IsInterface.absent)) }

  mode_sound : Sound (mode bound) IsMode
  unfolding mode
  mode_sound = record { from = λ ts. choose_t mode_of refl (λ m. pure_t (λ us h. placed IsMode h.2 (IsMode.present h.3))) (pure_t (λ us h. placed IsMode h IsMode.absent)) }

  -- a colon, and then a mode
  abbrev PortMode : (List Token → Type 0) → Mode → List Token → Type 0
  PortMode before m us = (ts : List Token) × ((x : Span) × before (mark delimiter.Colon x ∷ ts)) × IsMode ts m us

  port_mode_t : {before : List Token → Type 0} → Triple before (port_mode bound) (PortMode before)
  unfolding port_mode
  port_mode_t = bind_t (word_t _) (λ _. call_t mode_sound)

  port_sound : Sound (port bound) IsPort
  unfolding port
  port_sound = record {
    from = λ ts. bind_t (start_t optional_sound) (λ class. bind_t (call_t identifiers_sound) (λ names. bind_t port_mode_t (λ m. bind_t (call_t subtype_sound) (λ s. bind_t (call_t default_sound) (λ a.
        pure_t (λ us h. let named = h.1.1.1.1 in IsPort.declared named.1 named.2 h.1.1.2 h.1.2 h.2))))));
  }

  port_list_t : (ts : List Token) → Triple (λ us. (x : Span) × (word reserved.Port x ∷ us ≡ ts)) (port_list bound) (IsInterface reserved.Port IsPort ts)
  unfolding port_list
  port_list_t ts = bind_t (word_t _) (λ _. bind_t (call_t port_sound) (λ first.
      bind_t (separated_t bound (first ∷ []) port_sound (λ us h. (h.0, h.1, Separated.several h.2 Preceded.none))) (λ all. bind_t (word_t _) (λ _. bind_t (word_t _) (λ _.
      pure_t (λ us h. placed (IsInterface reserved.Port IsPort) h.1.1.1.1.1 (IsInterface.present h.1.1.2)))))))

  ports_sound : Sound (ports bound) (IsInterface reserved.Port IsPort)
  unfolding ports
  ports_sound = record { from = λ ts. on_t _ (port_list_t ts) (pure_t (λ us h. placed (IsInterface reserved.Port IsPort) h IsInterface.absent)) }

  -- ---- entities

  -- the words round the name of an entity
  abbrev Named : List Token → Token → List Token → Type 0
  Named ts t us = (z : Span) × ((y : Span) × (t ≡ id y) × ((x : Span) × (word reserved.Entity x ∷ id y ∷ word reserved.Is z ∷ us ≡ ts)))

  entity_name_t : (ts : List Token) → Triple (λ us. us ≡ ts) (entity_name bound) (Named ts)
  unfolding entity_name
  entity_name_t ts = bind_t (word_t _) (λ _. bind_t (kept_t _) (λ t. bind_t (word_t _) (λ _. pure_t (λ us h. h))))

  -- the end of an entity
  abbrev Ended : (List Token → Type 0) → Option Token → List Token → Type 0
  Ended before name us = (class : Option Token) × ((v : Span) × ((ws : List Token)
      × ((vs : List Token) × ((u : Span) × before (word reserved.End u ∷ vs)) × IsOptional (kind.Word reserved.Entity) vs class ws)
      × IsOptional kind.Identifier ws name (mark delimiter.Semicolon v ∷ us)))

  entity_end_t : {before : List Token → Type 0} → Triple before (entity_end bound) (Ended before)
  unfolding entity_end
  entity_end_t = bind_t (word_t _) (λ _. bind_t (call_t optional_sound) (λ class. bind_t (call_t optional_sound) (λ name. bind_t (word_t _) (λ _. pure_t (λ us h. (class, h))))))

  entity_rest_t : (ts : List Token) (t : Token) → Triple (Named ts t) (spec.entity_rest bound (line_of ts) t) (IsEntity ts)
  entity_rest_t ts t = bind_t (call_t generics_sound) (λ gs. bind_t (call_t ports_sound) (λ ps. bind_t entity_end_t (λ end_name.
      pure_t (λ us h. let ends = h.1.1 in let interfaces = ends.1.1.1 in let named = interfaces.1.1.1 in
      subst (λ n. IsEntity ts (record { line = line_of ts; name = n; generics = gs; ports = ps; end_name = end_name }) us) (sym named.1)
      (subst (λ zs. IsEntity zs (record { line = line_of zs; name = id named.0; generics = gs; ports = ps; end_name = end_name }) us) named.2.1
      (IsEntity.declared interfaces.1.2 interfaces.2 ends.1.2 ends.2))))))

  pub entity_sound : Sound (entity bound) IsEntity
  unfolding entity
  entity_sound = record { from = λ ts. on_line_start (spec.entity_at bound) (bind_t (entity_name_t ts) (entity_rest_t ts)) }
