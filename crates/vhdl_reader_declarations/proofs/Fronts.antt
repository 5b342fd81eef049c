-- Where a reader of declarations stops, some tokens more would have made what it reads.
use Rattle.std.proofs.Common.{◌≡◌, ℕ, Bool, true, false, List, [], ◌∷◌, Option, Some, None, refl, subst}
use Rattle.vhdl_tokens.specs.declared.token.Kind.TheVariants as kind
use Rattle.vhdl_tokens.specs.declared.token.Token.{Token}
use Rattle.vhdl_tokens.specs.declared.token.Delimiter.TheVariants as delimiter
use Rattle.vhdl_tokens.specs.declared.reserved.Reserved.TheVariants as reserved
use Rattle.vhdl_tree.specs.declared.expressions.Expr.{Expr}
use Rattle.vhdl_tree.specs.declared.declarations.Subtype.{Subtype}
use Rattle.vhdl_tree.specs.declared.declarations.Mode.{Mode}
use Rattle.vhdl_tree.specs.declared.declarations.TypeDeclaration.{TypeDeclaration}
use Rattle.vhdl_tree.specs.declared.declarations.SubtypeDeclaration.{SubtypeDeclaration}
use Rattle.vhdl_tree.specs.declared.declarations.ConstantDeclaration.{ConstantDeclaration}
use Rattle.vhdl_tree.specs.declared.declarations.Declaration.{Declaration}
use Rattle.vhdl_tree.specs.declared.declarations.Declaration.TheVariants as a_declaration
use Rattle.vhdl_tree.specs.declared.units.Entity.{Entity}
use Rattle.vhdl_tree.specs.Words.{Span, tok, id, word, mark, kind_of, line_of}
use Rattle.vhdl_tree.specs.Lists.{Many, Separated, Preceded, IsToken, IsOptional}
use Rattle.vhdl_tree.specs.Expressions.{Expression}
use Rattle.vhdl_tree.specs.Declarations.{mode_of, Identifiers, Default, IsSubtype, IsEnumerationLiteral, IsType, IsSubtypeDeclaration, IsConstant, IsObject, IsSignal, IsVariable, IsAttribute, IsDeclaration, IsProcessDeclaration, IsGeneric, IsMode, IsPort, IsInterface, IsEntity}
use Rattle.vhdl_reader_expressions.proofs.Sound.{placed}
use Rattle.vhdl_reader_expressions.proofs.FrontSteps.{Front, State, one_before, ◌then◌, somewhere, LeadsTo, LeadsFrom, Some_of, Viable, start_f, call_f, bind_f, pure_f, stop_f, known_f, before_f, after_f, choose_f, on_f, look_f, on_line_f, word_f, token_f, kept_f, token_viable, optional_viable, perhaps_viable, viable_as}
use Rattle.vhdl_reader_expressions.proofs.FrontLists.{many_viable, separated_viable, separated_f}
use Rattle.vhdl_reader_expressions.proofs.Read.{expression_goes_on, bounds_go_on}
use Rattle.vhdl_reader_declarations.specs.Reading as spec
use Rattle.vhdl_reader_declarations.proofs.Sounds.{character_literal, identifier_literal}
use Rattle.vhdl_reader_declarations.specs.Reading.{identifiers, default, range_constraint, index_constraint, subtype_after, subtype, typed, literal, literals, type_declaration, subtype_declaration, given, constant_declaration, object_declaration, attributed, attribute_specification, constant, subtype_or_constant, type_or_constant, attribute_or_type, declaration, process_declaration, declarations, process_declarations, generic_subtype, generic, generic_list, generics, mode, port_mode, port, port_list, ports, entity_name, entity_end, entity}

-- type id is ( id ) ;
abbrev least_type : Front
least_type = one_before (word reserved.Type_ somewhere) then one_before (id somewhere) then one_before (word reserved.Is somewhere)
    then one_before (mark delimiter.LeftParen somewhere) then one_before (id somewhere) then one_before (mark delimiter.RightParen somewhere) then one_before (mark delimiter.Semicolon somewhere)

module _ (bound : ℕ) where
  pub identifiers_viable : Viable (identifiers bound) Identifiers
  unfolding identifiers
  identifiers_viable = separated_viable bound token_viable

  default_viable : Viable (default bound) Default
  unfolding default
  default_viable = perhaps_viable (expression_goes_on bound)

  range_constraint_f : (t : Token) → LeadsTo (λ ts us. (y : Span) × ((x : Span) × (id x ∷ word reserved.Range y ∷ us ≡ ts))) (range_constraint bound t) (λ a. Some_of IsSubtype)
  unfolding range_constraint
  range_constraint_f t = bind_f (call_f (bounds_go_on bound)) (λ b. pure_f (λ ts us h. (_, placed IsSubtype h.1.1.1 (IsSubtype.range h.2.1))))

  index_constraint_f : (t : Token) → LeadsTo (λ ts us. (y : Span) × ((x : Span) × (id x ∷ mark delimiter.LeftParen y ∷ us ≡ ts))) (index_constraint bound t) (λ a. Some_of IsSubtype)
  unfolding index_constraint
  index_constraint_f t = bind_f (call_f (bounds_go_on bound)) (λ b. bind_f (word_f _) (λ _. pure_f (λ ts us h. (_, placed IsSubtype h.1.1.1.1 (IsSubtype.index h.1.2.1)))))

  subtype_after_f : (t : Token) → LeadsTo (λ ts us. (x : Span) × (id x ∷ us ≡ ts)) (subtype_after bound t) (λ a. Some_of IsSubtype)
  unfolding subtype_after
  subtype_after_f t = on_f _ (range_constraint_f t) (on_f _ (index_constraint_f t) (pure_f (λ ts us h. (_, placed IsSubtype h.1 IsSubtype.plain))))

  pub subtype_viable : Viable (subtype bound) IsSubtype
  unfolding subtype
  subtype_viable = record { leads = token_f _ _ (λ x. before_f (λ ts us h. (x, h)) (subtype_after_f (id x))) }

  -- a colon, and then a subtype
  abbrev Typed : State → State
  Typed before ts us = (ms : List Token) × ((x : Span) × before ts (mark delimiter.Colon x ∷ ms)) × Some_of IsSubtype ms us

  typed_f : {before : State} → LeadsTo before (typed bound) (λ s. Typed before)
  unfolding typed
  typed_f = bind_f (word_f _) (λ _. call_f subtype_viable)

  -- ---- types

  literal_by_f : (b : Bool) → LeadsFrom (λ us. Unit {0} × (spec.is_character (kind_of us) ≡ b)) (λ ts us. us ≡ ts) (spec.literal_by bound b) (λ a. Some_of IsEnumerationLiteral)
  literal_by_f true = known_f _ (start_f (viable_as character_literal token_viable))
  literal_by_f false = known_f _ (start_f (viable_as identifier_literal token_viable))

  literal_viable : Viable (literal bound) IsEnumerationLiteral
  unfolding literal
  literal_viable = record { leads = look_f spec.is_character (spec.literal_by bound) false literal_by_f }

  -- literals in brackets
  abbrev Literals : State → State
  Literals before ts us = (y : Span)
      × ((ms : List Token) × ((x : Span) × before ts (mark delimiter.LeftParen x ∷ ms)) × Some_of (Separated (kind.Delimiter delimiter.Comma) IsEnumerationLiteral) ms (mark delimiter.RightParen y ∷ us))

  literals_f : {before : State} → LeadsTo before (literals bound) (λ all. Literals before)
  unfolding literals
  literals_f {before = before} = bind_f (word_f _) (λ _. bind_f (call_f literal_viable) (λ first.
      bind_f (separated_f bound {other = λ ts ms. (x : Span) × before ts (mark delimiter.LeftParen x ∷ ms)} (first ∷ []) literal_viable (λ ts us h. (h.0, h.1, (_, Separated.several h.2.1 Preceded.none))))
      (λ all. bind_f (word_f _) (λ _. pure_f (λ ts us h. h)))))

  type_declaration_f : LeadsTo (λ ts us. (x : Span) × (word reserved.Type_ x ∷ us ≡ ts)) (type_declaration bound) (λ a. Some_of IsType)
  unfolding type_declaration
  type_declaration_f = token_f _ _ (λ y. bind_f (word_f _) (λ _. bind_f literals_f (λ all. bind_f (word_f _) (λ _.
      pure_f (λ ts us h. (_, placed IsType h.1.1.1.1.1.1 (IsType.enumeration h.1.1.2.1)))))))

  subtype_declaration_f : LeadsTo (λ ts us. (x : Span) × (word reserved.Subtype x ∷ us ≡ ts)) (subtype_declaration bound) (λ a. Some_of IsSubtypeDeclaration)
  unfolding subtype_declaration
  subtype_declaration_f = token_f _ _ (λ y. bind_f (word_f _) (λ _. bind_f (call_f subtype_viable) (λ s. bind_f (word_f _) (λ _.
      pure_f (λ ts us h. (_, placed IsSubtypeDeclaration h.1.1.1.1 (IsSubtypeDeclaration.declared h.1.2.1)))))))

  -- ---- objects and attributes

  -- a value between its delimiters
  abbrev Given : State → State
  Given before ts us = (y : Span) × ((ms : List Token) × ((x : Span) × before ts (mark delimiter.Assign x ∷ ms)) × Some_of Expression ms (mark delimiter.Semicolon y ∷ us))

  given_f : {before : State} → LeadsTo before (given bound) (λ a. Given before)
  unfolding given
  given_f = bind_f (word_f _) (λ _. bind_f (call_f (expression_goes_on bound)) (λ a. bind_f (word_f _) (λ _. pure_f (λ ts us h. h))))

  constant_declaration_f : LeadsTo (λ ts us. (x : Span) × (word reserved.Constant x ∷ us ≡ ts)) (constant_declaration bound) (λ a. Some_of IsConstant)
  unfolding constant_declaration
  constant_declaration_f = bind_f (call_f identifiers_viable) (λ names. bind_f typed_f (λ s. bind_f given_f (λ a.
      pure_f (λ ts us h. (_, placed IsConstant h.1.1.1.1.1.1.1 (IsConstant.declared h.1.1.1.1.1.2.1 h.1.1.1.2.1 h.1.2.1))))))

  object_declaration_viable : Viable (object_declaration bound) IsObject
  unfolding object_declaration
  object_declaration_viable = record {
    leads = bind_f (start_f identifiers_viable) (λ names. bind_f typed_f (λ s. bind_f (call_f default_viable) (λ initial. bind_f (word_f _) (λ _.
        pure_f (λ ts us h. (_, IsObject.declared h.1.1.1.1.1 h.1.1.2.1 h.1.2.1))))));
  }

  -- the architecture of an attribute
  abbrev Attributed : State → State
  Attributed before ts us = (w : Span) × ((v : Span) × ((t : Token) × ((u : Span) × (t ≡ id u) × ((z : Span)
      × before ts (word reserved.Of z ∷ id u ∷ mark delimiter.Colon v ∷ word reserved.Architecture w ∷ us)))))

  attributed_f : {before : State} → LeadsTo before (attributed bound) (λ t. Attributed before)
  unfolding attributed
  attributed_f = bind_f (word_f _) (λ _. bind_f (kept_f _) (λ t. bind_f (word_f _) (λ _. bind_f (word_f _) (λ _. pure_f (λ ts us h. (h.0, (h.1.0, (t, h.1.1))))))))

  attribute_specification_f : LeadsTo (λ ts us. (x : Span) × (word reserved.Attribute x ∷ us ≡ ts)) (attribute_specification bound) (λ a. Some_of IsAttribute)
  unfolding attribute_specification
  attribute_specification_f = token_f _ _ (λ y. bind_f attributed_f (λ t. bind_f (word_f _) (λ _. bind_f (call_f (expression_goes_on bound)) (λ a. bind_f (word_f _) (λ _.
      pure_f (λ ts us h. let named = h.1.1.1.1.1.1 in (_, placed IsAttribute named.2.1.1 (IsAttribute.specified h.1.2.1))))))))

  -- ---- declarations

  module _ (R : List Token → Declaration → List Token → Type 0)
      (types : (ts us : List Token) (d : TypeDeclaration) → IsType ts d us → R ts (a_declaration.Type d) us)
      (subtypes : (ts us : List Token) (d : SubtypeDeclaration) → IsSubtypeDeclaration ts d us → R ts (a_declaration.Subtype d) us)
      (constants : (ts us : List Token) (d : ConstantDeclaration) → IsConstant ts d us → R ts (a_declaration.Constant d) us) where
    -- where no declaration begins, that of a type would do
    constant_f : LeadsTo (λ ts us. us ≡ ts) (constant bound) (λ a. Some_of R)
    unfolding constant
    constant_f = on_f _ (bind_f constant_declaration_f (λ d. pure_f (λ ts us h. (_, constants ts us h.0 h.1))))
        (stop_f least_type (a_declaration.Type (record { name = id somewhere; literals = id somewhere ∷ [] })) (λ ts us h. (_, types ts us _ (placed IsType h (IsType.enumeration (Separated.several IsEnumerationLiteral.identifier Preceded.none))))))

    subtype_or_constant_f : LeadsTo (λ ts us. us ≡ ts) (subtype_or_constant bound) (λ a. Some_of R)
    unfolding subtype_or_constant
    subtype_or_constant_f = on_f _ (bind_f subtype_declaration_f (λ d. pure_f (λ ts us h. (_, subtypes ts us h.0 h.1)))) constant_f

    type_or_constant_f : LeadsTo (λ ts us. us ≡ ts) (type_or_constant bound) (λ a. Some_of R)
    unfolding type_or_constant
    type_or_constant_f = on_f _ (bind_f type_declaration_f (λ d. pure_f (λ ts us h. (_, types ts us h.0 h.1)))) subtype_or_constant_f

  attribute_or_type_f : LeadsTo (λ ts us. us ≡ ts) (attribute_or_type bound) (λ a. Some_of IsDeclaration)
  unfolding attribute_or_type
  attribute_or_type_f = on_f _ (bind_f attribute_specification_f (λ d. pure_f (λ ts us h. (_, IsDeclaration.attribute h.1))))
      (type_or_constant_f IsDeclaration (λ ts us d h. IsDeclaration.type_is h) (λ ts us d h. IsDeclaration.subtype_is h) (λ ts us d h. IsDeclaration.constant h))

  declaration_viable : Viable (declaration bound) IsDeclaration
  unfolding declaration
  declaration_viable = record {
    leads = on_f _ (bind_f (call_f object_declaration_viable) (λ d. pure_f (λ ts us h. (_, placed IsDeclaration h.1.1 (IsDeclaration.signal (IsSignal.declared h.2.1)))))) attribute_or_type_f;
  }

  process_declaration_viable : Viable (process_declaration bound) IsProcessDeclaration
  unfolding process_declaration
  process_declaration_viable = record {
    leads = on_f _ (bind_f (call_f object_declaration_viable) (λ d. pure_f (λ ts us h. (_, placed IsProcessDeclaration h.1.1 (IsProcessDeclaration.variable (IsVariable.declared h.2.1))))))
        (type_or_constant_f IsProcessDeclaration (λ ts us d h. IsProcessDeclaration.type_is h) (λ ts us d h. IsProcessDeclaration.subtype_is h) (λ ts us d h. IsProcessDeclaration.constant h));
  }

  pub declarations_viable : Viable (declarations bound) (Many IsDeclaration)
  unfolding declarations
  declarations_viable = many_viable bound spec.begins_declaration declaration_viable

  pub process_declarations_viable : Viable (process_declarations bound) (Many IsProcessDeclaration)
  unfolding process_declarations
  process_declarations_viable = many_viable bound spec.begins_process_declaration process_declaration_viable

  -- ---- generics and ports

  -- a colon, the word in where it stands, and then a subtype
  abbrev GenericSubtype : State → State
  GenericSubtype before ts us = (ws : List Token)
      × ((vs : List Token) × ((x : Span) × before ts (mark delimiter.Colon x ∷ vs)) × Some_of (IsOptional (kind.Word reserved.In)) vs ws) × Some_of IsSubtype ws us

  generic_subtype_f : {before : State} → LeadsTo before (generic_subtype bound) (λ s. GenericSubtype before)
  unfolding generic_subtype
  generic_subtype_f = bind_f (word_f _) (λ _. bind_f (call_f optional_viable) (λ way. call_f subtype_viable))

  generic_viable : Viable (generic bound) IsGeneric
  unfolding generic
  generic_viable = record {
    leads = bind_f (start_f optional_viable) (λ class. bind_f (call_f identifiers_viable) (λ names. bind_f generic_subtype_f (λ s. bind_f (call_f default_viable) (λ a.
        pure_f (λ ts us h. let named = h.1.1.1.1 in (_, IsGeneric.declared named.1.1 named.2.1 h.1.1.2.1 h.1.2.1 h.2.1))))));
  }

  generic_list_f : LeadsTo (λ ts us. (x : Span) × (word reserved.Generic x ∷ us ≡ ts)) (generic_list bound) (λ a. Some_of (IsInterface reserved.Generic IsGeneric))
  unfolding generic_list
  generic_list_f = bind_f (word_f _) (λ _. bind_f (call_f generic_viable) (λ first.
      bind_f (separated_f bound {other = λ ts us. (y : Span) × ((x : Span) × (word reserved.Generic x ∷ mark delimiter.LeftParen y ∷ us ≡ ts))} (first ∷ []) generic_viable (λ ts us h. (h.0, h.1, (_, Separated.several h.2.1 Preceded.none))))
      (λ all. bind_f (word_f _) (λ _. bind_f (word_f _) (λ _.
      pure_f (λ ts us h. (_, placed (IsInterface reserved.Generic IsGeneric) h.1.1.1.1.1 (IsInterface.present h.1.1.2.1))))))))

  generics_viable : Viable (generics bound) (IsInterface reserved.Generic IsGeneric)
  unfolding generics
  generics_viable = record { leads = on_f _ generic_list_f (pure_f (λ ts us h. (_, placed (IsInterface reserved.Generic IsGeneric) h IsInterface.absent))) }

  mode_viable : Viable (mode bound) IsMode
  unfolding mode
  mode_viable = record { leads = choose_f mode_of refl (λ m. pure_f (λ ts us h. (_, placed IsMode h.2 (IsMode.present h.3)))) (pure_f (λ ts us h. (_, placed IsMode h IsMode.absent))) }

  -- a colon, and then a mode
  abbrev PortMode : State → State
  PortMode before ts us = (ms : List Token) × ((x : Span) × before ts (mark delimiter.Colon x ∷ ms)) × Some_of IsMode ms us

  port_mode_f : {before : State} → LeadsTo before (port_mode bound) (λ m. PortMode before)
  unfolding port_mode
  port_mode_f = bind_f (word_f _) (λ _. call_f mode_viable)

  port_viable : Viable (port bound) IsPort
  unfolding port
  port_viable = record {
    leads = bind_f (start_f optional_viable) (λ class. bind_f (call_f identifiers_viable) (λ names. bind_f port_mode_f (λ m. bind_f (call_f subtype_viable) (λ s. bind_f (call_f default_viable) (λ a.
        pure_f (λ ts us h. let named = h.1.1.1.1 in (_, IsPort.declared named.1.1 named.2.1 h.1.1.2.1 h.1.2.1 h.2.1)))))));
  }

  port_list_f : LeadsTo (λ ts us. (x : Span) × (word reserved.Port x ∷ us ≡ ts)) (port_list bound) (λ a. Some_of (IsInterface reserved.Port IsPort))
  unfolding port_list
  port_list_f = bind_f (word_f _) (λ _. bind_f (call_f port_viable) (λ first.
      bind_f (separated_f bound {other = λ ts us. (y : Span) × ((x : Span) × (word reserved.Port x ∷ mark delimiter.LeftParen y ∷ us ≡ ts))} (first ∷ []) port_viable (λ ts us h. (h.0, h.1, (_, Separated.several h.2.1 Preceded.none))))
      (λ all. bind_f (word_f _) (λ _. bind_f (word_f _) (λ _.
      pure_f (λ ts us h. (_, placed (IsInterface reserved.Port IsPort) h.1.1.1.1.1 (IsInterface.present h.1.1.2.1))))))))

  ports_viable : Viable (ports bound) (IsInterface reserved.Port IsPort)
  unfolding ports
  ports_viable = record { leads = on_f _ port_list_f (pure_f (λ ts us h. (_, placed (IsInterface reserved.Port IsPort) h IsInterface.absent))) }

  -- ---- entities

  -- the words round the name of an entity
  abbrev Named : State
  Named ts us = (z : Span) × ((t : Token) × ((y : Span) × (t ≡ id y) × ((x : Span) × (word reserved.Entity x ∷ id y ∷ word reserved.Is z ∷ us ≡ ts))))

  entity_name_f : LeadsTo (λ ts us. us ≡ ts) (entity_name bound) (λ t. Named)
  unfolding entity_name
  entity_name_f = bind_f (word_f _) (λ _. bind_f (kept_f _) (λ t. bind_f (word_f _) (λ _. pure_f (λ ts us h. (h.0, (t, h.1))))))

  -- the end of an entity
  abbrev Ended : State → State
  Ended before ts us = (v : Span) × ((ws : List Token)
      × ((vs : List Token) × ((u : Span) × before ts (word reserved.End u ∷ vs)) × Some_of (IsOptional (kind.Word reserved.Entity)) vs ws)
      × Some_of (IsOptional kind.Identifier) ws (mark delimiter.Semicolon v ∷ us))

  entity_end_f : {before : State} → LeadsTo before (entity_end bound) (λ name. Ended before)
  unfolding entity_end
  entity_end_f = bind_f (word_f _) (λ _. bind_f (call_f optional_viable) (λ class. bind_f (call_f optional_viable) (λ name. bind_f (word_f _) (λ _. pure_f (λ ts us h. h)))))

  entity_rest_f : (line : ℕ) (t : Token) → LeadsTo Named (spec.entity_rest bound line t) (λ a. Some_of IsEntity)
  entity_rest_f line t = bind_f (call_f generics_viable) (λ gs. bind_f (call_f ports_viable) (λ ps. bind_f entity_end_f (λ end_name.
      pure_f (λ ts us h. let ends = h.1 in let interfaces = ends.1.1.1 in let named = interfaces.1.1.1.1 in (
        record { line = line_of ts; name = id named.0; generics = interfaces.1.2.0; ports = interfaces.2.0; end_name = ends.2.0 },
        subst (λ zs. IsEntity zs (record { line = line_of zs; name = id named.0; generics = interfaces.1.2.0; ports = interfaces.2.0; end_name = ends.2.0 }) us) named.2.1
            (IsEntity.declared interfaces.1.2.1 interfaces.2.1 ends.1.2.1 ends.2.1),
      )))))

  pub entity_viable : Viable (entity bound) IsEntity
  unfolding entity
  entity_viable = record { leads = on_line_f (spec.entity_at bound) (λ line. bind_f entity_name_f (entity_rest_f line)) }
