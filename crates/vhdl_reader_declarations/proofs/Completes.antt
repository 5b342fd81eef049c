-- Declarations and entities that stand there are read, unless a bound is used up.
use Rattle.std.proofs.Common.{◌≡◌, ℕ, ◌<◌, Bool, true, false, List, [], ◌∷◌, Option, Some, None, refl, ap, subst, arith}
use Rattle.vhdl_tokens.specs.declared.token.Kind.{Kind}
use Rattle.vhdl_tokens.specs.declared.token.Kind.TheVariants as kind
use Rattle.vhdl_tokens.specs.declared.token.Token.{Token}
use Rattle.vhdl_tokens.specs.declared.token.Delimiter.TheVariants as delimiter
use Rattle.vhdl_tokens.specs.declared.reserved.Reserved.{Reserved}
use Rattle.vhdl_tokens.specs.declared.reserved.Reserved.TheVariants as reserved
use Rattle.vhdl_tree.specs.declared.expressions.Expr.{Expr}
use Rattle.vhdl_tree.specs.declared.declarations.Subtype.{Subtype}
use Rattle.vhdl_tree.specs.declared.declarations.Mode.{Mode}
use Rattle.vhdl_tree.specs.declared.declarations.TypeDeclaration.{TypeDeclaration}
use Rattle.vhdl_tree.specs.declared.declarations.SubtypeDeclaration.{SubtypeDeclaration}
use Rattle.vhdl_tree.specs.declared.declarations.ConstantDeclaration.{ConstantDeclaration}
use Rattle.vhdl_tree.specs.declared.declarations.ObjectDeclaration.{ObjectDeclaration}
use Rattle.vhdl_tree.specs.declared.declarations.Declaration.{Declaration}
use Rattle.vhdl_tree.specs.declared.declarations.Declaration.TheVariants as a_declaration
use Rattle.vhdl_tree.specs.declared.units.Generic.{Generic}
use Rattle.vhdl_tree.specs.declared.units.Port.{Port}
use Rattle.vhdl_tree.specs.declared.units.Entity.{Entity}
use Rattle.vhdl_tree.specs.Words.{Span, tok, id, word, mark, kind_of, line_of}
use Rattle.vhdl_tree.specs.Lists.{Many, Separated, Preceded, Perhaps, IsToken, IsOptional}
use Rattle.vhdl_tree.specs.Expressions.{Expression, direction_of}
use Rattle.vhdl_tree.specs.Declarations.{mode_of, Identifiers, Default, IsSubtype, IsEnumerationLiteral, IsType, IsSubtypeDeclaration, IsConstant, IsObject, IsSignal, IsVariable, IsAttribute, IsDeclaration, IsProcessDeclaration, IsGeneric, IsMode, IsPort, IsInterface, IsEntity}
use Rattle.vhdl_reader_expressions.specs.Kinds.{same, same_word, same_delimiter}
use Rattle.vhdl_reader_expressions.specs.Steps.{Parser, Found, ◌>>=◌, pure, sees, token}
use Rattle.vhdl_reader_expressions.proofs.NextToken.{not_seen}
use Rattle.vhdl_reader_expressions.proofs.Complete.{Reaches, Complete, Anything, bind_up, pure_up, on_hit, on_miss, choose_hit, choose_miss, look_up, on_line_up, word_up, token_up, token_is, optional_up, perhaps_up, many_up, preceded_ends, preceded_up, separated_up}
use Rattle.vhdl_reader_expressions.specs.Reading.{is_range_word}
use Rattle.vhdl_reader_expressions.proofs.Follow.{rank}
use Rattle.vhdl_reader_expressions.proofs.Reached.{expression_reached, bounds_reached}
use Rattle.vhdl_reader_declarations.specs.Reading as spec
use Rattle.vhdl_reader_declarations.specs.Reading.{identifiers, default, range_constraint, index_constraint, subtype_after, subtype, typed, literal, literals, type_declaration, subtype_declaration, given, constant_declaration, object_declaration, attributed, attribute_specification, constant, subtype_or_constant, type_or_constant, attribute_or_type, declaration, process_declaration, declarations, process_declarations, generic_subtype, generic, generic_list, generics, mode, port_mode, port, port_list, ports, entity_name, entity_end, entity}

-- ---- what may follow

abbrev pub is_assign : Option Kind → Bool
is_assign (Some (kind.Delimiter delimiter.Assign)) = true
is_assign _ = false

-- behind a subtype
pub record EndsSubtype (k : Option Kind) : Type 0 where
  pub below : rank k < 3
  pub undirected : direction_of k ≡ None
  pub unranged : is_range_word k ≡ false

-- behind a declaration of generics or ports, and the subtype and value in it
pub record EndsDefault (k : Option Kind) : Type 0 where
  pub below : rank k < 1
  pub undirected : direction_of k ≡ None
  pub unranged : is_range_word k ≡ false
  pub unassigned : is_assign k ≡ false

no_range : (us : List Token) → EndsSubtype (kind_of us) → sees (kind.Word reserved.Range) us ≡ false
no_range us h = not_seen EndsSubtype _ us (λ e. let q = e.unranged in cc) h

no_bracket : (us : List Token) → EndsSubtype (kind_of us) → sees (kind.Delimiter delimiter.LeftParen) us ≡ false
no_bracket us h = not_seen EndsSubtype _ us (λ e. let r = e.below in omega (arith, r)) h

no_assign : (us : List Token) → EndsDefault (kind_of us) → sees (kind.Delimiter delimiter.Assign) us ≡ false
no_assign us h = not_seen EndsDefault _ us (λ e. let q = e.unassigned in cc) h

-- a value begins with its delimiter
default_ends : {ts us : List Token} {a : Option Expr} → Default ts a us → EndsDefault (kind_of us) → EndsSubtype (kind_of ts)
default_ends Perhaps.absent h = record { below = omega (arith, h.below); undirected = h.undirected; unranged = h.unranged }
default_ends (Perhaps.present r) h = record { below = omega arith; undirected = refl; unranged = refl }

-- ---- what begins with an identifier

token_starts : {k : Kind} {ts us : List Token} {t : Token} → IsToken k ts t us → kind_of ts ≡ Some k
token_starts IsToken.single = refl

identifiers_start : {ts us names : List Token} → Identifiers ts names us → kind_of ts ≡ Some kind.Identifier
identifiers_start (Separated.several r rest) = token_starts r

subtype_starts : {ts us : List Token} {s : Subtype} → IsSubtype ts s us → kind_of ts ≡ Some kind.Identifier
subtype_starts IsSubtype.plain = refl
subtype_starts (IsSubtype.range r) = refl
subtype_starts (IsSubtype.index r) = refl

-- so no word stands there
no_word : (w : Reserved) (ts : List Token) → kind_of ts ≡ Some kind.Identifier → sees (kind.Word w) ts ≡ false
no_word w ts h = not_seen (λ k. k ≡ Some kind.Identifier) _ ts (λ e. cc) h

-- nor does it where a name may be left out
unnamed : (w : Reserved) {ts us : List Token} {name : Option Token} → IsOptional kind.Identifier ts name us → sees (kind.Word w) us ≡ false → sees (kind.Word w) ts ≡ false
unfolding same
unnamed w IsOptional.absent last = last
unnamed w IsOptional.present last = refl

module _ (bound : ℕ) where
  -- ---- what the readers of declarations take

  abbrev as_type : Parser Declaration
  as_type = do d ← type_declaration bound; pure (a_declaration.Type d)

  abbrev as_subtype : Parser Declaration
  as_subtype = do d ← subtype_declaration bound; pure (a_declaration.Subtype d)

  abbrev as_signal : Parser Declaration
  as_signal = do d ← object_declaration bound; pure (a_declaration.Signal d)

  abbrev as_variable : Parser Declaration
  as_variable = do d ← object_declaration bound; pure (a_declaration.Variable d)

  abbrev as_attribute : Parser Declaration
  as_attribute = do d ← attribute_specification bound; pure (a_declaration.Attribute d)

  -- ---- subtypes

  token_complete : (k : Kind) → Complete Anything (token k) (IsToken k)
  token_complete k = record { reads = λ r h. token_is r }

  pub identifiers_up : {ts us names : List Token} → Identifiers ts names us → sees (kind.Delimiter delimiter.Comma) us ≡ false → Reaches (identifiers bound) ts (Found names us)
  unfolding identifiers
  identifiers_up list last = separated_up bound (token_complete kind.Identifier) tt list tt last

  default_up : {ts us : List Token} {a : Option Expr} → Default ts a us → EndsDefault (kind_of us) → Reaches (default bound) ts (Found a us)
  unfolding default
  default_up {us = us} r h = perhaps_up (expression_reached bound) r (record { below = h.below }) (no_assign us h)

  pub subtype_up : {ts us : List Token} {s : Subtype} → IsSubtype ts s us → EndsSubtype (kind_of us) → Reaches (subtype bound) ts (Found s us)
  unfolding subtype subtype_after range_constraint index_constraint same
  subtype_up {us = us} (IsSubtype.plain {x = x}) h = bind_up _ (token_up _) (on_miss _ (range_constraint bound (id x)) _ (no_range us h) (on_miss _ (index_constraint bound (id x)) _ (no_bracket us h) pure_up))
  subtype_up (IsSubtype.range r) h = bind_up _ (token_up _) (on_hit _ _ _ (bind_up _ ((bounds_reached bound).reads r (record { below = h.below; undirected = h.undirected })) pure_up))
  subtype_up (IsSubtype.index {x = x} r) h = bind_up _ (token_up _) (on_miss _ (range_constraint bound (id x)) _ refl (on_hit _ _ _
      (bind_up _ ((bounds_reached bound).reads r (record { below = omega arith; undirected = refl })) (bind_up _ (word_up _) pure_up))))

  typed_up : {ts us : List Token} {s : Subtype} {x : Span} → IsSubtype ts s us → EndsSubtype (kind_of us) → Reaches (typed bound) (mark delimiter.Colon x ∷ ts) (Found s us)
  unfolding typed
  typed_up r h = bind_up _ (word_up _) (subtype_up r h)

  -- ---- types

  literal_up : {ts us : List Token} {t : Token} → IsEnumerationLiteral ts t us → Reaches (literal bound) ts (Found t us)
  unfolding literal
  literal_up IsEnumerationLiteral.identifier = look_up spec.is_character (spec.literal_by bound) refl (token_up _)
  literal_up IsEnumerationLiteral.character = look_up spec.is_character (spec.literal_by bound) refl (token_up _)

  literal_complete : Complete Anything (literal bound) IsEnumerationLiteral
  literal_complete = record { reads = λ r h. literal_up r }

  literals_up : {ts ms us all : List Token} {x y : Span} → Separated (kind.Delimiter delimiter.Comma) IsEnumerationLiteral ts all ms → ms ≡ mark delimiter.RightParen y ∷ us
      → Reaches (literals bound) (mark delimiter.LeftParen x ∷ ts) (Found all us)
  unfolding literals same same_delimiter
  literals_up (Separated.several {us = behind} {a = first} {all = rest} r list) e =
      bind_up _ (word_up _) (bind_up _ (literal_up r)
      (bind_up _ (preceded_up bound (first ∷ []) literal_complete tt (subst (λ xs. Preceded (kind.Delimiter delimiter.Comma) IsEnumerationLiteral behind rest xs) e list) tt refl)
      (bind_up _ (word_up _) pure_up)))

  type_up : {ts us : List Token} {d : TypeDeclaration} → IsType ts d us → Reaches (type_or_constant bound) ts (Found (a_declaration.Type d) us)
  unfolding type_or_constant type_declaration
  type_up (IsType.enumeration list) =
      on_hit _ _ _ (bind_up _ (bind_up _ (token_up _) (bind_up _ (word_up _) (bind_up _ (literals_up list refl) (bind_up _ (word_up _) pure_up)))) pure_up)

  subtype_declaration_up : {ts us : List Token} {d : SubtypeDeclaration} → IsSubtypeDeclaration ts d us → Reaches (type_or_constant bound) ts (Found (a_declaration.Subtype d) us)
  unfolding type_or_constant subtype_or_constant subtype_declaration same same_word
  subtype_declaration_up (IsSubtypeDeclaration.declared r) = on_miss _ as_type _ refl (on_hit _ _ _
      (bind_up _ (bind_up _ (token_up _) (bind_up _ (word_up _) (bind_up _ (subtype_up r (record { below = omega arith; undirected = refl; unranged = refl })) (bind_up _ (word_up _) pure_up)))) pure_up))

  -- ---- objects and attributes

  given_up : {ts us : List Token} {a : Expr} {x y : Span} → Expression ts a (mark delimiter.Semicolon y ∷ us) → Reaches (given bound) (mark delimiter.Assign x ∷ ts) (Found a us)
  unfolding given
  given_up r = bind_up _ (word_up _) (bind_up _ ((expression_reached bound).reads r (record { below = omega arith })) (bind_up _ (word_up _) pure_up))

  constant_up : {ts us : List Token} {d : ConstantDeclaration} → IsConstant ts d us → Reaches (type_or_constant bound) ts (Found (a_declaration.Constant d) us)
  unfolding type_or_constant subtype_or_constant constant constant_declaration same same_word same_delimiter
  constant_up (IsConstant.declared list r a) = on_miss _ as_type _ refl (on_miss _ as_subtype _ refl (on_hit _ _ _
      (bind_up _ (bind_up _ (identifiers_up list refl) (bind_up _ (typed_up r (record { below = omega arith; undirected = refl; unranged = refl })) (bind_up _ (given_up a) pure_up))) pure_up)))

  object_up : {ts us : List Token} {d : ObjectDeclaration} → IsObject ts d us → Reaches (object_declaration bound) ts (Found d us)
  unfolding object_declaration same same_delimiter
  object_up (IsObject.declared list r a) =
      let ends : EndsDefault (Some (kind.Delimiter delimiter.Semicolon)) = record { below = omega arith; undirected = refl; unranged = refl; unassigned = refl } in
      bind_up _ (identifiers_up list refl) (bind_up _ (typed_up r (default_ends a ends)) (bind_up _ (default_up a ends) (bind_up _ (word_up _) pure_up)))

  attribute_up : {ts us : List Token} {y z u v w t s : Span} {a : Expr} → Expression ts a (mark delimiter.Semicolon s ∷ us)
      → Reaches (attribute_specification bound) (id y ∷ word reserved.Of z ∷ id u ∷ mark delimiter.Colon v ∷ word reserved.Architecture w ∷ word reserved.Is t ∷ ts)
      (Found (record { attribute = id y; architecture = id u; value = a }) us)
  unfolding attribute_specification attributed
  attribute_up r = bind_up _ (token_up _) (bind_up _ (bind_up _ (word_up _) (bind_up _ (token_up _) (bind_up _ (word_up _) (bind_up _ (word_up _) pure_up))))
      (bind_up _ (word_up _) (bind_up _ ((expression_reached bound).reads r (record { below = omega arith })) (bind_up _ (word_up _) pure_up))))

  -- ---- declarations

  declaration_up : {ts us : List Token} {d : Declaration} → IsDeclaration ts d us → Reaches (declaration bound) ts (Found d us)
  unfolding declaration attribute_or_type same same_word
  declaration_up (IsDeclaration.type_is (IsType.enumeration list)) = on_miss _ as_signal _ refl (on_miss _ as_attribute _ refl (type_up (IsType.enumeration list)))
  declaration_up (IsDeclaration.subtype_is (IsSubtypeDeclaration.declared r)) = on_miss _ as_signal _ refl (on_miss _ as_attribute _ refl (subtype_declaration_up (IsSubtypeDeclaration.declared r)))
  declaration_up (IsDeclaration.constant (IsConstant.declared list r a)) = on_miss _ as_signal _ refl (on_miss _ as_attribute _ refl (constant_up (IsConstant.declared list r a)))
  declaration_up (IsDeclaration.signal (IsSignal.declared r)) = on_hit _ _ _ (bind_up _ (object_up r) pure_up)
  declaration_up (IsDeclaration.attribute (IsAttribute.specified r)) = on_miss _ as_signal _ refl (on_hit _ _ _ (bind_up _ (attribute_up r) pure_up))

  declaration_starts : (ts us : List Token) (d : Declaration) → IsDeclaration ts d us → spec.begins_declaration (kind_of ts) ≡ true
  declaration_starts ts us d (IsDeclaration.type_is (IsType.enumeration list)) = refl
  declaration_starts ts us d (IsDeclaration.subtype_is (IsSubtypeDeclaration.declared r)) = refl
  declaration_starts ts us d (IsDeclaration.constant (IsConstant.declared list r a)) = refl
  declaration_starts ts us d (IsDeclaration.signal (IsSignal.declared r)) = refl
  declaration_starts ts us d (IsDeclaration.attribute (IsAttribute.specified r)) = refl

  declaration_complete : Complete Anything (declaration bound) IsDeclaration
  declaration_complete = record { reads = λ r h. declaration_up r }

  pub declarations_complete : Complete (λ k. spec.begins_declaration k ≡ false) (declarations bound) (Many IsDeclaration)
  unfolding declarations
  declarations_complete = record { reads = λ list last. many_up bound spec.begins_declaration [] declaration_complete declaration_starts (λ k e. tt) list tt last }

  process_declaration_up : {ts us : List Token} {d : Declaration} → IsProcessDeclaration ts d us → Reaches (process_declaration bound) ts (Found d us)
  unfolding process_declaration same same_word
  process_declaration_up (IsProcessDeclaration.variable (IsVariable.declared r)) = on_hit _ _ _ (bind_up _ (object_up r) pure_up)
  process_declaration_up (IsProcessDeclaration.constant (IsConstant.declared list r a)) = on_miss _ as_variable _ refl (constant_up (IsConstant.declared list r a))
  process_declaration_up (IsProcessDeclaration.type_is (IsType.enumeration list)) = on_miss _ as_variable _ refl (type_up (IsType.enumeration list))
  process_declaration_up (IsProcessDeclaration.subtype_is (IsSubtypeDeclaration.declared r)) = on_miss _ as_variable _ refl (subtype_declaration_up (IsSubtypeDeclaration.declared r))

  process_declaration_starts : (ts us : List Token) (d : Declaration) → IsProcessDeclaration ts d us → spec.begins_process_declaration (kind_of ts) ≡ true
  process_declaration_starts ts us d (IsProcessDeclaration.variable (IsVariable.declared r)) = refl
  process_declaration_starts ts us d (IsProcessDeclaration.constant (IsConstant.declared list r a)) = refl
  process_declaration_starts ts us d (IsProcessDeclaration.type_is (IsType.enumeration list)) = refl
  process_declaration_starts ts us d (IsProcessDeclaration.subtype_is (IsSubtypeDeclaration.declared r)) = refl

  process_declaration_complete : Complete Anything (process_declaration bound) IsProcessDeclaration
  process_declaration_complete = record { reads = λ r h. process_declaration_up r }

  pub process_declarations_complete : Complete (λ k. spec.begins_process_declaration k ≡ false) (process_declarations bound) (Many IsProcessDeclaration)
  unfolding process_declarations
  process_declarations_complete = record { reads = λ list last. many_up bound spec.begins_process_declaration [] process_declaration_complete process_declaration_starts (λ k e. tt) list tt last }

  -- ---- generics and ports

  semicolon_ends : EndsDefault (Some (kind.Delimiter delimiter.Semicolon))
  semicolon_ends = record { below = omega arith; undirected = refl; unranged = refl; unassigned = refl }

  bracket_ends : EndsDefault (Some (kind.Delimiter delimiter.RightParen))
  bracket_ends = record { below = omega arith; undirected = refl; unranged = refl; unassigned = refl }

  generic_up : {ts us : List Token} {g : Generic} → IsGeneric ts g us → EndsDefault (kind_of us) → Reaches (generic bound) ts (Found g us)
  unfolding generic generic_subtype same same_delimiter
  generic_up (IsGeneric.declared {us = us} {ws = ws} class list way r a) h =
      bind_up _ (optional_up class (no_word reserved.Constant us (identifiers_start list))) (bind_up _ (identifiers_up list refl)
      (bind_up _ (bind_up _ (word_up _) (bind_up _ (optional_up way (no_word reserved.In ws (subtype_starts r))) (subtype_up r (default_ends a h))))
      (bind_up _ (default_up a h) pure_up)))

  generic_complete : Complete EndsDefault (generic bound) IsGeneric
  generic_complete = record { reads = generic_up }

  generic_list_up : {ts ms us : List Token} {all : List Generic} {x y z : Span} → Separated (kind.Delimiter delimiter.Semicolon) IsGeneric ts all ms
      → ms ≡ mark delimiter.RightParen y ∷ mark delimiter.Semicolon z ∷ us → Reaches (generic_list bound) (mark delimiter.LeftParen x ∷ ts) (Found all us)
  unfolding generic_list same same_delimiter
  generic_list_up (Separated.several {us = behind} {a = first} {all = rest} r some) e =
      let list = subst (λ xs. Preceded (kind.Delimiter delimiter.Semicolon) IsGeneric behind rest xs) e some in
      bind_up _ (word_up _) (bind_up _ (generic_up r (preceded_ends EndsDefault semicolon_ends list bracket_ends))
      (bind_up _ (preceded_up bound (first ∷ []) generic_complete semicolon_ends list bracket_ends refl)
      (bind_up _ (word_up _) (bind_up _ (word_up _) pure_up))))

  generics_up : {ts us : List Token} {all : List Generic} → IsInterface reserved.Generic IsGeneric ts all us → sees (kind.Word reserved.Generic) us ≡ false → Reaches (generics bound) ts (Found all us)
  unfolding generics
  generics_up IsInterface.absent last = on_miss _ (generic_list bound) _ last pure_up
  generics_up (IsInterface.present list) last = on_hit _ _ _ (generic_list_up list refl)

  mode_up : {ts us : List Token} {m : Mode} → IsMode ts m us → kind_of us ≡ Some kind.Identifier → Reaches (mode bound) ts (Found m us)
  unfolding mode
  mode_up IsMode.absent e = choose_miss mode_of _ _ (ap mode_of e) pure_up
  mode_up (IsMode.present is) e = choose_hit mode_of _ _ is pure_up

  port_up : {ts us : List Token} {p : Port} → IsPort ts p us → EndsDefault (kind_of us) → Reaches (port bound) ts (Found p us)
  unfolding port port_mode same same_delimiter
  port_up (IsPort.declared {us = us} class list m r a) h =
      bind_up _ (optional_up class (no_word reserved.Signal us (identifiers_start list))) (bind_up _ (identifiers_up list refl)
      (bind_up _ (bind_up _ (word_up _) (mode_up m (subtype_starts r))) (bind_up _ (subtype_up r (default_ends a h)) (bind_up _ (default_up a h) pure_up))))

  port_complete : Complete EndsDefault (port bound) IsPort
  port_complete = record { reads = port_up }

  port_list_up : {ts ms us : List Token} {all : List Port} {x y z : Span} → Separated (kind.Delimiter delimiter.Semicolon) IsPort ts all ms
      → ms ≡ mark delimiter.RightParen y ∷ mark delimiter.Semicolon z ∷ us → Reaches (port_list bound) (mark delimiter.LeftParen x ∷ ts) (Found all us)
  unfolding port_list same same_delimiter
  port_list_up (Separated.several {us = behind} {a = first} {all = rest} r some) e =
      let list = subst (λ xs. Preceded (kind.Delimiter delimiter.Semicolon) IsPort behind rest xs) e some in
      bind_up _ (word_up _) (bind_up _ (port_up r (preceded_ends EndsDefault semicolon_ends list bracket_ends))
      (bind_up _ (preceded_up bound (first ∷ []) port_complete semicolon_ends list bracket_ends refl)
      (bind_up _ (word_up _) (bind_up _ (word_up _) pure_up))))

  ports_up : {ts us : List Token} {all : List Port} → IsInterface reserved.Port IsPort ts all us → sees (kind.Word reserved.Port) us ≡ false → Reaches (ports bound) ts (Found all us)
  unfolding ports
  ports_up IsInterface.absent last = on_miss _ (port_list bound) _ last pure_up
  ports_up (IsInterface.present list) last = on_hit _ _ _ (port_list_up list refl)

  -- ---- entities

  no_generics : {ts us : List Token} {all : List Port} → IsInterface reserved.Port IsPort ts all us → sees (kind.Word reserved.Generic) us ≡ false → sees (kind.Word reserved.Generic) ts ≡ false
  unfolding same same_word
  no_generics IsInterface.absent last = last
  no_generics (IsInterface.present list) last = refl

  entity_up : {ts us : List Token} {e : Entity} → IsEntity ts e us → Reaches (entity bound) ts (Found e us)
  unfolding entity entity_name entity_end same same_word same_delimiter
  entity_up (IsEntity.declared gs ps class name) = on_line_up (spec.entity_at bound)
      (bind_up _ (bind_up _ (word_up _) (bind_up _ (token_up _) (bind_up _ (word_up _) pure_up)))
      (bind_up _ (generics_up gs (no_generics ps refl)) (bind_up _ (ports_up ps refl)
      (bind_up _ (bind_up _ (word_up _) (bind_up _ (optional_up class (unnamed reserved.Entity name refl)) (bind_up _ (optional_up name refl) (bind_up _ (word_up _) pure_up)))) pure_up))))

  pub entity_complete : Complete Anything (entity bound) IsEntity
  entity_complete = record { reads = λ r h. entity_up r }
