-- What a reader of concurrent statements finds is so by the grammar.
use Rattle.std.proofs.Common.{◌≡◌, ℕ, zero, suc, Bool, true, false, List, [], ◌∷◌, ◌++◌, Option, Some, None, refl, sym, subst}
use Rattle.vhdl_tokens.specs.declared.token.Kind.TheVariants as kind
use Rattle.vhdl_tokens.specs.declared.token.Token.{Token}
use Rattle.vhdl_tokens.specs.declared.token.Delimiter.TheVariants as delimiter
use Rattle.vhdl_tokens.specs.declared.reserved.Reserved.{Reserved}
use Rattle.vhdl_tokens.specs.declared.reserved.Reserved.TheVariants as reserved
use Rattle.vhdl_tree.specs.declared.expressions.Expr.{Expr}
use Rattle.vhdl_tree.specs.declared.expressions.Name.{Name}
use Rattle.vhdl_tree.specs.declared.units.Sensitivity.{Sensitivity}
use Rattle.vhdl_tree.specs.declared.units.Alternative.{Alternative}
use Rattle.vhdl_tree.specs.declared.units.Actual.{Actual}
use Rattle.vhdl_tree.specs.Words.{Span, id, word, mark, kind_of, line_of}
use Rattle.vhdl_tree.specs.Lists.{Many, Preceded, Separated, Perhaps, IsOptional}
use Rattle.vhdl_tree.specs.Expressions.{Expression, NameOf}
use Rattle.vhdl_tree.specs.Statements.{StatementsOf}
use Rattle.vhdl_tree.specs.Units.{IsPostponed, IsSensitivity, IsProcess, IsAlternative, IsConcurrentAssignment, IsFormal, IsActual, IsAssociation, IsAssociations, IsMap, IsLibrary, IsArchitectureName, IsInstantiation, IsLabel, IsConcurrent}
use Rattle.vhdl_reader_expressions.proofs.Sound.{Triple, Sound, start_t, call_t, bind_t, pure_t, spent_t, on_t, on_line_start, word_t, token_t, before_t, after_t, frame_t, placed, look_t, optional_sound}
use Rattle.vhdl_reader_expressions.proofs.SoundLists.{many_snoc, preceded_loop, separated_snoc}
use Rattle.vhdl_reader_expressions.proofs.Read.{expression_read, name_from_read}
use Rattle.vhdl_reader_statements.proofs.Read.{delay_read, waveform_read, names_read, statements_read}
use Rattle.vhdl_reader.specs.declared.assignments.Conditions.{Conditions}
use Rattle.vhdl_reader_declarations.proofs.Sounds.{process_declarations_sound}
use Rattle.vhdl_reader.specs.Reading as spec
use Rattle.vhdl_reader.specs.Reading.{formal_of, sensitivity_names, sensitivity_all, sensitivity_list, sensitivity, process_head, process_end, process, conditions_from, assignment_to, assignment_from, assignment, actual, named_actual, association_after, association_from, open_association, association, associations, map_list, map_of, bracketed_identifier, architecture_name, instance_of, instance_in, instance_after, instance, process_or_assignment, body, labelled, named_after, named, unlabelled, concurrent}
use Rattle.vhdl_reader.proofs.BareNames.{IsBare, formal_found, formal_unfound}
use Rattle.vhdl_reader.proofs.Bodies.{IsBodyOf, IsBody, IsLabelled, body_is, labelled_is, plain_is}

-- a sensitivity list, and the word behind it
abbrev pub Head : List Token → Sensitivity → List Token → Type 0
Head ts s us = (vs : List Token) × (t : Option Token) × IsSensitivity ts s vs × IsOptional (kind.Word reserved.Is) vs t us

-- the end of a process
pub record End (ts : List Token) (name : Option Token) (us : List Token) : Type 0 where
  pub xs : List Token
  pub ys : List Token
  pub first : Span
  pub class : Span
  pub last : Span
  pub postponed : Option Token
  pub stands : ts ≡ word reserved.End first ∷ xs
  pub again : IsOptional (kind.Word reserved.Postponed) xs postponed (word reserved.Process class ∷ ys)
  pub named : IsOptional kind.Identifier ys name (mark delimiter.Semicolon last ∷ us)

-- alternatives, and a condition behind them
abbrev pub ConditionsOf : List Token → Conditions → List Token → Type 0
ConditionsOf ts c us = (vs : List Token) × Many IsAlternative ts c.alternatives vs × Perhaps (kind.Word reserved.When) Expression vs c.condition us

-- an association by a bare identifier
pub named_is : {ts us vs : List Token} {y : Span} {t : Token} {a : Actual} → IsBare ts (mark delimiter.Arrow y ∷ us) t → IsActual us a vs
    → IsAssociation ts (record { formal = Some t; actual = a }) vs
named_is {ts = ts} {us = us} b r = IsAssociation.associated (subst (λ t. IsFormal ts (Some t) us) (sym b.token) (placed IsFormal b.stands IsFormal.present)) r

module _ (bound : ℕ) where
  -- ---- processes

  sensitivity_names_t : (ts : List Token) → Triple (λ us. (x : Span) × (mark delimiter.LeftParen x ∷ us ≡ ts)) (sensitivity_names bound) (IsSensitivity ts)
  unfolding sensitivity_names
  sensitivity_names_t ts = bind_t (call_t (names_read bound)) (λ all. bind_t (word_t _) (λ _. pure_t (λ us h. placed IsSensitivity h.1.1.1 (IsSensitivity.names h.1.2))))

  sensitivity_all_t : (ts : List Token) → Triple (λ us. (y : Span) × (x : Span) × (mark delimiter.LeftParen x ∷ word reserved.All y ∷ us ≡ ts)) (sensitivity_all bound) (IsSensitivity ts)
  unfolding sensitivity_all
  sensitivity_all_t ts = bind_t (word_t _) (λ _. pure_t (λ us h. placed IsSensitivity h.1.2 IsSensitivity.all))

  sensitivity_list_t : (ts : List Token) → Triple (λ us. (x : Span) × (mark delimiter.LeftParen x ∷ us ≡ ts)) (sensitivity_list bound) (IsSensitivity ts)
  unfolding sensitivity_list
  sensitivity_list_t ts = on_t _ (before_t (λ us h. (h.0, h.1.0, h.1.1)) (sensitivity_all_t ts)) (sensitivity_names_t ts)

  sensitivity_sound : Sound (sensitivity bound) IsSensitivity
  unfolding sensitivity
  sensitivity_sound = record { from = λ ts. on_t _ (sensitivity_list_t ts) (pure_t (λ us h. placed IsSensitivity h IsSensitivity.unlisted)) }

  process_head_sound : Sound (process_head bound) Head
  unfolding process_head
  process_head_sound = record { from = λ ts. bind_t (start_t sensitivity_sound) (λ s. bind_t (call_t optional_sound) (λ t. pure_t (λ us h. (h.0, t, h.1, h.2)))) }

  process_end_sound : Sound (process_end bound) End
  unfolding process_end
  process_end_sound = record {
    from = λ ts. bind_t (word_t _) (λ _. bind_t (call_t optional_sound) (λ again. bind_t (word_t _) (λ _. bind_t (call_t optional_sound) (λ name. bind_t (word_t _) (λ _.
        pure_t (λ us h. record { xs = h.1.1.1.0; ys = h.1.0; first = h.1.1.1.1.0; class = h.1.1.0; last = h.0; postponed = again; stands = sym h.1.1.1.1.1; again = h.1.1.1.2; named = h.1.2 }))))));
  }

  process_t : (postponed : Bool) (ts : List Token) → Triple (λ us. (x : Span) × (word reserved.Process x ∷ us ≡ ts)) (process bound postponed) (IsBodyOf postponed ts)
  unfolding process
  process_t postponed ts = bind_t (call_t process_head_sound) (λ s. bind_t (call_t (process_declarations_sound bound)) (λ ds. bind_t (word_t _) (λ _.
      bind_t (call_t (statements_read bound)) (λ all. bind_t (call_t process_end_sound) (λ end_name. pure_t (λ us h. placed (IsBodyOf postponed) h.1.1.1.1.1.1
      (IsBodyOf.process (IsProcess.process h.1.1.1.1.2.2 h.1.1.1.1.2.3 h.1.1.1.2 (subst (StatementsOf h.1.0 all) h.2.stands h.1.2) h.2.again h.2.named))))))))

  -- ---- concurrent assignments

  conditions_t : (ts : List Token) (n : ℕ) (found : List Alternative) → Triple (Many IsAlternative ts found) (conditions_from bound n found) (ConditionsOf ts)
  unfolding conditions_from
  conditions_t ts zero found = spent_t
  conditions_t ts (suc n) found = on_t _ (bind_t (call_t (expression_read bound)) (λ a. on_t _
      (bind_t (call_t (waveform_read bound)) (λ w. before_t (λ us h. many_snoc h.1.1.1.1 (IsAlternative.otherwise h.1.1.2 h.2)) (conditions_t ts n (found ++ record { condition = a; otherwise = w } ∷ []))))
      (pure_t (λ us h. (word reserved.When h.1.0 ∷ h.0, h.1.1, Perhaps.present h.2)))))
      (pure_t (λ us h. (us, h, Perhaps.absent)))

  conditions_sound : Sound (spec.conditions bound []) ConditionsOf
  conditions_sound = record { from = λ ts. before_t (λ us h. placed (Many IsAlternative) h Many.none) (conditions_t ts bound []) }

  assignment_to_t : (postponed : Bool) (ts : List Token) (target : Name) → Triple (NameOf ts target) (assignment_to bound postponed target) (IsBodyOf postponed ts)
  unfolding assignment_to
  assignment_to_t postponed ts target = bind_t (word_t _) (λ _. bind_t (call_t (delay_read bound)) (λ d. bind_t (call_t (waveform_read bound)) (λ first.
      bind_t (call_t conditions_sound) (λ c. bind_t (word_t _) (λ _. pure_t (λ us h. IsBodyOf.assignment
      (IsConcurrentAssignment.assigned h.1.1.1.1.1 h.1.1.1.2 h.1.1.2 h.1.2.1 h.1.2.2)))))))

  assignment_from_t : (postponed : Bool) (ts : List Token) (x : Span) → Triple (λ us. id x ∷ us ≡ ts) (assignment_from bound postponed (id x)) (IsBodyOf postponed ts)
  unfolding assignment_from
  assignment_from_t postponed ts x = bind_t (name_from_read bound ts x) (λ target. assignment_to_t postponed ts target)

  assignment_sound : (postponed : Bool) → Sound (assignment bound postponed) (IsBodyOf postponed)
  unfolding assignment
  assignment_sound postponed = record { from = λ ts. token_t _ _ (λ x. assignment_from_t postponed ts x) }

  -- ---- associations

  actual_by_t : (ts : List Token) (b : Bool) → Triple (λ us. (us ≡ ts) × (spec.is_open (kind_of us) ≡ b)) (spec.actual_by bound b) (IsActual ts)
  actual_by_t ts true = token_t _ _ (λ x. pure_t (λ us h. placed IsActual h.0 IsActual.open_))
  actual_by_t ts false = bind_t (before_t (λ us h. h.0) (start_t (expression_read bound))) (λ a. pure_t (λ us h. IsActual.value h))

  actual_sound : Sound (actual bound) IsActual
  unfolding actual
  actual_sound = record { from = λ ts. look_t spec.is_open (spec.actual_by bound) (actual_by_t ts) }

  named_actual_t : (ts : List Token) (t : Token) → Triple (λ us. (y : Span) × IsBare ts (mark delimiter.Arrow y ∷ us) t) (named_actual bound t) (IsAssociation ts)
  unfolding named_actual
  named_actual_t ts t = bind_t (call_t actual_sound) (λ a. pure_t (λ us h. named_is h.1.1 h.2))

  associated_t : (ts : List Token) (a : Expr) (formal : Option Token)
      → Triple (λ us. Expression ts a us × ((t : Token) → formal ≡ Some t → IsBare ts us t)) (spec.associated bound formal a) (IsAssociation ts)
  associated_t ts a (Some t) = on_t _ (before_t (λ us h. (h.0, h.1.1 t refl)) (named_actual_t ts t)) (pure_t (λ us h. IsAssociation.associated IsFormal.absent (IsActual.value h.0)))
  associated_t ts a None = pure_t (λ us h. IsAssociation.associated IsFormal.absent (IsActual.value h.0))

  formal_is : (ts us : List Token) (a : Expr) (is_named : Bool) → Expression ts a us → spec.is_identifier (kind_of ts) ≡ is_named → (t : Token) → formal_of is_named a ≡ Some t → IsBare ts us t
  formal_is ts us a true r begins t e = formal_found ts us a t r begins e
  formal_is ts us a false r begins t e = absurd (formal_unfound a t e)

  association_after_t : (ts : List Token) (a : Expr) (is_named : Bool)
      → Triple (λ us. Expression ts a us × (spec.is_identifier (kind_of ts) ≡ is_named)) (association_after bound is_named a) (IsAssociation ts)
  unfolding association_after
  association_after_t ts a is_named = before_t (λ us h. (h.0, formal_is ts us a is_named h.0 h.1)) (associated_t ts a (formal_of is_named a))

  association_from_t : (ts : List Token) (is_named : Bool) → Triple (λ us. (us ≡ ts) × (spec.is_identifier (kind_of us) ≡ is_named)) (association_from bound is_named) (IsAssociation ts)
  unfolding association_from
  association_from_t ts is_named = bind_t (before_t (λ us h. (h.0, subst (λ zs. spec.is_identifier (kind_of zs) ≡ is_named) h.0 h.1)) (frame_t (start_t (expression_read bound))))
      (λ a. association_after_t ts a is_named)

  association_by_t : (ts : List Token) (b : Bool) → Triple (λ us. (us ≡ ts) × (spec.is_open (kind_of us) ≡ b)) (spec.association_by bound b) (IsAssociation ts)
  unfolding open_association
  association_by_t ts true = token_t _ _ (λ x. pure_t (λ us h. placed IsAssociation h.0 (IsAssociation.associated IsFormal.absent IsActual.open_)))
  association_by_t ts false = before_t (λ us h. h.0) (look_t spec.is_identifier (association_from bound) (association_from_t ts))

  association_sound : Sound (association bound) IsAssociation
  unfolding association
  association_sound = record { from = λ ts. look_t spec.is_open (spec.association_by bound) (association_by_t ts) }

  associations_sound : Sound (associations bound) IsAssociations
  unfolding associations
  associations_sound = record {
    from = λ ts. bind_t (start_t association_sound) (λ first. before_t (λ us h. Separated.several h Preceded.none)
        (preceded_loop (λ all us. IsAssociations ts all us) association_sound (λ all x a us vs h r. separated_snoc h r) bound (first ∷ [])));
  }

  -- ---- instances

  map_list_t : (w : Reserved) (ts : List Token) → Triple (λ us. (x : Span) × (word w x ∷ us ≡ ts)) (map_list bound) (IsMap w ts)
  unfolding map_list
  map_list_t w ts = bind_t (word_t _) (λ _. bind_t (word_t _) (λ _. bind_t (call_t associations_sound) (λ all. bind_t (word_t _) (λ _.
      pure_t (λ us h. placed (IsMap w) h.1.1.1.1.1 (IsMap.present h.1.2))))))

  map_sound : (w : Reserved) → Sound (map_of bound w) (IsMap w)
  unfolding map_of
  map_sound w = record { from = λ ts. on_t _ (map_list_t w ts) (pure_t (λ us h. placed (IsMap w) h IsMap.absent)) }

  architecture_name_sound : Sound (architecture_name bound) IsArchitectureName
  unfolding architecture_name bracketed_identifier
  architecture_name_sound = record {
    from = λ ts. on_t _ (token_t _ _ (λ y. bind_t (word_t _) (λ _. pure_t (λ us h. placed IsArchitectureName h.1.1 IsArchitectureName.present))))
        (pure_t (λ us h. placed IsArchitectureName h IsArchitectureName.absent));
  }

  -- the word entity and the library are read
  abbrev Begun : List Token → Option Token → List Token → Type 0
  Begun ts library us = (x : Span) × (vs : List Token) × (word reserved.Entity x ∷ vs ≡ ts) × IsLibrary vs library us

  instance_of_t : (ts : List Token) (library : Option Token) (y : Span) → Triple (λ us. Begun ts library (id y ∷ us)) (instance_of bound library (id y)) (IsLabelled ts)
  unfolding instance_of
  instance_of_t ts library y = bind_t (call_t architecture_name_sound) (λ a. bind_t (call_t (map_sound reserved.Generic)) (λ gs. bind_t (call_t (map_sound reserved.Port)) (λ ps.
      bind_t (word_t _) (λ _. pure_t (λ us h. placed IsLabelled h.1.1.1.1.2 (IsLabelled.instance (IsInstantiation.instance h.1.1.1.1.3 h.1.1.1.2 h.1.1.2 h.1.2)))))))

  instance_in_t : (ts : List Token) (y : Span) → Triple (λ us. (z : Span) × (x : Span) × (word reserved.Entity x ∷ id y ∷ mark delimiter.Dot z ∷ us ≡ ts)) (instance_in bound (id y)) (IsLabelled ts)
  unfolding instance_in
  instance_in_t ts y = token_t _ _ (λ u. before_t (λ us h. (h.1, id y ∷ mark delimiter.Dot h.0 ∷ id u ∷ us, h.2, IsLibrary.present)) (instance_of_t ts (Some (id y)) u))

  instance_after_t : (ts : List Token) (y : Span) → Triple (λ us. (x : Span) × (word reserved.Entity x ∷ id y ∷ us ≡ ts)) (instance_after bound (id y)) (IsLabelled ts)
  unfolding instance_after
  instance_after_t ts y = on_t _ (before_t (λ us h. (h.0, h.1.0, h.1.1)) (instance_in_t ts y)) (before_t (λ us h. (h.0, id y ∷ us, h.1, IsLibrary.absent)) (instance_of_t ts None y))

  instance_t : (ts : List Token) → Triple (λ us. (x : Span) × (word reserved.Entity x ∷ us ≡ ts)) (instance bound) (IsLabelled ts)
  unfolding instance
  instance_t ts = token_t _ _ (λ y. instance_after_t ts y)

  -- ---- concurrent statements

  process_or_assignment_sound : (postponed : Bool) → Sound (process_or_assignment bound postponed) (IsBodyOf postponed)
  unfolding process_or_assignment
  process_or_assignment_sound postponed = record { from = λ ts. on_t _ (process_t postponed ts) (start_t (assignment_sound postponed)) }

  body_sound : Sound (body bound) IsBody
  unfolding body
  body_sound = record {
    from = λ ts. on_t _ (after_t (λ a us h. IsBody.body (placed IsPostponed h.1.1 IsPostponed.present) h.2) (call_t (process_or_assignment_sound true)))
        (after_t (λ a us h. IsBody.body IsPostponed.absent h) (start_t (process_or_assignment_sound false)));
  }

  labelled_sound : Sound (labelled bound) IsLabelled
  unfolding labelled
  labelled_sound = record { from = λ ts. on_t _ (instance_t ts) (after_t (λ a us h. IsLabelled.unnamed h) (start_t body_sound)) }

  named_after_t : (ts : List Token) (x : Span) → Triple (λ us. id x ∷ us ≡ ts) (named_after bound (line_of ts) (id x)) (IsConcurrent ts)
  unfolding named_after
  named_after_t ts x = on_t _ (bind_t (call_t labelled_sound) (λ b. pure_t (λ us h. labelled_is h.1.1 h.2)))
      (bind_t (assignment_from_t false ts x) (λ b. pure_t (λ us h. plain_is h)))

  concurrent_by_t : (ts : List Token) (b : Bool) → Triple (λ us. (us ≡ ts) × (spec.is_identifier (kind_of us) ≡ b)) (spec.concurrent_by bound (line_of ts) b) (IsConcurrent ts)
  unfolding named unlabelled
  concurrent_by_t ts true = token_t _ _ (λ x. before_t (λ us h. h.0) (named_after_t ts x))
  concurrent_by_t ts false = bind_t (before_t (λ us h. h.0) (start_t body_sound)) (λ b. pure_t (λ us h. body_is IsLabel.absent h))

  pub concurrent_sound : Sound (concurrent bound) IsConcurrent
  unfolding concurrent
  concurrent_sound = record { from = λ ts. on_line_start (spec.concurrent_at bound) (look_t spec.is_identifier (spec.concurrent_by bound (line_of ts)) (concurrent_by_t ts)) }
