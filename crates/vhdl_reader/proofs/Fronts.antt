-- Where a reader of concurrent statements stops, some tokens more would have made what it reads.
use Rattle.std.proofs.Common.{◌≡◌, ℕ, zero, suc, Bool, true, false, List, [], ◌∷◌, ◌++◌, Option, Some, None, refl, sym, ap, ◌∙◌, subst, rules, arith}
use Rattle.vhdl_tokens.specs.declared.token.Kind.TheVariants as kind
use Rattle.vhdl_tokens.specs.declared.token.Token.{Token}
use Rattle.vhdl_tokens.specs.declared.token.Delimiter.TheVariants as delimiter
use Rattle.vhdl_tokens.specs.declared.reserved.Reserved.{Reserved}
use Rattle.vhdl_tokens.specs.declared.reserved.Reserved.TheVariants as reserved
use Rattle.vhdl_tree.specs.declared.expressions.Expr.{Expr, out-Expr}
use Rattle.vhdl_tree.specs.declared.expressions.Expr.TheVariants as expr
use Rattle.vhdl_tree.specs.declared.expressions.Choice.TheOpen.{Expr-F}
use Rattle.vhdl_tree.specs.declared.expressions.Name.{Name}
use Rattle.vhdl_tree.specs.declared.units.Alternative.{Alternative}
use Rattle.vhdl_tree.specs.declared.units.ConcurrentBody.{ConcurrentBody}
use Rattle.vhdl_tree.specs.Words.{Span, id, word, mark, kind_of, line_of}
use Rattle.vhdl_tree.specs.Lists.{Many, Preceded, Separated, Perhaps, IsOptional}
use Rattle.vhdl_tree.specs.Expressions.{Expression, NameOf}
use Rattle.vhdl_tree.specs.Statements.{StatementsOf}
use Rattle.vhdl_tree.specs.Units.{IsPostponed, IsSensitivity, IsProcess, IsAlternative, IsConcurrentAssignment, IsFormal, IsActual, IsAssociation, IsAssociations, IsMap, IsLibrary, IsArchitectureName, IsInstantiation, IsLabel, IsConcurrent}
use Rattle.vhdl_reader_expressions.specs.Steps.{Answer, Found, Stopped, Spent}
use Rattle.vhdl_reader_expressions.proofs.Sound.{reads, placed}
use Rattle.vhdl_reader_expressions.proofs.SoundLists.{many_snoc, separated_snoc}
use Rattle.vhdl_reader_expressions.proofs.FrontSteps.{Front, State, Holds, Leads, LeadsTo, LeadsFrom, Some_of, Viable, none_before, one_before, somewhere, same_front, start_f, call_f, bind_f, pure_f, spent_f, known_f, before_f, after_f, on_f, look_f, on_line_f, word_f, token_f, optional_viable}
use Rattle.vhdl_reader_expressions.proofs.FrontLists.{preceded_loop_f}
use Rattle.vhdl_reader_expressions.specs.Reading.{Layer, expression_within}
use Rattle.vhdl_reader_expressions.proofs.Read.{expression_read, expression_goes_on, name_from_goes_on}
use Rattle.vhdl_reader_expressions.proofs.NamedBounds.{name_in, literal_opens}
use Rattle.vhdl_reader_statements.proofs.Read.{delay_goes_on, waveform_goes_on, names_go_on, statements_go_on}
use Rattle.vhdl_reader_declarations.proofs.Fronts.{process_declarations_viable}
use Rattle.vhdl_reader.specs.declared.assignments.Conditions.{Conditions}
use Rattle.vhdl_reader.specs.Reading as spec
use Rattle.vhdl_reader.specs.Reading.{formal_of, sensitivity_names, sensitivity_all, sensitivity_list, sensitivity, process_head, process_end, process, conditions_from, assignment_to, assignment_from, assignment, actual, named_actual, association_after, association_from, open_association, association, associations, map_list, map_of, bracketed_identifier, architecture_name, instance_of, instance_in, instance_after, instance, process_or_assignment, body, labelled, named_after, named, unlabelled, concurrent}
use Rattle.vhdl_reader.proofs.BareNames.{formal_found, formal_unfound}
use Rattle.vhdl_reader.proofs.Bodies.{IsBodyOf, IsBody, IsLabelled, body_is, labelled_is, plain_is}
use Rattle.vhdl_reader.proofs.Sounds.{Head, End, ConditionsOf}

-- a literal is no formal
no_formal : (is_named : Bool) (t u : Token) → formal_of is_named (expr.Literal t) ≡ Some u → ⊥
unfolding formal_of
no_formal true t u e = by (out-Expr (expr.Literal t)) refl e
  where
    by : (layer : Layer) → out-Expr (expr.Literal t) ≡ layer → spec.bare layer ≡ Some u → ⊥
    by (Expr-F.Name n) is found = let e : name_in (out-Expr (expr.Literal t)) ≡ None = literal_opens t in let f : name_in (out-Expr (expr.Literal t)) ≡ Some n = ap name_in is in absurd cc
    by _ is found = absurd cc
no_formal false t u e = absurd cc

module _ (bound : ℕ) where
  -- ---- processes

  sensitivity_names_f : LeadsTo (λ ts us. (x : Span) × (mark delimiter.LeftParen x ∷ us ≡ ts)) (sensitivity_names bound) (λ a. Some_of IsSensitivity)
  unfolding sensitivity_names
  sensitivity_names_f = bind_f (call_f (names_go_on bound)) (λ all. bind_f (word_f _) (λ _. pure_f (λ ts us h. (_, placed IsSensitivity h.1.1.1 (IsSensitivity.names h.1.2.1)))))

  sensitivity_all_f : LeadsTo (λ ts us. (y : Span) × ((x : Span) × (mark delimiter.LeftParen x ∷ word reserved.All y ∷ us ≡ ts))) (sensitivity_all bound) (λ a. Some_of IsSensitivity)
  unfolding sensitivity_all
  sensitivity_all_f = bind_f (word_f _) (λ _. pure_f (λ ts us h. (_, placed IsSensitivity h.1.1.1 IsSensitivity.all)))

  sensitivity_viable : Viable (sensitivity bound) IsSensitivity
  unfolding sensitivity sensitivity_list
  sensitivity_viable = record { leads = on_f _ (on_f _ sensitivity_all_f sensitivity_names_f) (pure_f (λ ts us h. (_, placed IsSensitivity h IsSensitivity.unlisted))) }

  process_head_viable : Viable (process_head bound) Head
  unfolding process_head
  process_head_viable = record { leads = bind_f (start_f sensitivity_viable) (λ s. bind_f (call_f optional_viable) (λ t. pure_f (λ ts us h. (h.1.0, (h.0, h.2.0, h.1.1, h.2.1))))) }

  process_end_viable : Viable (process_end bound) End
  unfolding process_end
  process_end_viable = record {
    leads = bind_f (word_f _) (λ _. bind_f (call_f optional_viable) (λ again. bind_f (word_f _) (λ _. bind_f (call_f optional_viable) (λ name. bind_f (word_f _) (λ _.
        pure_f (λ ts us h. (h.1.2.0, record { xs = h.1.1.1.0; ys = h.1.0; first = h.1.1.1.1.0; class = h.1.1.0; last = h.0; postponed = h.1.1.1.2.0; stands = sym h.1.1.1.1.1; again = h.1.1.1.2.1; named = h.1.2.1 })))))));
  }

  process_f : (postponed : Bool) → LeadsTo (λ ts us. (x : Span) × (word reserved.Process x ∷ us ≡ ts)) (process bound postponed) (λ a. Some_of (IsBodyOf postponed))
  unfolding process
  process_f postponed = bind_f (call_f process_head_viable) (λ s. bind_f (call_f (process_declarations_viable bound)) (λ ds. bind_f (word_f _) (λ _.
      bind_f (call_f (statements_go_on bound)) (λ all. bind_f (call_f process_end_viable) (λ end_name. pure_f (λ ts us h. (
        _,
        placed (IsBodyOf postponed) h.1.1.1.1.1.1
            (IsBodyOf.process (IsProcess.process h.1.1.1.1.2.1.2 h.1.1.1.1.2.1.3 h.1.1.1.2.1 (subst (StatementsOf h.1.0 h.1.2.0) h.2.1.stands h.1.2.1) h.2.1.again h.2.1.named)),
      )))))))

  -- ---- concurrent assignments

  conditions_f : (n : ℕ) (found : List Alternative) → LeadsTo (Some_of (Many IsAlternative)) (conditions_from bound n found) (λ a. Some_of ConditionsOf)
  unfolding conditions_from
  conditions_f zero found = spent_f none_before (record { alternatives = found; condition = None }) (λ ts us h. (record { alternatives = h.0; condition = None }, (us, h.1, Perhaps.absent)))
  conditions_f (suc n) found = on_f _ (bind_f (call_f (expression_goes_on bound)) (λ a. on_f _
      (bind_f (call_f (waveform_goes_on bound)) (λ w. before_f (λ ts us h. (_, many_snoc h.1.1.1.1.1 (IsAlternative.otherwise h.1.1.2.1 h.2.1))) (conditions_f n (found ++ record { condition = a; otherwise = w } ∷ []))))
      (pure_f (λ ts us h. (record { alternatives = h.1.1.0; condition = Some h.2.0 }, (word reserved.When h.1.0 ∷ h.0, h.1.1.1, Perhaps.present h.2.1))))))
      (pure_f (λ ts us h. (record { alternatives = h.0; condition = None }, (us, h.1, Perhaps.absent))))

  conditions_viable : Viable (spec.conditions bound []) ConditionsOf
  conditions_viable = record { leads = before_f (λ ts us h. ([], placed (Many IsAlternative) h Many.none)) (conditions_f bound []) }

  assignment_to_f : (postponed : Bool) (target : Name) → LeadsTo (Some_of NameOf) (assignment_to bound postponed target) (λ a. Some_of (IsBodyOf postponed))
  unfolding assignment_to
  assignment_to_f postponed target = bind_f (word_f _) (λ _. bind_f (call_f (delay_goes_on bound)) (λ d. bind_f (call_f (waveform_goes_on bound)) (λ first.
      bind_f (call_f conditions_viable) (λ c. bind_f (word_f _) (λ _. pure_f (λ ts us h. (
        _,
        IsBodyOf.assignment
            (IsConcurrentAssignment.assigned h.1.1.1.1.1.1 h.1.1.1.2.1 h.1.1.2.1 h.1.2.1.1 h.1.2.1.2),
      )))))))

  assignment_from_f : (postponed : Bool) (t : Token) → LeadsTo (λ ts us. (x : Span) × (id x ∷ us ≡ ts)) (assignment_from bound postponed t) (λ a. Some_of (IsBodyOf postponed))
  unfolding assignment_from
  assignment_from_f postponed t = bind_f (name_from_goes_on bound t) (λ target. assignment_to_f postponed target)

  assignment_viable : (postponed : Bool) → Viable (assignment bound postponed) (IsBodyOf postponed)
  unfolding assignment
  assignment_viable postponed = record { leads = token_f _ _ (λ x. before_f (λ ts us h. (x, h)) (assignment_from_f postponed (id x))) }

  -- ---- associations

  actual_by_f : (b : Bool) → LeadsFrom (λ us. Unit {0} × (spec.is_open (kind_of us) ≡ b)) (λ ts us. us ≡ ts) (spec.actual_by bound b) (λ a. Some_of IsActual)
  actual_by_f true = token_f _ _ (λ x. pure_f (λ ts us h. (_, placed IsActual h IsActual.open_)))
  actual_by_f false = known_f _ (bind_f (start_f (expression_goes_on bound)) (λ a. pure_f (λ ts us h. (_, IsActual.value h.1))))

  actual_viable : Viable (actual bound) IsActual
  unfolding actual
  actual_viable = record { leads = look_f spec.is_open (spec.actual_by bound) false actual_by_f }

  -- an expression, and an identifier where it may be a formal
  abbrev Begun : Bool → Expr → State
  Begun is_named a ts us = Some_of Expression ts us × ((t : Token) → formal_of is_named a ≡ Some t → (u : Span) × (id u ∷ us ≡ ts))

  begun_f : (is_named : Bool) → LeadsFrom (λ us. Unit {0} × (spec.is_identifier (kind_of us) ≡ is_named)) (λ ts us. us ≡ ts) (expression_within bound) (Begun is_named)
  begun_f is_named = record {
    holds = λ f us known b. by f us known.1 b (expression_within bound us) refl ((expression_goes_on bound).leads.holds f us tt b);
    seed = λ f b. let s = (expression_goes_on bound).leads.seed f b in (s.0, expr.Literal (id somewhere), λ vs. (s.2 vs, λ t e. absurd (no_formal is_named (id somewhere) t e)));
  }
    where
      bare : (f : Front) (us vs ws : List Token) (a : Expr) (g : Front) → Holds (λ ts us. us ≡ ts) f → us ≡ g.put vs → Expression us a vs → (b : Bool) → spec.is_identifier (kind_of us) ≡ b
          → (t : Token) → formal_of b a ≡ Some t → (u : Span) × (id u ∷ ws ≡ f.put (g.put ws))
      bare f us vs ws a g b is r true begins t e = let n = formal_found us vs a t r begins e in
          (n.span, same_front (one_before (id n.span)) g us vs ws (sym n.stands) is ∙ b (g.put ws))
      bare f us vs ws a g b is r false begins t e = absurd (formal_unfound a t e)

      by : (f : Front) (us : List Token) → spec.is_identifier (kind_of us) ≡ is_named → Holds (λ ts us. us ≡ ts) f → (r : Answer Expr) → expression_within bound us ≡ r
          → Leads (λ a. Some_of Expression) f us r → Leads (Begun is_named) f us r
      by f us begins b (Found a vs) e h = (h.0, h.1, λ ws. (h.2 ws, bare f us vs ws a h.0 b h.1 (reads (expression_read bound) us a vs e) is_named begins))
      by f us begins b (Stopped vs) e h = (h.0, h.1, (h.2.0, expr.Literal (id somewhere), λ ws. (h.2.2 ws, λ t found. absurd (no_formal is_named (id somewhere) t found))))
      by f us begins b Spent e h = tt

  named_actual_f : (t : Token) → LeadsTo (λ ts us. (y : Span) × ((u : Span) × (id u ∷ mark delimiter.Arrow y ∷ us ≡ ts))) (named_actual bound t) (λ a. Some_of IsAssociation)
  unfolding named_actual
  named_actual_f t = bind_f (call_f actual_viable) (λ a. pure_f (λ ts us h. (_, placed IsAssociation h.1.1.1 (IsAssociation.associated IsFormal.present h.2.1))))

  associated_f : (is_named : Bool) (a : Expr) (formal : Option Token) → formal_of is_named a ≡ formal → LeadsTo (Begun is_named a) (spec.associated bound formal a) (λ b. Some_of IsAssociation)
  associated_f is_named a (Some t) is = on_f _ (before_f (λ ts us h. (h.0, h.1.1 t is)) (named_actual_f t)) (pure_f (λ ts us h. (_, IsAssociation.associated IsFormal.absent (IsActual.value h.0.1))))
  associated_f is_named a None is = pure_f (λ ts us h. (_, IsAssociation.associated IsFormal.absent (IsActual.value h.0.1)))

  association_from_f : (is_named : Bool) → LeadsFrom (λ us. Unit {0} × (spec.is_identifier (kind_of us) ≡ is_named)) (λ ts us. us ≡ ts) (association_from bound is_named) (λ a. Some_of IsAssociation)
  unfolding association_from association_after
  association_from_f is_named = bind_f (begun_f is_named) (λ a. associated_f is_named a (formal_of is_named a) refl)

  association_by_f : (b : Bool) → LeadsFrom (λ us. Unit {0} × (spec.is_open (kind_of us) ≡ b)) (λ ts us. us ≡ ts) (spec.association_by bound b) (λ a. Some_of IsAssociation)
  unfolding open_association
  association_by_f true = token_f _ _ (λ x. pure_f (λ ts us h. (_, placed IsAssociation h (IsAssociation.associated IsFormal.absent IsActual.open_))))
  association_by_f false = known_f _ (look_f spec.is_identifier (association_from bound) false association_from_f)

  association_viable : Viable (association bound) IsAssociation
  unfolding association
  association_viable = record { leads = look_f spec.is_open (spec.association_by bound) false association_by_f }

  associations_viable : Viable (associations bound) IsAssociations
  unfolding associations
  associations_viable = record {
    leads = bind_f (start_f association_viable) (λ first. before_f (λ ts us h. (_, Separated.several h.1 Preceded.none))
        (preceded_loop_f (λ all. Some_of IsAssociations) association_viable (λ all x a b ts us vs h r. (_, separated_snoc h.1 r)) bound (first ∷ [])));
  }

  -- ---- instances

  map_list_f : (w : Reserved) → LeadsTo (λ ts us. (x : Span) × (word w x ∷ us ≡ ts)) (map_list bound) (λ a. Some_of (IsMap w))
  unfolding map_list
  map_list_f w = bind_f (word_f _) (λ _. bind_f (word_f _) (λ _. bind_f (call_f associations_viable) (λ all. bind_f (word_f _) (λ _.
      pure_f (λ ts us h. (_, placed (IsMap w) h.1.1.1.1.1 (IsMap.present h.1.2.1)))))))

  map_viable : (w : Reserved) → Viable (map_of bound w) (IsMap w)
  unfolding map_of
  map_viable w = record { leads = on_f _ (map_list_f w) (pure_f (λ ts us h. (_, placed (IsMap w) h IsMap.absent))) }

  architecture_name_viable : Viable (architecture_name bound) IsArchitectureName
  unfolding architecture_name bracketed_identifier
  architecture_name_viable = record {
    leads = on_f _ (token_f _ _ (λ y. bind_f (word_f _) (λ _. pure_f (λ ts us h. (_, placed IsArchitectureName h.1.1 IsArchitectureName.present)))))
        (pure_f (λ ts us h. (_, placed IsArchitectureName h IsArchitectureName.absent)));
  }

  -- the word entity and the library are read
  abbrev Behind : State
  Behind ts us = (x : Span) × (vs : List Token) × (library : Option Token) × (word reserved.Entity x ∷ vs ≡ ts) × IsLibrary vs library us

  instance_of_f : (library : Option Token) (t : Token) → LeadsTo (λ ts us. (y : Span) × Behind ts (id y ∷ us)) (instance_of bound library t) (λ a. Some_of IsLabelled)
  unfolding instance_of
  instance_of_f library t = bind_f (call_f architecture_name_viable) (λ a. bind_f (call_f (map_viable reserved.Generic)) (λ gs. bind_f (call_f (map_viable reserved.Port)) (λ ps.
      bind_f (word_f _) (λ _. pure_f (λ ts us h. let begun = h.1.1.1.1.1 in (_, placed IsLabelled begun.3 (IsLabelled.instance (IsInstantiation.instance begun.4 h.1.1.1.2.1 h.1.1.2.1 h.1.2.1))))))))

  instance_in_f : (t : Token) → LeadsTo (λ ts us. (z : Span) × ((y : Span) × ((x : Span) × (word reserved.Entity x ∷ id y ∷ mark delimiter.Dot z ∷ us ≡ ts)))) (instance_in bound t) (λ a. Some_of IsLabelled)
  unfolding instance_in
  instance_in_f t = token_f _ _ (λ u. before_f (λ ts us h. (u, (h.1.1.0, id h.1.0 ∷ mark delimiter.Dot h.0 ∷ id u ∷ us, Some (id h.1.0), h.1.1.1, IsLibrary.present))) (instance_of_f (Some t) (id u)))

  instance_after_f : (t : Token) → LeadsTo (λ ts us. (y : Span) × ((x : Span) × (word reserved.Entity x ∷ id y ∷ us ≡ ts))) (instance_after bound t) (λ a. Some_of IsLabelled)
  unfolding instance_after
  instance_after_f t = on_f _ (instance_in_f t) (before_f (λ ts us h. (h.0, (h.1.0, id h.0 ∷ us, None, h.1.1, IsLibrary.absent))) (instance_of_f None t))

  instance_f : LeadsTo (λ ts us. (x : Span) × (word reserved.Entity x ∷ us ≡ ts)) (instance bound) (λ a. Some_of IsLabelled)
  unfolding instance
  instance_f = token_f _ _ (λ y. before_f (λ ts us h. (y, h)) (instance_after_f (id y)))

  -- ---- concurrent statements

  process_or_assignment_viable : (postponed : Bool) → Viable (process_or_assignment bound postponed) (IsBodyOf postponed)
  unfolding process_or_assignment
  process_or_assignment_viable postponed = record { leads = on_f _ (process_f postponed) (start_f (assignment_viable postponed)) }

  body_viable : Viable (body bound) IsBody
  unfolding body
  body_viable = record {
    leads = on_f _ (after_f (λ a ts us h. (_, IsBody.body (placed IsPostponed h.1.1 IsPostponed.present) h.2.1)) (call_f (process_or_assignment_viable true)))
        (after_f (λ a ts us h. (_, IsBody.body IsPostponed.absent h.1)) (start_f (process_or_assignment_viable false)));
  }

  labelled_viable : Viable (labelled bound) IsLabelled
  unfolding labelled
  labelled_viable = record { leads = on_f _ instance_f (after_f (λ a ts us h. (_, IsLabelled.unnamed h.1)) (start_f body_viable)) }

  named_after_f : (line : ℕ) (t : Token) → LeadsTo (λ ts us. (x : Span) × (id x ∷ us ≡ ts)) (named_after bound line t) (λ a. Some_of IsConcurrent)
  unfolding named_after
  named_after_f line t = on_f _ (bind_f (call_f labelled_viable) (λ b. pure_f (λ ts us h. (_, labelled_is h.1.1.1 h.2.1))))
      (bind_f (assignment_from_f false t) (λ b. pure_f (λ ts us h. (_, plain_is h.1))))

  concurrent_by_f : (line : ℕ) (b : Bool) → LeadsFrom (λ us. Unit {0} × (spec.is_identifier (kind_of us) ≡ b)) (λ ts us. us ≡ ts) (spec.concurrent_by bound line b) (λ a. Some_of IsConcurrent)
  unfolding named unlabelled
  concurrent_by_f line true = token_f _ _ (λ x. before_f (λ ts us h. (x, h)) (named_after_f line (id x)))
  concurrent_by_f line false = known_f _ (bind_f (start_f body_viable) (λ b. pure_f (λ ts us h. (_, body_is IsLabel.absent h.1))))

  pub concurrent_viable : Viable (concurrent bound) IsConcurrent
  unfolding concurrent
  concurrent_viable = record { leads = on_line_f (spec.concurrent_at bound) (λ line. look_f spec.is_identifier (spec.concurrent_by bound line) false (concurrent_by_f line)) }
