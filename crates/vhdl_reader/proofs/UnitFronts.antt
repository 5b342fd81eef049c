-- Where a reader of design units stops, some tokens more would have made what it reads.
use Rattle.std.proofs.Common.{◌≡◌, ℕ, Bool, true, false, List, [], ◌∷◌, ◌++◌, refl, sym, subst}
use Rattle.vhdl_tokens.specs.declared.token.Kind.TheVariants as kind
use Rattle.vhdl_tokens.specs.declared.token.Token.{Token}
use Rattle.vhdl_tokens.specs.declared.token.Delimiter.TheVariants as delimiter
use Rattle.vhdl_tokens.specs.declared.reserved.Reserved.TheVariants as reserved
use Rattle.vhdl_tree.specs.declared.units.ContextClause.TheVariants as a_clause
use Rattle.vhdl_tree.specs.declared.units.DesignUnit.{DesignUnit}
use Rattle.vhdl_tree.specs.declared.units.DesignFile.{DesignFile}
use Rattle.vhdl_tree.specs.Words.{Span, id, word, mark, kind_of}
use Rattle.vhdl_tree.specs.Lists.{Many, Separated, Preceded, IsToken}
use Rattle.vhdl_tree.specs.Units.{IsConcurrent, IsArchitecture, IsSuffix, IsContext, IsLibraryUnit, IsDesignUnit, IsDesignFile}
use Rattle.vhdl_reader_expressions.proofs.Sound.{placed}
use Rattle.vhdl_reader_expressions.proofs.FrontSteps.{LeadsTo, LeadsFrom, Some_of, Viable, one_before, ◌then◌, somewhere, start_f, call_f, bind_f, pure_f, stop_f, known_f, before_f, after_f, on_f, look_f, on_line_f, word_f, token_f, kept_f, optional_viable}
use Rattle.vhdl_reader_expressions.proofs.FrontLists.{many_viable, many_loop_f}
use Rattle.vhdl_reader_expressions.proofs.SoundLists.{many_snoc}
use Rattle.vhdl_reader_declarations.proofs.Fronts.{identifiers_viable, declarations_viable, entity_viable}
use Rattle.vhdl_reader.specs.Reading as spec
use Rattle.vhdl_reader.specs.Reading.{architecture_head, architecture_of, architecture_body, architecture_end, architecture, suffix, prefix, use_clause, library_clause, context, library_unit, unit, design_file}
use Rattle.vhdl_reader.proofs.Fronts.{concurrent_viable}
use Rattle.vhdl_reader.proofs.UnitSounds.{IsHead, IsOf, IsStatements, IsEnd, architecture_is, IsPrefix, use_is}

-- one more unit at the end of a file
one_unit_more : (ts us vs : List Token) → Some_of IsDesignFile ts us → Some_of IsDesignUnit us vs → Some_of IsDesignFile ts vs
one_unit_more ts us vs (_, IsDesignFile.units one rest) r = (_, IsDesignFile.units one (many_snoc rest r.1))

module _ (bound : ℕ) where
  -- ---- architectures

  architecture_head_viable : Viable (architecture_head bound) IsHead
  unfolding architecture_head
  architecture_head_viable = record { leads = bind_f (word_f _) (λ _. after_f (λ t ts us h. (_, placed IsHead h.2.1 IsHead.head)) (kept_f _)) }

  architecture_of_viable : Viable (architecture_of bound) IsOf
  unfolding architecture_of
  architecture_of_viable = record { leads = bind_f (word_f _) (λ _. token_f _ _ (λ u. bind_f (word_f _) (λ _. pure_f (λ ts us h. (_, placed IsOf h.1.1 IsOf.entity))))) }

  architecture_body_viable : Viable (architecture_body bound) IsStatements
  unfolding architecture_body
  architecture_body_viable = record {
    leads = bind_f (word_f _) (λ _. after_f (λ all ts us h. (_, placed IsStatements h.1.1 (IsStatements.statements h.2.1)))
        (call_f (many_viable bound spec.begins_concurrent (concurrent_viable bound))));
  }

  architecture_end_viable : Viable (architecture_end bound) IsEnd
  unfolding architecture_end
  architecture_end_viable = record {
    leads = bind_f (word_f _) (λ _. bind_f (call_f optional_viable) (λ class. bind_f (call_f optional_viable) (λ name. bind_f (word_f _) (λ _.
        pure_f (λ ts us h. (_, placed IsEnd h.1.1.1.1 (IsEnd.closed h.1.1.2.1 h.1.2.1)))))));
  }

  architecture_viable : Viable (architecture bound) IsArchitecture
  unfolding architecture
  architecture_viable = record {
    leads = on_line_f (spec.architecture_at bound) (λ line. bind_f (start_f architecture_head_viable) (λ name. bind_f (call_f architecture_of_viable) (λ e.
        bind_f (call_f (declarations_viable bound)) (λ ds. bind_f (call_f architecture_body_viable) (λ all. bind_f (call_f architecture_end_viable) (λ end_name.
        pure_f (λ ts us h. (_, architecture_is h.1.1.1.1.1 h.1.1.1.2.1 h.1.1.2.1 h.1.2.1 h.2.1))))))));
  }

  -- ---- context clauses

  suffix_by_f : (b : Bool) → LeadsFrom (λ us. Unit {0} × (spec.is_all (kind_of us) ≡ b)) (λ ts us. us ≡ ts) (spec.suffix_by bound b) (λ a. Some_of IsSuffix)
  suffix_by_f true = after_f (λ t ts us h. (_, placed IsSuffix h.2 IsSuffix.all)) (kept_f _)
  suffix_by_f false = after_f (λ t ts us h. (_, placed IsSuffix h.2 IsSuffix.identifier)) (kept_f _)

  suffix_viable : Viable (suffix bound) IsSuffix
  unfolding suffix
  suffix_viable = record { leads = look_f spec.is_all (spec.suffix_by bound) false suffix_by_f }

  prefix_viable : Viable (prefix bound) IsPrefix
  unfolding prefix
  prefix_viable = record { leads = token_f _ _ (λ x. bind_f (word_f _) (λ _. pure_f (λ ts us h. (_, placed IsPrefix h.1 IsPrefix.dotted)))) }

  use_clause_f : LeadsTo (λ ts us. (x : Span) × (word reserved.Use x ∷ us ≡ ts)) (use_clause bound) (λ a. Some_of IsContext)
  unfolding use_clause
  use_clause_f = bind_f (call_f prefix_viable) (λ l. bind_f (call_f prefix_viable) (λ p. bind_f (call_f suffix_viable) (λ s. bind_f (word_f _) (λ _.
      pure_f (λ ts us h. (_, placed IsContext h.1.1.1.1.1 (use_is h.1.1.1.2.1 h.1.1.2.1 h.1.2.1)))))))

  library_clause_f : LeadsTo (λ ts us. (x : Span) × (word reserved.Library x ∷ us ≡ ts)) (library_clause bound) (λ a. Some_of IsContext)
  unfolding library_clause
  library_clause_f = bind_f (call_f (identifiers_viable bound)) (λ names. bind_f (word_f _) (λ _. pure_f (λ ts us h. (_, placed IsContext h.1.1.1 (IsContext.library h.1.2.1)))))

  -- where no item begins, `library id ;` would do
  context_viable : Viable (context bound) IsContext
  unfolding context
  context_viable = record {
    leads = on_f _ library_clause_f (on_f _ use_clause_f
        (stop_f (one_before (word reserved.Library somewhere) then one_before (id somewhere) then one_before (mark delimiter.Semicolon somewhere)) (a_clause.Library [])
        (λ ts us h. (_, placed IsContext h (IsContext.library (Separated.several IsToken.single Preceded.none))))));
  }

  -- ---- design units

  library_unit_by_f : (b : Bool) → LeadsFrom (λ us. Unit {0} × (spec.is_entity (kind_of us) ≡ b)) (λ ts us. us ≡ ts) (spec.library_unit_by bound b) (λ a. Some_of IsLibraryUnit)
  library_unit_by_f true = known_f _ (bind_f (start_f (entity_viable bound)) (λ e. pure_f (λ ts us h. (_, IsLibraryUnit.entity h.1))))
  library_unit_by_f false = known_f _ (bind_f (start_f architecture_viable) (λ a. pure_f (λ ts us h. (_, IsLibraryUnit.architecture h.1))))

  library_unit_viable : Viable (library_unit bound) IsLibraryUnit
  unfolding library_unit
  library_unit_viable = record { leads = look_f spec.is_entity (spec.library_unit_by bound) false library_unit_by_f }

  unit_viable : Viable (unit bound) IsDesignUnit
  unfolding unit
  unit_viable = record {
    leads = bind_f (start_f (many_viable bound spec.begins_context context_viable)) (λ c. bind_f (call_f library_unit_viable) (λ u. pure_f (λ ts us h. (_, IsDesignUnit.unit h.1.1 h.2.1))));
  }

  pub design_file_viable : Viable (design_file bound) IsDesignFile
  unfolding design_file
  design_file_viable = record {
    leads = bind_f (start_f unit_viable) (λ first. bind_f (before_f (λ ts us h. (_, IsDesignFile.units h.1 Many.none))
        (many_loop_f spec.begins_unit (λ all. Some_of IsDesignFile) unit_viable (λ found a b ts us vs h r. one_unit_more ts us vs h (b, r)) bound (first ∷ []))) (λ all. pure_f (λ ts us h. h)));
  }
