-- What a reader of design units finds is so by the grammar.
use Rattle.std.proofs.Common.{◌≡◌, ℕ, Bool, true, false, List, [], ◌∷◌, ◌++◌, Option, refl, sym, subst}
use Rattle.vhdl_tokens.specs.declared.token.Kind.TheVariants as kind
use Rattle.vhdl_tokens.specs.declared.token.Token.{Token}
use Rattle.vhdl_tokens.specs.declared.token.Delimiter.TheVariants as delimiter
use Rattle.vhdl_tokens.specs.declared.reserved.Reserved.TheVariants as reserved
use Rattle.vhdl_tree.specs.declared.declarations.Declaration.{Declaration}
use Rattle.vhdl_tree.specs.declared.units.Concurrent.{Concurrent}
use Rattle.vhdl_tree.specs.declared.units.ContextClause.TheVariants as a_clause
use Rattle.vhdl_tree.specs.declared.units.DesignUnit.{DesignUnit}
use Rattle.vhdl_tree.specs.declared.units.DesignFile.{DesignFile}
use Rattle.vhdl_tree.specs.Words.{Span, id, word, mark, kind_of, line_of}
use Rattle.vhdl_tree.specs.Lists.{Many, IsOptional}
use Rattle.vhdl_tree.specs.Declarations.{IsDeclaration}
use Rattle.vhdl_tree.specs.Units.{IsConcurrent, IsArchitecture, IsSuffix, IsContext, IsLibraryUnit, IsDesignUnit, IsDesignFile}
use Rattle.vhdl_reader_expressions.proofs.Sound.{Triple, Sound, start_t, call_t, bind_t, pure_t, stop_t, on_t, on_line_start, word_t, token_t, kept_t, before_t, after_t, placed, look_t, optional_sound}
use Rattle.vhdl_reader_expressions.proofs.SoundLists.{many_sound, many_loop, many_snoc}
use Rattle.vhdl_reader_declarations.proofs.Sounds.{identifiers_sound, declarations_sound, entity_sound}
use Rattle.vhdl_reader.specs.Reading as spec
use Rattle.vhdl_reader.specs.Reading.{architecture_head, architecture_of, architecture_body, architecture_end, architecture, suffix, prefix, use_clause, library_clause, context, library_unit, unit, design_file}
use Rattle.vhdl_reader.proofs.Sounds.{concurrent_sound}

-- ---- the parts of an architecture

-- its name
pub data IsHead : List Token → Token → List Token → Type 0 where
  head : {us : List Token} {x y : Span} → IsHead (word reserved.Architecture x ∷ id y ∷ us) (id y) us

-- its entity
pub data IsOf : List Token → Token → List Token → Type 0 where
  entity : {us : List Token} {z u v : Span} → IsOf (word reserved.Of z ∷ id u ∷ word reserved.Is v ∷ us) (id u) us

-- its statements
pub data IsStatements : List Token → List Concurrent → List Token → Type 0 where
  statements : {us vs : List Token} {w : Span} {all : List Concurrent} → Many IsConcurrent us all vs → IsStatements (word reserved.Begin w ∷ us) all vs

-- its end
pub data IsEnd : List Token → Option Token → List Token → Type 0 where
  closed : {us vs ws : List Token} {t s : Span} {class name : Option Token} → IsOptional (kind.Word reserved.Architecture) us class vs
      → IsOptional kind.Identifier vs name (mark delimiter.Semicolon s ∷ ws) → IsEnd (word reserved.End t ∷ us) name ws

pub architecture_is : {ts us vs ws xs ys : List Token} {name e : Token} {declarations : List Declaration} {all : List Concurrent} {end_name : Option Token}
    → IsHead ts name us → IsOf us e vs → Many IsDeclaration vs declarations ws → IsStatements ws all xs → IsEnd xs end_name ys
    → IsArchitecture ts (record { line = line_of ts; name = name; entity = e; declarations = declarations; statements = all; end_name = end_name }) ys
architecture_is IsHead.head IsOf.entity ds (IsStatements.statements all) (IsEnd.closed r q) = IsArchitecture.architecture ds all r q

-- an identifier, and the dot behind it
pub data IsPrefix : List Token → Token → List Token → Type 0 where
  dotted : {us : List Token} {x y : Span} → IsPrefix (id x ∷ mark delimiter.Dot y ∷ us) (id x) us

pub use_is : {ts us vs ws : List Token} {x w : Span} {library name suffix : Token} → IsPrefix ts library us → IsPrefix us name vs → IsSuffix vs suffix (mark delimiter.Semicolon w ∷ ws)
    → IsContext (word reserved.Use x ∷ ts) (a_clause.Use (record { library = library; «package» = name; suffix = suffix })) ws
use_is IsPrefix.dotted IsPrefix.dotted r = IsContext.use_ r

-- one more unit at the end of a file
pub file_snoc : {ts us vs : List Token} {file : DesignFile} {a : DesignUnit} (all : List DesignUnit) → IsDesignFile ts file us → file.units ≡ all → IsDesignUnit us a vs
    → IsDesignFile ts (record { units = all ++ a ∷ [] }) vs
file_snoc {ts = ts} {vs = vs} {a = a} all (IsDesignFile.units one rest) e r = subst (λ xs. IsDesignFile ts (record { units = xs ++ a ∷ [] }) vs) e (IsDesignFile.units one (many_snoc rest r))

module _ (bound : ℕ) where
  -- ---- architectures

  architecture_head_sound : Sound (architecture_head bound) IsHead
  unfolding architecture_head
  architecture_head_sound = record {
    from = λ ts. bind_t (word_t _) (λ _. after_t (λ t us h. subst (λ q. IsHead ts q us) (sym h.1) (placed IsHead h.2.1 IsHead.head)) (kept_t _));
  }

  architecture_of_sound : Sound (architecture_of bound) IsOf
  unfolding architecture_of
  architecture_of_sound = record { from = λ ts. bind_t (word_t _) (λ _. token_t _ _ (λ u. bind_t (word_t _) (λ _. pure_t (λ us h. placed IsOf h.1.1 IsOf.entity)))) }

  architecture_body_sound : Sound (architecture_body bound) IsStatements
  unfolding architecture_body
  architecture_body_sound = record {
    from = λ ts. bind_t (word_t _) (λ _. after_t (λ all us h. placed IsStatements h.1.1 (IsStatements.statements h.2))
        (call_t (many_sound bound spec.begins_concurrent (concurrent_sound bound))));
  }

  architecture_end_sound : Sound (architecture_end bound) IsEnd
  unfolding architecture_end
  architecture_end_sound = record {
    from = λ ts. bind_t (word_t _) (λ _. bind_t (call_t optional_sound) (λ class. bind_t (call_t optional_sound) (λ name. bind_t (word_t _) (λ _.
        pure_t (λ us h. placed IsEnd h.1.1.1.1 (IsEnd.closed h.1.1.2 h.1.2))))));
  }

  architecture_sound : Sound (architecture bound) IsArchitecture
  unfolding architecture
  architecture_sound = record {
    from = λ ts. on_line_start (spec.architecture_at bound) (bind_t (start_t architecture_head_sound) (λ name. bind_t (call_t architecture_of_sound) (λ e.
        bind_t (call_t (declarations_sound bound)) (λ ds. bind_t (call_t architecture_body_sound) (λ all. bind_t (call_t architecture_end_sound) (λ end_name.
        pure_t (λ us h. architecture_is h.1.1.1.1 h.1.1.1.2 h.1.1.2 h.1.2 h.2)))))));
  }

  -- ---- context clauses

  suffix_by_t : (ts : List Token) (b : Bool) → Triple (λ us. (us ≡ ts) × (spec.is_all (kind_of us) ≡ b)) (spec.suffix_by bound b) (IsSuffix ts)
  suffix_by_t ts true = after_t (λ t us h. subst (λ q. IsSuffix ts q us) (sym h.1) (placed IsSuffix h.2.0 IsSuffix.all)) (kept_t _)
  suffix_by_t ts false = after_t (λ t us h. subst (λ q. IsSuffix ts q us) (sym h.1) (placed IsSuffix h.2.0 IsSuffix.identifier)) (kept_t _)

  suffix_sound : Sound (suffix bound) IsSuffix
  unfolding suffix
  suffix_sound = record { from = λ ts. look_t spec.is_all (spec.suffix_by bound) (suffix_by_t ts) }

  prefix_sound : Sound (prefix bound) IsPrefix
  unfolding prefix
  prefix_sound = record { from = λ ts. token_t _ _ (λ x. bind_t (word_t _) (λ _. pure_t (λ us h. placed IsPrefix h.1 IsPrefix.dotted))) }

  use_clause_t : (ts : List Token) → Triple (λ us. (x : Span) × (word reserved.Use x ∷ us ≡ ts)) (use_clause bound) (IsContext ts)
  unfolding use_clause
  use_clause_t ts = bind_t (call_t prefix_sound) (λ l. bind_t (call_t prefix_sound) (λ p. bind_t (call_t suffix_sound) (λ s. bind_t (word_t _) (λ _.
      pure_t (λ us h. placed IsContext h.1.1.1.1.1 (use_is h.1.1.1.2 h.1.1.2 h.1.2))))))

  library_clause_t : (ts : List Token) → Triple (λ us. (x : Span) × (word reserved.Library x ∷ us ≡ ts)) (library_clause bound) (IsContext ts)
  unfolding library_clause
  library_clause_t ts = bind_t (call_t (identifiers_sound bound)) (λ names. bind_t (word_t _) (λ _. pure_t (λ us h. placed IsContext h.1.1.1 (IsContext.library h.1.2))))

  context_sound : Sound (context bound) IsContext
  unfolding context
  context_sound = record { from = λ ts. on_t _ (library_clause_t ts) (on_t _ (use_clause_t ts) stop_t) }

  -- ---- design units

  library_unit_by_t : (ts : List Token) (b : Bool) → Triple (λ us. (us ≡ ts) × (spec.is_entity (kind_of us) ≡ b)) (spec.library_unit_by bound b) (IsLibraryUnit ts)
  library_unit_by_t ts true = bind_t (before_t (λ us h. h.0) (start_t (entity_sound bound))) (λ e. pure_t (λ us h. IsLibraryUnit.entity h))
  library_unit_by_t ts false = bind_t (before_t (λ us h. h.0) (start_t architecture_sound)) (λ a. pure_t (λ us h. IsLibraryUnit.architecture h))

  library_unit_sound : Sound (library_unit bound) IsLibraryUnit
  unfolding library_unit
  library_unit_sound = record { from = λ ts. look_t spec.is_entity (spec.library_unit_by bound) (library_unit_by_t ts) }

  unit_sound : Sound (unit bound) IsDesignUnit
  unfolding unit
  unit_sound = record { from = λ ts. bind_t (start_t (many_sound bound spec.begins_context context_sound)) (λ c. bind_t (call_t library_unit_sound) (λ u. pure_t (λ us h. IsDesignUnit.unit h.1 h.2))) }

  -- further units behind the first one
  units_t : (ts : List Token) (first : DesignUnit) → Triple (IsDesignUnit ts first) (spec.units bound (first ∷ [])) (λ all us. IsDesignFile ts (record { units = all }) us)
  units_t ts first = before_t (λ us h. IsDesignFile.units h Many.none) (many_loop spec.begins_unit (λ all us. IsDesignFile ts (record { units = all }) us) unit_sound
      (λ all a us vs h r. file_snoc all h refl r) bound (first ∷ []))

  pub design_file_sound : Sound (design_file bound) IsDesignFile
  unfolding design_file
  design_file_sound = record { from = λ ts. bind_t (start_t unit_sound) (λ first. bind_t (units_t ts first) (λ all. pure_t (λ us h. h))) }
