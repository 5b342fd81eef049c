-- Design units that stand there are read, unless a bound is used up.
use Rattle.std.proofs.Common.{◌≡◌, ℕ, true, false, Option, List, [], ◌∷◌, refl}
use Rattle.vhdl_tokens.specs.declared.token.Kind.TheVariants as kind
use Rattle.vhdl_tokens.specs.declared.token.Token.{Token}
use Rattle.vhdl_tokens.specs.declared.token.Delimiter.TheVariants as delimiter
use Rattle.vhdl_tokens.specs.declared.reserved.Reserved.TheVariants as reserved
use Rattle.vhdl_tree.specs.declared.units.Architecture.{Architecture}
use Rattle.vhdl_tree.specs.declared.units.ContextClause.{ContextClause}
use Rattle.vhdl_tree.specs.declared.units.LibraryUnit.{LibraryUnit}
use Rattle.vhdl_tree.specs.declared.units.DesignUnit.{DesignUnit}
use Rattle.vhdl_tree.specs.declared.units.DesignFile.{DesignFile}
use Rattle.vhdl_tree.specs.Words.{Span, word, mark, kind_of}
use Rattle.vhdl_tree.specs.Lists.{Many, IsOptional}
use Rattle.vhdl_tree.specs.Declarations.{IsEntity}
use Rattle.vhdl_tree.specs.Units.{IsArchitecture, IsSuffix, IsContext, IsLibraryUnit, IsDesignUnit, IsDesignFile}
use Rattle.vhdl_reader_expressions.specs.Kinds.{same, same_word, same_delimiter}
use Rattle.vhdl_reader_expressions.specs.Steps.{Found}
use Rattle.vhdl_reader_expressions.proofs.Complete.{Reaches, Complete, Anything, bind_up, pure_up, on_hit, on_miss, look_up, on_line_up, word_up, token_up, optional_up, many_up}
use Rattle.vhdl_reader_declarations.proofs.Completes.{identifiers_up, declarations_complete, entity_complete}
use Rattle.vhdl_reader.specs.Reading as spec
use Rattle.vhdl_reader.specs.Reading.{is_all, is_entity, begins_concurrent, begins_context, begins_unit, architecture_head, architecture_of, architecture_body, architecture_end, architecture, suffix, prefix, use_clause, library_clause, context, library_unit, unit, design_file}
use Rattle.vhdl_reader.proofs.Follow.{optional_unseen}
use Rattle.vhdl_reader.proofs.ConcurrentCompletes.{concurrent_starts, concurrent_complete}

-- ---- what they begin with

context_starts : (ts us : List Token) (a : ContextClause) → IsContext ts a us → begins_context (kind_of ts) ≡ true
context_starts ts us a (IsContext.library names) = refl
context_starts ts us a (IsContext.use_ r) = refl

no_context : {ts us : List Token} {a : LibraryUnit} → IsLibraryUnit ts a us → begins_context (kind_of ts) ≡ false
no_context (IsLibraryUnit.entity (IsEntity.declared gs ps class name)) = refl
no_context (IsLibraryUnit.architecture (IsArchitecture.architecture ds all class name)) = refl

library_starts : {ts us : List Token} {a : LibraryUnit} → IsLibraryUnit ts a us → begins_unit (kind_of ts) ≡ true
library_starts (IsLibraryUnit.entity (IsEntity.declared gs ps class name)) = refl
library_starts (IsLibraryUnit.architecture (IsArchitecture.architecture ds all class name)) = refl

unit_starts : (ts us : List Token) (a : DesignUnit) → IsDesignUnit ts a us → begins_unit (kind_of ts) ≡ true
unit_starts ts us a (IsDesignUnit.unit Many.none r) = library_starts r
unit_starts ts us a (IsDesignUnit.unit (Many.more (IsContext.library names) rest) r) = refl
unit_starts ts us a (IsDesignUnit.unit (Many.more (IsContext.use_ s) rest) r) = refl

module _ (bound : ℕ) where
  -- ---- architectures

  architecture_end_up : {ts us vs : List Token} {x y : Span} {class name : Option Token} → IsOptional (kind.Word reserved.Architecture) ts class us
      → IsOptional kind.Identifier us name (mark delimiter.Semicolon y ∷ vs) → Reaches (architecture_end bound) (word reserved.End x ∷ ts) (Found name vs)
  unfolding architecture_end same same_word
  architecture_end_up class name = bind_up _ (word_up _) (bind_up _ (optional_up class (optional_unseen _ name refl refl)) (bind_up _ (optional_up name refl) (bind_up _ (word_up _) pure_up)))

  architecture_up : {ts us : List Token} {a : Architecture} → IsArchitecture ts a us → Reaches (architecture bound) ts (Found a us)
  unfolding architecture architecture_head architecture_of architecture_body
  architecture_up (IsArchitecture.architecture ds all class name) = on_line_up (spec.architecture_at bound) (bind_up _ (bind_up _ (word_up _) (token_up _))
      (bind_up _ (bind_up _ (word_up _) (bind_up _ (token_up _) (bind_up _ (word_up _) pure_up))) (bind_up _ ((declarations_complete bound).reads ds refl)
      (bind_up _ (bind_up _ (word_up _) (many_up bound begins_concurrent [] (concurrent_complete bound) concurrent_starts (λ k e. tt) all tt refl))
      (bind_up _ (architecture_end_up class name) pure_up)))))

  -- ---- context clauses

  suffix_up : {ts us : List Token} {t : Token} → IsSuffix ts t us → Reaches (suffix bound) ts (Found t us)
  unfolding suffix
  suffix_up IsSuffix.identifier = look_up is_all (spec.suffix_by bound) refl (token_up _)
  suffix_up IsSuffix.all = look_up is_all (spec.suffix_by bound) refl (token_up _)

  context_up : {ts us : List Token} {a : ContextClause} → IsContext ts a us → Reaches (context bound) ts (Found a us)
  unfolding context library_clause use_clause prefix same same_word same_delimiter
  context_up (IsContext.library names) = on_hit _ _ _ (bind_up _ (identifiers_up bound names refl) (bind_up _ (word_up _) pure_up))
  context_up (IsContext.use_ r) = on_miss _ (library_clause bound) _ refl (on_hit _ _ _ (bind_up _ (bind_up _ (token_up _) (bind_up _ (word_up _) pure_up))
      (bind_up _ (bind_up _ (token_up _) (bind_up _ (word_up _) pure_up)) (bind_up _ (suffix_up r) (bind_up _ (word_up _) pure_up)))))

  context_complete : Complete Anything (context bound) IsContext
  context_complete = record { reads = λ r h. context_up r }

  -- ---- design units

  library_unit_up : {ts us : List Token} {a : LibraryUnit} → IsLibraryUnit ts a us → Reaches (library_unit bound) ts (Found a us)
  unfolding library_unit
  library_unit_up (IsLibraryUnit.entity (IsEntity.declared gs ps class name)) = look_up is_entity (spec.library_unit_by bound) refl
      (bind_up _ ((entity_complete bound).reads (IsEntity.declared gs ps class name) tt) pure_up)
  library_unit_up (IsLibraryUnit.architecture (IsArchitecture.architecture ds all class name)) = look_up is_entity (spec.library_unit_by bound) refl
      (bind_up _ (architecture_up (IsArchitecture.architecture ds all class name)) pure_up)

  unit_up : {ts us : List Token} {a : DesignUnit} → IsDesignUnit ts a us → Reaches (unit bound) ts (Found a us)
  unfolding unit
  unit_up (IsDesignUnit.unit list r) = bind_up _ (many_up bound begins_context [] context_complete context_starts (λ k e. tt) list tt (no_context r)) (bind_up _ (library_unit_up r) pure_up)

  unit_complete : Complete Anything (unit bound) IsDesignUnit
  unit_complete = record { reads = λ r h. unit_up r }

  pub design_file_complete : Complete (λ k. begins_unit k ≡ false) (design_file bound) IsDesignFile
  unfolding design_file
  design_file_complete = record { reads = by }
    where
      by : {ts us : List Token} {a : DesignFile} → IsDesignFile ts a us → begins_unit (kind_of us) ≡ false → Reaches (design_file bound) ts (Found a us)
      by (IsDesignFile.units {first = first} one list) h = bind_up _ (unit_up one) (bind_up _ (many_up bound begins_unit (first ∷ []) unit_complete unit_starts (λ k e. tt) list tt h) pure_up)

-- a file behind which nothing stands
pub design_file_up : (bound : ℕ) (ts : List Token) (a : DesignFile) → IsDesignFile ts a [] → Reaches (design_file bound) ts (Found a [])
design_file_up bound ts a r = (design_file_complete bound).reads r refl
