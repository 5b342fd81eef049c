-- The walk along processes, entities, architectures and units, and what they mean, by those of their parts.
use Rattle.std.proofs.Common.{◌≡◌, ℕ, Bool, Option, List, map, refl, ap, ◌∙◌}
use Rattle.vhdl_names_checker.specs.After.{entity_number}
use Rattle.vhdl_names_checker.specs.Events.{Event}
use Rattle.vhdl_names_checker.specs.Progress.{Progress, step, walk}
use Rattle.vhdl_names.specs.Parts.{all_at, events_of}
use Rattle.vhdl_names.specs.Statements.{of_declaration, of_declarations, of_statement, of_statements}
use Rattle.vhdl_names.specs.Units.{architecture_at, architecture_events, entity_at, entity_events, is_bare, is_listed, of_architecture, of_concurrent, of_entity, of_generic, of_port, of_process, of_sensitivity, process_at, process_events, sensitivity_events}
use Rattle.vhdl_names.proofs.Parts.{Goes}
use Rattle.vhdl_names.proofs.Walks.{just_event, then_all, then_event, then_part}
use Rattle.vhdl_names_scope.specs.Names.{word_in}
use Rattle.vhdl_tokens.specs.Meaning.{span}
use Rattle.vhdl_tokens.specs.declared.token.Token.{Token}
use Rattle.vhdl_tree.specs.declared.declarations.Declaration.{Declaration}
use Rattle.vhdl_tree.specs.declared.statements.Statement.{Statement}
use Rattle.vhdl_tree.specs.declared.units.Architecture.{Architecture}
use Rattle.vhdl_tree.specs.declared.units.Concurrent.{Concurrent}
use Rattle.vhdl_tree.specs.declared.units.Entity.{Entity}
use Rattle.vhdl_tree.specs.declared.units.Generic.{Generic}
use Rattle.vhdl_tree.specs.declared.units.Port.{Port}
use Rattle.vhdl_tree.specs.declared.units.Process.{Process}
use Rattle.vhdl_units.specs.declared.declarations.ResolvedDeclaration.{ResolvedDeclaration}
use Rattle.vhdl_units.specs.declared.declarations.ResolvedObjects.{ResolvedObjects}
use Rattle.vhdl_units.specs.declared.statements.ResolvedStatement.{ResolvedStatement}
use Rattle.vhdl_units.specs.declared.units.ResolvedConcurrent.{ResolvedConcurrent}
use Rattle.vhdl_units.specs.declared.units.ResolvedSensitivity.{ResolvedSensitivity}

pub process_part : (label : Option Token) (s : Process) (listed : Bool) (p : Progress) {ds : List Declaration} {xs : List Statement} {v : ResolvedSensitivity} {rs : List ResolvedDeclaration} {os : List ResolvedStatement} {a b d e q : Progress}
    → a ≡ walk (of_sensitivity s.sensitivity).events p → v ≡ (of_sensitivity s.sensitivity).at p → listed ≡ is_listed s.sensitivity → b ≡ step (Event.Process listed) a
    → ds ≡ s.declarations → d ≡ walk (events_of (of_declarations ds)) b → rs ≡ all_at (of_declarations ds) b
    → xs ≡ s.statements → e ≡ walk (events_of (of_statements xs)) d → os ≡ all_at (of_statements xs) d
    → q ≡ step (Event.EndProcess label s.end_name) e
    → Goes (record { postponed = s.postponed; sensitivity = v; declarations = rs; statements = os }) q (of_process label s) p
unfolding of_process process_events process_at of_sensitivity of_declarations of_statements
process_part label s listed p {ds = ds} {xs = xs} {a = a} ha hv hl hb hd hwalk hr hx he hos hq = (
  then_part (sensitivity_events s.sensitivity) _ p ha (then_event (Event.Process (is_listed s.sensitivity)) _ a (hb ∙ ap (λ l. step (Event.Process l) a) hl)
      (then_all of_declaration s.declarations ds _ _ hd hwalk (then_all of_statement s.statements xs _ _ hx he (just_event _ _ hq)))),
  rw (hv, hr, hos, hwalk, hb, ha, hl, hd, hx) refl,
)

pub entity_part : (s : Entity) (p : Progress) {gs : List Generic} {ps : List Port} {name : List ℕ} {rs os : List ResolvedObjects} {a b d q : Progress}
    → name ≡ span p.text s.name → a ≡ step (Event.Entity s.name) p
    → gs ≡ s.generics → b ≡ walk (events_of (map of_generic gs)) a → rs ≡ all_at (map of_generic gs) a
    → ps ≡ s.ports → d ≡ walk (events_of (map of_port ps)) b → os ≡ all_at (map of_port ps) b
    → q ≡ step (Event.EndEntity s.name s.end_name) d
    → Goes (record { line = s.line; name = name; generics = rs; ports = os }) q (of_entity s) p
unfolding of_entity entity_events entity_at
entity_part s p {gs = gs} {ps = ps} hn ha hg hb hr hp hd hos hq = (
  then_event (Event.Entity s.name) _ p ha (then_all of_generic s.generics gs _ _ hg hb (then_all of_port s.ports ps _ _ hp hd (just_event _ _ hq))),
  rw (hn, hr, hos, hb, ha, hg, hp) refl,
)

pub architecture_part : (text : List ℕ) (s : Architecture) (bare : Bool) (p : Progress) {ds : List Declaration} {xs : List Concurrent} {name : List ℕ} {entity : Option ℕ} {rs : List ResolvedDeclaration} {os : List ResolvedConcurrent} {a b d q : Progress}
    → name ≡ span p.text s.name → entity ≡ entity_number (word_in p.text s.entity) p.around → bare ≡ is_bare text s → a ≡ step (Event.Architecture s.name s.entity bare) p
    → ds ≡ s.declarations → b ≡ walk (events_of (of_declarations ds)) a → rs ≡ all_at (of_declarations ds) a
    → xs ≡ s.statements → d ≡ walk (events_of (map of_concurrent xs)) b → os ≡ all_at (map of_concurrent xs) b
    → q ≡ step (Event.EndArchitecture s.name s.end_name) d
    → Goes (record { line = s.line; name = name; entity = entity; declarations = rs; statements = os }) q (of_architecture text s) p
unfolding of_architecture architecture_events architecture_at of_declarations
architecture_part text s bare p {ds = ds} {xs = xs} hn hent his ha hd hb hr hx hwalk hos hq = (
  then_event (Event.Architecture s.name s.entity (is_bare text s)) _ p (ha ∙ ap (λ b. step (Event.Architecture s.name s.entity b) p) his)
      (then_all of_declaration s.declarations ds _ _ hd hb (then_all of_concurrent s.statements xs _ _ hx hwalk (just_event _ _ hq))),
  rw (hn, hent, hr, hos, hb, ha, his, hd, hx) refl,
)
