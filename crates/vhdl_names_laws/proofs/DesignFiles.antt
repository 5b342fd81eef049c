-- The units of a design file in which no rule is broken: nothing in them is unknown.
use Rattle.std.proofs.Common.{◌≡◌, ℕ, true, None, List, [], ◌∷◌, refl, ap}
use Rattle.std.proofs.lemmas.List.Elements.{Contains-append_left, Contains-push}
use Rattle.std.specs.List.{Contains}
use Rattle.vhdl_names_checker.specs.Events.{Event}
use Rattle.vhdl_names_checker.specs.Faults.{faults}
use Rattle.vhdl_names_checker.specs.Progress.{Progress, setting_out, step}
use Rattle.vhdl_names_laws.specs.KnownUnits.{known_unit, known_units}
use Rattle.vhdl_names.specs.Static.{BreaksIn, Static, behind}
use Rattle.vhdl_names.specs.Units.{architectures, of_file, of_units, units_of}
use Rattle.vhdl_names_laws.proofs.Concurrents.{units_known}
use Rattle.vhdl_names_laws.proofs.KnowsUnits.{last_parts}
use Rattle.vhdl_names_laws.proofs.Unbroken.{Unbroken}
use Rattle.vhdl_tree.specs.declared.units.DesignFile.{DesignFile}
use Rattle.vhdl_units.specs.declared.fault.Fault.{Fault}

none_there : (faults : List Fault) → ((f : Fault) → Contains faults f → ⊥) → faults ≡ []
none_there [] h = refl
none_there (f ∷ faults) h = absurd (h f (Contains-append_left (f ∷ []) faults f (Contains-push [] f)))

breaks_here : (e : Event) (events : List Event) (p : Progress) (f : Fault) → Contains (faults p.text p.file p.around e) f → BreaksIn p.text p.file p.around (e ∷ events) f
unfolding behind
breaks_here e events p f c = record { before = []; event = e; rest = events; whole = refl; broken = c }

breaks_later : (e : Event) (events : List Event) (p : Progress) (f : Fault) → BreaksIn p.text p.file (step e p).around events f → BreaksIn p.text p.file p.around (e ∷ events) f
unfolding behind step
breaks_later e events p f b = record { before = e ∷ b.before; event = b.event; rest = b.rest; whole = ap (λ es. e ∷ es) b.whole; broken = b.broken }

unbroken_along : (events : List Event) (p : Progress) → ((f : Fault) → BreaksIn p.text p.file p.around events f → ⊥) → Unbroken events p
unfolding Unbroken step
unbroken_along [] p none = tt
unbroken_along (e ∷ events) p none =
    (none_there (faults p.text p.file p.around e) (λ f c. none f (breaks_here e events p f c)), unbroken_along events (step e p) (λ f b. none f (breaks_later e events p f b)))

pub design_known : (text : List ℕ) (tree : DesignFile) → Static text tree None → known_units (units_of text tree) ≡ true
unfolding units_of known_units of_file setting_out
design_known text tree none =
    let start = setting_out text (architectures text tree) in
    last_parts known_unit (of_units text tree.units) start (units_known text tree.units) (unbroken_along (of_file text tree) start none)
