-- What is found broken on the way along a design file is what is broken.
use Rattle.std.proofs.Common.{◌≡◌, ℕ, Option, Some, None, List, [], ◌∷◌, ◌++◌, ◌⊎◌, inl, inr, refl, sym, ap, ◌∙◌, subst}
use Rattle.std.proofs.lemmas.List.Elements.{Contains-append_cases, Contains-append_left, Contains-append_right}
use Rattle.std.specs.List.{Contains}
use Rattle.vhdl_names_checker.specs.After.{after}
use Rattle.vhdl_names_checker.specs.Events.{Event}
use Rattle.vhdl_names_checker.specs.Faults.{faults}
use Rattle.vhdl_names_checker.specs.Progress.{Progress, setting_out, step, walk}
use Rattle.vhdl_names_scope.specs.Declarations.{Named}
use Rattle.vhdl_tree.specs.declared.units.DesignFile.{DesignFile}
use Rattle.vhdl_names.proofs.Order.{before_both, none_in, some_first}
use Rattle.vhdl_names.specs.First.{IsFirst}
use Rattle.vhdl_names.specs.Static.{Breaks, BreaksIn, Static, behind}
use Rattle.vhdl_names.specs.Parts.{all_at, events_of}
use Rattle.vhdl_names.specs.Units.{architectures, of_file, of_units, units_of}
use Rattle.vhdl_tree.specs.declared.units.DesignUnit.{DesignUnit}
use Rattle.vhdl_units.specs.declared.units.ResolvedUnit.{ResolvedUnit}
use Rattle.vhdl_units.specs.declared.fault.Fault.{Fault}

-- ---- what is found is broken

Found : Progress → List Event → Fault → Type 0
Found p events f = Contains p.broken f ⊎ BreaksIn p.text p.file p.around events f

found_later : (e : Event) (events : List Event) (p : Progress) (f : Fault) → BreaksIn p.text p.file (after p.text e p.around) events f → BreaksIn p.text p.file p.around (e ∷ events) f
unfolding behind
found_later e events p f b = record { before = e ∷ b.before; event = b.event; rest = b.rest; whole = ap (λ es. e ∷ es) b.whole; broken = b.broken }

found_here : (e : Event) (events : List Event) (p : Progress) (f : Fault) → Contains (faults p.text p.file p.around e) f → BreaksIn p.text p.file p.around (e ∷ events) f
unfolding behind
found_here e events p f c = record { before = []; event = e; rest = events; whole = refl; broken = c }

found : (events : List Event) (p : Progress) (f : Fault) → Contains (walk events p).broken f → Contains p.broken f ⊎ BreaksIn p.text p.file p.around events f
unfolding walk step
found [] p f c = inl c
found (e ∷ events) p f c =
    elim (found events (step e p) f c) [
      | inl so_far ↦ elim (Contains-append_cases p.broken (faults p.text p.file p.around e) f so_far) [ inl before ↦ inl before | inr here ↦ inr (found_here e events p f here) ]
      | inr later ↦ inr (found_later e events p f later)
    ]

-- ---- what is broken is found

kept : (events : List Event) (p : Progress) (f : Fault) → Contains p.broken f → Contains (walk events p).broken f
unfolding walk step
kept [] p f c = c
kept (e ∷ events) p f c = kept events (step e p) f (Contains-append_left p.broken (faults p.text p.file p.around e) f c)

reached : (before : List Event) (e : Event) (rest : List Event) (p : Progress) (f : Fault)
    → Contains (faults p.text p.file (behind p.text p.around before) e) f → Contains (walk (before ++ e ∷ rest) p).broken f
unfolding walk step behind
reached [] e rest p f c = kept rest (step e p) f (Contains-append_right p.broken (faults p.text p.file p.around e) f c)
reached (b ∷ before) e rest p f c = reached before e rest (step b p) f c

broken_found : (events : List Event) (p : Progress) (f : Fault) → BreaksIn p.text p.file p.around events f → Contains (walk events p).broken f
broken_found events p f b =
    let P : List Event → Type 0 = λ es. Contains (walk es p).broken f in subst P (sym b.whole) (reached b.before b.event b.rest p f b.broken)

-- ---- the first

all_found : (text : List ℕ) (tree : DesignFile) (f : Fault) → Breaks text tree f → Contains (walk (of_file text tree) (setting_out text (architectures text tree))).broken f
unfolding setting_out
all_found text tree f b = broken_found (of_file text tree) (setting_out text (architectures text tree)) f b

all_broken : (text : List ℕ) (tree : DesignFile) (f : Fault) → Contains (walk (of_file text tree) (setting_out text (architectures text tree))).broken f → Breaks text tree f
unfolding setting_out
all_broken text tree f c = elim (found (of_file text tree) (setting_out text (architectures text tree)) f c) [ inl none ↦ absurd (none_in [] f refl none) | inr b ↦ b ]

first_is_static : (text : List ℕ) (tree : DesignFile) (first : Option Fault) → IsFirst (walk (of_file text tree) (setting_out text (architectures text tree))).broken first → Static text tree first
first_is_static text tree None none = λ f b. none_in _ f none (all_found text tree f b)
first_is_static text tree (Some f) is = (all_broken text tree f is.0, λ g b. is.1 g (all_found text tree g b))

pub static : (text : List ℕ) (tree : DesignFile) (first : Option Fault) {file : List Named} {start end : Progress} {all : List Fault} {us : List DesignUnit}
    → file ≡ architectures text tree → start ≡ setting_out text file → us ≡ tree.units → end ≡ walk (events_of (of_units text us)) start → all ≡ end.broken → IsFirst all first → Static text tree first
unfolding of_file
static text tree first {start = start} hf hs hu he ha is =
    let P : List Fault → Type 0 = λ fs. IsFirst fs first in
    let ended = he ∙ ap (λ us. walk (events_of (of_units text us)) start) hu in
    first_is_static text tree first (subst P (ha ∙ (ap (λ p. p.broken) ended ∙ (ap (λ p. (walk (of_file text tree) p).broken) hs ∙ ap (λ fs. (walk (of_file text tree) (setting_out text fs)).broken) hf))) is)

-- what the parts mean is what the file means
pub units : (text : List ℕ) (tree : DesignFile) {file : List Named} {start : Progress} {us : List DesignUnit} {resolved : List ResolvedUnit}
    → file ≡ architectures text tree → start ≡ setting_out text file → us ≡ tree.units → resolved ≡ all_at (of_units text us) start → record { units = resolved } ≡ units_of text tree
unfolding units_of
units text tree hf hs hu hr = rw (hr, hs, hf, hu) refl

-- ---- one answer

pub some_answer : (text : List ℕ) (tree : DesignFile) → (first : Option Fault) × Static text tree first
some_answer text tree =
    let s = some_first (walk (of_file text tree) (setting_out text (architectures text tree))).broken in (s.0, first_is_static text tree s.0 s.1)

pub one_answer : (text : List ℕ) (tree : DesignFile) (first other : Option Fault) → Static text tree first → Static text tree other → first ≡ other
one_answer text tree None None none _ = refl
one_answer text tree None (Some g) none is = absurd (none g is.0)
one_answer text tree (Some f) None is none = absurd (none f is.0)
one_answer text tree (Some f) (Some g) is it = ap Some (before_both f g (is.1 g it.0) (it.1 f is.0))
