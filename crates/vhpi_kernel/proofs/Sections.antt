use Rattle.std.proofs.Common.{◌≡◌, ℕ, ◌<◌, List, [], ◌∷◌, ◌++◌, length, false, Option, Some, None, refl, sym, ap, subst, ◌∙◌, append_assoc, append-nil, nat_le, unwrap_or}
use Rattle.std.proofs.lemmas.Bool.{lt-leb}
use Rattle.sim_design.specs.declared.Design.{Design}
use Rattle.sim_journal.specs.declared.Entry.{Entry}
use Rattle.vhpi_kernel.specs.declared.Plan.{Plan}
use Rattle.vhpi_kernel.specs.State.{State, Next, Update, events}
use Rattle.vhpi_kernel.specs.Cycle.{Task, Tasks, moved_to, moved, cycle}
use Rattle.vhpi_kernel.specs.Run.{end_at}
use Rattle.vhpi_kernel.specs.Simulation.{Simulation, SectionDone, section}
use Rattle.vhpi_kernel.specs.Kernel.{time_entry}

-- no end applies before the limit where there is a next time
pub no_end : (plan : Plan) (s : State) (next : ℕ) → Next s ≡ Some next → s.cycle < plan.limit → end_at plan s ≡ None
no_end plan s next is below =
    let before : nat_le plan.limit s.cycle ≡ false = lt-leb plan.limit s.cycle below in
    rw (is, before) refl

-- a whole cycle
cycle_tasks : (d : Design) (s : State) (next : ℕ) → Next s ≡ Some next → Tasks d cycle s (time_entry (moved_to next s) ∷ events (length d.nets) s.values (Update d (moved_to next s)).values) (Update d (moved_to next s))
cycle_tasks d s next is =
    let same : moved_to next s ≡ moved s = ap (λ (o : Option ℕ). moved_to (unwrap_or o s.now) s) (sym is) in
    let t : State = moved_to next s in
    let u : State = Update d t in
    let es : List Entry = events (length d.nets) s.values u.values in
    record {
      front = time_entry t ∷ [];
      back = es;
      mid = t;
      whole = refl;
      first = (refl, same);
      second = record { front = es; back = []; mid = u; whole = sym (append-nil es); first = (refl, refl); second = (refl, refl) };
    }

-- the simulation after a cycle
abbrev cycled : Simulation → ℕ → Simulation
cycled w next = record w {
  state = Update w.design (moved_to next w.state);
  journal = (w.journal ++ time_entry (moved_to next w.state) ∷ []) ++ events (length w.design.nets) w.state.values (Update w.design (moved_to next w.state)).values;
}

cycled_done : (old : Simulation) (next : ℕ) → old.ended ≡ None → old.tasks ≡ [] → Next old.state ≡ Some next → old.state.cycle < old.plan.limit → SectionDone old (cycled old next)
cycled_done old next running between is below =
    let t : State = moved_to next old.state in
    let u : State = Update old.design t in
    let es : List Entry = events (length old.design.nets) old.state.values u.values in
    record {
      running = running;
      goes_on = λ _. no_end old.plan old.state next is below;
      added = time_entry t ∷ es;
      done = subst (λ (ks : List Task). Tasks old.design (section ks) old.state (time_entry t ∷ es) u) (sym between) (cycle_tasks old.design old.state next is);
      after =
          ap (λ (j : List Entry). record old { state = u; journal = j }) (append_assoc old.journal (time_entry t ∷ []) es)
          ∙ ap (λ (ks : List Task). record old { state = u; journal = old.journal ++ (time_entry t ∷ es); tasks = ks }) between;
    }

pub cycle_done : (old mid new : Simulation) (next : ℕ) → old.ended ≡ None → old.tasks ≡ [] → Next old.state ≡ Some next → old.state.cycle < old.plan.limit →
    mid ≡ record old { state = moved_to next old.state; journal = old.journal ++ time_entry (moved_to next old.state) ∷ [] } →
    new ≡ record mid { state = Update mid.design mid.state; journal = mid.journal ++ events (length mid.design.nets) mid.state.values (Update mid.design mid.state).values } → SectionDone old new
cycle_done old mid new next running between is below e1 e2 =
    let whole : new ≡ cycled old next = e2 ∙ ap (λ (w : Simulation). record w { state = Update w.design w.state; journal = w.journal ++ events (length w.design.nets) w.state.values (Update w.design w.state).values }) e1 in
    subst (λ (w : Simulation). SectionDone old w) (sym whole) (cycled_done old next running between is below)
