use Rattle.std.proofs.Common.{◌≡◌, ℕ, ◌+◌, ◌≤◌, List, [], ◌∷◌, ◌++◌, Option, Some, None, true, refl, sym, ap, subst, ◌∙◌, arith, append_assoc, append-nil, zero, suc, nat_le, length}
use Rattle.std.proofs.lemmas.Bool.{le-leb}
use Rattle.sim_design.specs.declared.Design.{Design}
use Rattle.sim_journal.specs.declared.Entry.{Entry}
use Rattle.sim_journal.specs.declared.Entry.TheVariants as entries
use Rattle.sim_journal.specs.declared.End.{End}
use Rattle.sim_journal.specs.declared.End.TheVariants as ends
use Rattle.vhpi_kernel.specs.State.{State, Next, Update, events, table, driving_value, all_ran}
use Rattle.vhpi_kernel.specs.Cycle.{Task, ComputeValues, RunProcesses, StartCycle, UpdateSignals, Does, Tasks, Cycle, moved}
use Rattle.vhpi_kernel.specs.declared.Plan.{Plan}
use Rattle.vhpi_kernel.specs.Run.{IsRest, IsLeft, IsRun, Part, end_at, end_by}
use Rattle.vhpi_kernel.specs.Simulation.{Simulation, first_simulation, Left, left_by, Extends, section, SectionDone, EndReached}

-- a simulation is what follows itself
pub extends_same : (w : Simulation) → Extends w [] w
extends_same w = λ es end h. h

-- one after the other
pub extends_more : (u v w : Simulation) (xs ys : List Entry) → Extends u xs v → Extends v ys w → Extends u (xs ++ ys) w
extends_more u v w xs ys first second =
    λ es end h. subst (λ (l : List Entry). Left u l end) (sym (append_assoc xs ys es)) (first (ys ++ es) end (second es end h))

-- between two sections only the rest of the run is left
pub rest_of_left : (d : Design) (plan : Plan) (s : State) (es : List Entry) (end : End) → IsLeft d plan [] s es end → IsRest d plan s es end
rest_of_left d plan s es end h =
    let whole : h.back ≡ es = sym (rw h.first.0 at h.whole) in
    let rest : IsRest d plan s h.back end = subst (λ (x : State). IsRest d plan x h.back end) h.first.1 h.last in
    subst (λ (l : List Entry). IsRest d plan s l end) whole rest

pub left_of_rest : (d : Design) (plan : Plan) (s : State) (es : List Entry) (end : End) → IsRest d plan s es end → IsLeft d plan [] s es end
left_of_rest d plan s es end h = record { front = []; back = es; mid = s; whole = refl; first = (refl, refl); last = h }

-- a section is done, and then comes the rest
pub section_left : (d : Design) (plan : Plan) (s t : State) (tasks : List Task) (added es : List Entry) (end : End) → (tasks ≡ [] → end_at plan s ≡ None) → Tasks d (section tasks) s added t → IsRest d plan t es end → IsLeft d plan tasks s (added ++ es) end
section_left d plan s t [] added es end goes done rest =
    left_of_rest d plan s (added ++ es) end (suc rest.0, (goes refl, record { front = added; back = es; mid = t; whole = refl; first = done; last = rest.1 }))
section_left d plan s t (k ∷ ks) added es end goes done rest =
    record { front = added; back = es; mid = t; whole = refl; first = done; last = rest }

pub section_extends : (old new : Simulation) (h : SectionDone old new) → Extends old h.added new
section_extends old new h =
    λ es end left.
    let next : Simulation = record old { state = new.state; journal = old.journal ++ h.added; tasks = [] } in
    let left : left_by old.ended next es end = subst (λ (w : Simulation). left_by w.ended w es end) h.after left in
    let left : IsLeft old.design old.plan [] new.state es end = subst (λ (o : Option End). left_by o next es end) h.running left in
    subst (λ (o : Option End). left_by o old (h.added ++ es) end) (sym h.running)
    (section_left old.design old.plan old.state new.state old.tasks h.added es end h.goes_on h.done (rest_of_left old.design old.plan new.state es end left))

pub end_extends : (old new : Simulation) (e : End) (h : EndReached old new e) → Extends old (entries.Ended e ∷ []) new
end_extends old new e h =
    λ es end left.
    let next : Simulation = record old { journal = old.journal ++ entries.Ended e ∷ []; ended = Some e } in
    let left : (es ≡ []) × (end ≡ e) = subst (λ (w : Simulation). left_by w.ended w es end) h.after left in
    let rest : IsRest old.design old.plan old.state (entries.Ended e ∷ es) end =
    (zero, (h.applies ∙ ap (λ (x : End). Some x) (sym left.1), rw (left.0, left.1) refl)) in
    let all : IsLeft old.design old.plan old.tasks old.state (entries.Ended e ∷ es) end =
    subst (λ (ks : List Task). IsLeft old.design old.plan ks old.state (entries.Ended e ∷ es) end) (sym h.between) (left_of_rest old.design old.plan old.state (entries.Ended e ∷ es) end rest) in
    subst (λ (o : Option End). left_by o old (entries.Ended e ∷ es) end) (sym h.running) all

-- what follows the first simulation up to an end is a run
pub run_of : (d : Design) (plan : Plan) (es : List Entry) (w : Simulation) (e : End) → Extends (first_simulation d plan) es w → w.ended ≡ Some e → IsRun d plan es e
run_of d plan es w e extends is =
    let last : Left w [] e = subst (λ (o : Option End). left_by o w [] e) (sym is) (refl, refl) in
    subst (λ (l : List Entry). IsRun d plan l e) (append-nil es) (extends [] e last)

-- every task can be done
pub does_something : (d : Design) (task : Task) (s : State) → (es : List Entry) × (t : State) × Does d task s es t
does_something d ComputeValues s = ([], record s { values = table (length d.nets) (driving_value d s.waves) }, (refl, refl))
does_something d RunProcesses s = ([], record s { waves = all_ran s.now d.processes s.waves }, (refl, refl))
does_something d StartCycle s = let t : State = moved s in (entries.Time t.now t.delta t.cycle ∷ [], t, (refl, refl))
does_something d UpdateSignals s = let t : State = Update d s in (events (length d.nets) s.values t.values, t, (refl, refl))

pub do_something : (d : Design) (tasks : List Task) (s : State) → (es : List Entry) × (t : State) × Tasks d tasks s es t
do_something d [] s = ([], s, (refl, refl))
do_something d (k ∷ ks) s =
    let here : (es : List Entry) × (t : State) × Does d k s es t = does_something d k s in
    let rest : (es : List Entry) × (t : State) × Tasks d ks here.1 es t = do_something d ks here.1 in
    (here.0 ++ rest.0, rest.1, record { front = here.0; back = rest.0; mid = here.1; whole = refl; first = here.2; second = rest.2 })

-- a cycle can be done, and is one more
pub cycle_from : (d : Design) (s : State) → (es : List Entry) × (t : State) × Cycle d s es t × (t.cycle ≡ s.cycle + 1)
cycle_from d s =
    let t : State = moved s in
    let u : State = Update d t in
    let es : List Entry = events (length d.nets) t.values u.values in (
      entries.Time t.now t.delta t.cycle ∷ (es ++ []),
      u,
      record {
        front = entries.Time t.now t.delta t.cycle ∷ [];
        back = es ++ [];
        mid = t;
        whole = refl;
        first = (refl, refl);
        second = record { front = es; back = []; mid = u; whole = refl; first = (refl, refl); second = (refl, refl) };
      },
      refl,
    )

-- at the limit some end applies
pub ends_by : (plan : Plan) (s : State) (next : Option ℕ) → plan.limit ≤ s.cycle → end_by plan s next ≡ None → ⊥
ends_by plan s None over none = cc
ends_by plan s (Some next) over none =
    let over : nat_le plan.limit s.cycle ≡ true = le-leb plan.limit s.cycle over in
    let some : Some (ends.CycleLimit s.now s.cycle) ≡ None = rw over at none in
    cc

-- from every state between two cycles there is a way on to an end
pub rest_by : (fuel : ℕ) (d : Design) (plan : Plan) (s : State) (o : Option End) → end_at plan s ≡ o → plan.limit ≤ s.cycle + fuel → (es : List Entry) × (end : End) × IsRest d plan s es end
rest_by fuel d plan s (Some e) is within = (entries.Ended e ∷ [], e, (zero, (is, refl)))
rest_by zero d plan s None is within = absurd (ends_by plan s (Next s) (omega arith) is)
rest_by (suc fuel) d plan s None is within =
    let step : (es : List Entry) × (t : State) × Cycle d s es t × (t.cycle ≡ s.cycle + 1) = cycle_from d s in
    let rest : (es : List Entry) × (end : End) × IsRest d plan step.1 es end =
    rest_by fuel d plan step.1 (end_at plan step.1) refl (omega (arith, step.3)) in
    (step.0 ++ rest.0, rest.1, (suc rest.2.0, (is, record { front = step.0; back = rest.0; mid = step.1; whole = refl; first = step.2; last = rest.2.1 })))

pub rest_from : (d : Design) (plan : Plan) (s : State) → (es : List Entry) × (end : End) × IsRest d plan s es end
rest_from d plan s = rest_by plan.limit d plan s (end_at plan s) refl (omega arith)

-- from every simulation there is a way on to an end
pub goes_on_by : (w : Simulation) (ended : Option End) → (es : List Entry) × (end : End) × left_by ended w es end
goes_on_by w (Some e) = ([], e, (refl, refl))
goes_on_by w None =
    let first : (es : List Entry) × (t : State) × Tasks w.design w.tasks w.state es t = do_something w.design w.tasks w.state in
    let rest : (es : List Entry) × (end : End) × IsRest w.design w.plan first.1 es end = rest_from w.design w.plan first.1 in
    (first.0 ++ rest.0, rest.1, record { front = first.0; back = rest.0; mid = first.1; whole = refl; first = first.2; last = rest.2 })

pub goes_on : (w : Simulation) → (es : List Entry) × (end : End) × Left w es end
goes_on w = goes_on_by w w.ended

-- what leads from the first simulation to some simulation is the first part of a run
pub part_of : (d : Design) (plan : Plan) (es : List Entry) (w : Simulation) → Extends (first_simulation d plan) es w → Part d plan es
part_of d plan es w extends =
    let rest : (es : List Entry) × (end : End) × Left w es end = goes_on w in
    (rest.0, rest.1, extends rest.0 rest.1 rest.2)
