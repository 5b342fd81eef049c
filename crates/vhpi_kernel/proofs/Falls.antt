use Rattle.std.proofs.Common.{◌≡◌, ◌+◌, ◌-◌, ◌<◌, ◌≤◌, List, [], ◌∷◌, None, length, refl, sym, ap, subst, arith, ◌⊎◌, inl, inr}
use Rattle.std.proofs.lemmas.Bool.{cases_lt}
use Rattle.sim_design.specs.declared.Design.{Design}
use Rattle.sim_journal.specs.declared.Entry.{Entry}
use Rattle.vhpi_kernel.specs.State.{State, Next}
use Rattle.vhpi_kernel.specs.Cycle.{Task, ComputeValues, RunProcesses, StartCycle, UpdateSignals, Does, Tasks, cycle}
use Rattle.vhpi_kernel.specs.declared.Plan.{Plan}
use Rattle.vhpi_kernel.specs.Run.{end_at}
use Rattle.vhpi_kernel.specs.Simulation.{Simulation, SectionDone, section, sections_left}
use Rattle.vhpi_kernel.proofs.Moves.{ends_by}

-- no task turns the number of the cycle back
does_later : (d : Design) (k : Task) (s t : State) (es : List Entry) → Does d k s es t → s.cycle ≤ t.cycle
does_later d ComputeValues s t es h =
    let same : t.cycle ≡ s.cycle = ap (λ (x : State). x.cycle) h.1 in
    omega (arith, same)
does_later d RunProcesses s t es h =
    let same : t.cycle ≡ s.cycle = ap (λ (x : State). x.cycle) h.1 in
    omega (arith, same)
does_later d StartCycle s t es h =
    let next : t.cycle ≡ s.cycle + 1 = ap (λ (x : State). x.cycle) h.1 in
    omega (arith, next)
does_later d UpdateSignals s t es h =
    let same : t.cycle ≡ s.cycle = ap (λ (x : State). x.cycle) h.1 in
    omega (arith, same)

tasks_later : (d : Design) (ks : List Task) (s t : State) (es : List Entry) → Tasks d ks s es t → s.cycle ≤ t.cycle
tasks_later d [] s t es h =
    let same : t.cycle ≡ s.cycle = ap (λ (x : State). x.cycle) h.1 in
    omega (arith, same)
tasks_later d (k ∷ ks) s t es h =
    let first : s.cycle ≤ h.mid.cycle = does_later d k s h.mid h.front h.first in
    let rest : h.mid.cycle ≤ t.cycle = tasks_later d ks h.mid t h.back h.second in
    omega (arith, first, rest)

-- and a cycle turns it on
cycle_later : (d : Design) (s t : State) (es : List Entry) → Tasks d cycle s es t → s.cycle < t.cycle
cycle_later d s t es h =
    let next : h.mid.cycle ≡ s.cycle + 1 = ap (λ (x : State). x.cycle) h.first.1 in
    let rest : h.mid.cycle ≤ t.cycle = tasks_later d (UpdateSignals ∷ []) h.mid t h.back h.second in
    omega (arith, next, rest)

-- where no end applies, the limit isn't reached
below_by : (plan : Plan) (s : State) → end_at plan s ≡ None → (s.cycle < plan.limit) ⊎ (plan.limit ≤ s.cycle) → s.cycle < plan.limit
below_by plan s none (inl less) = less
below_by plan s none (inr over) = absurd (ends_by plan s (Next s) over none)

falls_by : (d : Design) (plan : Plan) (s t : State) (tasks : List Task) (es : List Entry) → (tasks ≡ [] → end_at plan s ≡ None) → Tasks d (section tasks) s es t → (plan.limit - t.cycle) + 0 < (plan.limit - s.cycle) + length tasks
falls_by d plan s t [] es goes done =
    let less : s.cycle < plan.limit = below_by plan s (goes refl) (cases_lt s.cycle plan.limit) in
    let later : s.cycle < t.cycle = cycle_later d s t es done in
    omega (arith, less, later)
falls_by d plan s t (k ∷ ks) es goes done =
    let later : s.cycle ≤ t.cycle = tasks_later d (k ∷ ks) s t es done in
    omega (arith, later)

-- a section that is done leaves fewer to come
pub section_falls : (old new : Simulation) → SectionDone old new → sections_left new < sections_left old
section_falls old new h =
    subst (λ (w : Simulation). sections_left w < sections_left old) (sym h.after)
    (falls_by old.design old.plan old.state new.state old.tasks h.added h.goes_on h.done)
