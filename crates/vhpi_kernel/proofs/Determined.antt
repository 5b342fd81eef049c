use Rattle.std.proofs.Common.{◌≡◌, ℕ, List, [], ◌∷◌, refl, sym, ap, subst, ◌∙◌, zero, suc, length}
use Rattle.sim_design.specs.declared.Design.{Design}
use Rattle.sim_journal.specs.declared.Entry.{Entry}
use Rattle.sim_journal.specs.declared.Entry.TheVariants as entries
use Rattle.sim_journal.specs.declared.End.{End}
use Rattle.vhpi_kernel.specs.State.{State, events}
use Rattle.vhpi_kernel.specs.Cycle.{Task, ComputeValues, RunProcesses, StartCycle, UpdateSignals, Does, Tasks, cycle}
use Rattle.vhpi_kernel.specs.declared.Plan.{Plan}
use Rattle.vhpi_kernel.specs.Run.{RestIn, IsLeft}

-- a task has one outcome
pub does_one : (d : Design) (task : Task) (s t u : State) (es fs : List Entry) → Does d task s es t → Does d task s fs u → (es ≡ fs) × (t ≡ u)
does_one d ComputeValues s t u es fs p q = (p.0 ∙ sym q.0, p.1 ∙ sym q.1)
does_one d RunProcesses s t u es fs p q = (p.0 ∙ sym q.0, p.1 ∙ sym q.1)
does_one d StartCycle s t u es fs p q =
    let same : t ≡ u = p.1 ∙ sym q.1 in
    (p.0 ∙ (ap (λ (x : State). entries.Time x.now x.delta x.cycle ∷ []) same ∙ sym q.0), same)
does_one d UpdateSignals s t u es fs p q =
    let same : t ≡ u = p.1 ∙ sym q.1 in
    (p.0 ∙ (ap (λ (x : State). events (length d.nets) s.values x.values) same ∙ sym q.0), same)

pub tasks_one : (d : Design) (tasks : List Task) (s t u : State) (es fs : List Entry) → Tasks d tasks s es t → Tasks d tasks s fs u → (es ≡ fs) × (t ≡ u)
tasks_one d [] s t u es fs p q = (p.0 ∙ sym q.0, p.1 ∙ sym q.1)
tasks_one d (k ∷ ks) s t u es fs p q =
    let here : (p.front ≡ q.front) × (p.mid ≡ q.mid) = does_one d k s p.mid q.mid p.front q.front p.first q.first in
    let second : Tasks d ks p.mid q.back u = subst (λ (x : State). Tasks d ks x q.back u) (sym here.1) q.second in
    let rest : (p.back ≡ q.back) × (t ≡ u) = tasks_one d ks p.mid t u p.back q.back p.second second in
    (rw (p.whole, q.whole, here.0, rest.0) refl, rest.1)

-- a run goes on in one way
pub rest_one : (d : Design) (plan : Plan) (n m : ℕ) (s : State) (es fs : List Entry) (e f : End) → RestIn d plan n s es e → RestIn d plan m s fs f → (es ≡ fs) × (e ≡ f)
rest_one d plan zero zero s es fs e f p q =
    let same : e ≡ f = cc (p.0, q.0) in
    (p.1 ∙ (ap (λ (x : End). entries.Ended x ∷ []) same ∙ sym q.1), same)
rest_one d plan zero (suc m) s es fs e f p q = cc (p.0, q.0)
rest_one d plan (suc n) zero s es fs e f p q = cc (p.0, q.0)
rest_one d plan (suc n) (suc m) s es fs e f p q =
    let one = p.1 in
    let two = q.1 in
    let here : (one.front ≡ two.front) × (one.mid ≡ two.mid) = tasks_one d cycle s one.mid two.mid one.front two.front one.first two.first in
    let last : RestIn d plan m one.mid two.back f = subst (λ (x : State). RestIn d plan m x two.back f) (sym here.1) two.last in
    let rest : (one.back ≡ two.back) × (e ≡ f) = rest_one d plan n m one.mid one.back two.back e f one.last last in
    (rw (one.whole, two.whole, here.0, rest.0) refl, rest.1)

pub left_one : (d : Design) (plan : Plan) (tasks : List Task) (s : State) (es fs : List Entry) (e f : End) → IsLeft d plan tasks s es e → IsLeft d plan tasks s fs f → (es ≡ fs) × (e ≡ f)
left_one d plan tasks s es fs e f p q =
    let here : (p.front ≡ q.front) × (p.mid ≡ q.mid) = tasks_one d tasks s p.mid q.mid p.front q.front p.first q.first in
    let last : RestIn d plan q.last.0 p.mid q.back f = subst (λ (x : State). RestIn d plan q.last.0 x q.back f) (sym here.1) q.last.1 in
    let rest : (p.back ≡ q.back) × (e ≡ f) = rest_one d plan p.last.0 q.last.0 p.mid p.back q.back e f p.last.1 last in
    (rw (p.whole, q.whole, here.0, rest.0) refl, rest.1)
