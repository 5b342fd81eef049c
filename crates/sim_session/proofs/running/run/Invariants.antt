use Rattle.std.proofs.Common.{◌≡◌}
use Rattle.vhpi_kernel.specs.Simulation.{sections_left}
use Rattle.sim_session.proofs.Turns.{SoFar}
use Rattle.sim_session.proofs.running.run.Given as goal

abbrev pub invariant-sections : goal.invariant-sections
invariant-sections g l =
    SoFar l.fn.kernel.design l.fn.kernel.plan l.kernel (g.H.Host.seen l.initial.host) (g.H.Host.seen l.host)
    × (g.H.Host.faults l.host ≡ g.H.Host.faults l.initial.host)

abbrev pub decreases-sections : goal.decreases-sections
decreases-sections g l = sections_left l.kernel
