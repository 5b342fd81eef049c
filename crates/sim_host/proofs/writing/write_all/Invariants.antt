use Rattle.std.proofs.Common.{length, ◌-◌, ◌≡◌, ◌≤◌, take}
use Rattle.sim_host.specs.Host.{MayWrite, wrote}
use Rattle.sim_host.proofs.writing.write_all.Given as goal

abbrev pub invariant-loop-done : goal.invariant-loop-done
invariant-loop-done g l = record {
  within : l.done ≤ length l.bytes;
  written : g.H.Host.seen l.host ≡ wrote l.to (take l.done l.bytes) (g.H.Host.seen l.initial.host);
  may : MayWrite l.to (g.H.Host.seen l.host);
  faults : g.H.Host.faults l.host ≡ g.H.Host.faults l.initial.host;
}

abbrev pub decreases-loop-done : goal.decreases-loop-done
decreases-loop-done g l = length l.bytes - l.done
