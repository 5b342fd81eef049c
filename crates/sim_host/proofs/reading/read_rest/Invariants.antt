use Rattle.std.proofs.Common.{◌≡◌, ◌≤◌, ◌-◌, ◌<◌, vec_len, length}
use Rattle.std.specs.Prelude.{IsTrue}
use Rattle.sim_host.specs.Host.{Reads}
use Rattle.sim_host.proofs.reading.read_rest.Given as goal

abbrev pub invariant-pieces : goal.invariant-pieces
invariant-pieces g l = record {
  within : vec_len l.bytes ≤ l.limit;
  room : 0 < length l.chunk;
  read : Reads l.bytes.items (g.H.Host.seen l.initial.host) (g.H.Host.seen l.host);
  begun : IsTrue (g.H.Host.seen l.host).is_begun;
  faults : g.H.Host.faults l.host ≡ g.H.Host.faults l.initial.host;
}

abbrev pub decreases-pieces : goal.decreases-pieces
decreases-pieces g l = l.limit - vec_len l.bytes
