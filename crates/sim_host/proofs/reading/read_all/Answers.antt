use Rattle.std.proofs.lemmas.Result.{IfErr-weaker}
use Rattle.sim_host.proofs.Taking.{stops_reading}
use Rattle.sim_host.proofs.reading.read_all.Goals as goal

pub returns-clause-stopped : goal.returns-clause-stopped
returns-clause-stopped g c =
    IfErr-weaker c.read_rest.result _ _ (λ e q. stops_reading e _ _ _ _ c.in_ok-start.ensures.found q) (rw c.in_ok-start.ensures.ok at c.read_rest.ensures.stopped)
