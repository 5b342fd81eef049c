use Rattle.std.proofs.Common.{rules}
use Rattle.std.proofs.lemmas.Result.{err_from_is_err_and}
use Rattle.sim_host.proofs.Taking.{stops_later}
use Rattle.sim_host.proofs.reading.read_rest.Goals as goal

pub returns-in_err-read_piece-clause-stopped : goal.returns-in_err-read_piece-clause-stopped
returns-in_err-read_piece-clause-stopped g c =
    let p = err_from_is_err_and c.from_residual.result c.from_residual.ensures.1 in
    rw (p.1, p.2) (stops_later _ c.pieces.bytes.items _ _ _ _ _ (search rules) c.pieces.invariant.read c.in_err-read_piece.ensures.stopped)
