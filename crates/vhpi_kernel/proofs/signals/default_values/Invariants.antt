use Rattle.std.proofs.Common.{◌≡◌, map, take}
use Rattle.vhpi_kernel.proofs.signals.default_values.Given as goal

abbrev pub invariant-loop-net : goal.invariant-loop-net
invariant-loop-net l = l.values.items ≡ map (λ n. n.default) (take l.net-index l.nets)
