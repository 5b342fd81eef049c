use Rattle.std.proofs.Common.{◌≡◌, map, take, drop, true}
use Rattle.std.specs.List.{list_all}
use Rattle.sim_design.specs.Design.{is_in_time}
use Rattle.vhpi_kernel.specs.State.{transaction}
use Rattle.vhpi_kernel.proofs.signals.transactions.Given as goal

abbrev pub invariant-loop-element : goal.invariant-loop-element
invariant-loop-element l =
    (l.new.items ≡ map (transaction l.now) (take l.element-index l.waveform))
    × (list_all is_in_time (drop l.element-index l.waveform) ≡ true)
