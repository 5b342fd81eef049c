use Rattle.std.proofs.Common.{◌≡◌, take, map}
use Rattle.first_form.specs.Form.{net_of}
use Rattle.first_form.proofs.building.nets_of.Given as goal

abbrev pub invariant-loop-signal : goal.invariant-loop-signal
invariant-loop-signal l = l.nets ≡ map net_of (take l.signal-index l.signals)
