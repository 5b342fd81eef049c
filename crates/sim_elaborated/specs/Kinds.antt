-- Ports and signals (IEEE Std 1076-2008, clauses 6.4.2.3 and 6.5.2).
use Rattle.std.specs.Prelude.{Bool, false, true}
use Rattle.sim_elaborated.specs.declared.objects.NetKind.{NetKind}
use Rattle.sim_elaborated.specs.declared.objects.NetKind.TheVariants as kind
use Rattle.sim_elaborated.specs.declared.objects.Mode.TheVariants as mode

abbrev pub is_port : NetKind → Bool
is_port (kind.Port m) = true
is_port kind.Signal = false

-- a port that is a source of what it is connected to
abbrev pub drives : NetKind → Bool
drives (kind.Port mode.Out) = true
drives (kind.Port mode.Inout) = true
drives _ = false

-- a port that takes its value from what it is connected to
abbrev pub takes : NetKind → Bool
takes (kind.Port mode.In) = true
takes (kind.Port mode.Inout) = true
takes _ = false
