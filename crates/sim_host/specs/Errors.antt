-- The errors of a host.
use Rattle.sim_host.specs.declared.errors.HostError.{HostError}
use Rattle.sim_host.specs.declared.errors.HostError.TheVariants as failure
use Rattle.sim_host.specs.declared.errors.ReadError.{ReadError}
use Rattle.sim_host.specs.declared.errors.ReadError.TheVariants as refusal

-- a fault of the host, as `read_all` answers it
abbrev pub read_error_of : HostError → ReadError
read_error_of failure.Fault = refusal.Host
read_error_of failure.NoMemory = refusal.NoMemory
