use Rattle.sim_host.specs.declared.errors.ReadError.{ReadError}
use Rattle.sim_host.specs.declared.errors.ReadError.TheVariants as read
use Rattle.sim_session.specs.declared.fault.SessionFault.{SessionFault}
use Rattle.sim_session.specs.declared.fault.SessionFault.TheVariants as session
use Rattle.sim_command.specs.declared.fault.CommandFault.{CommandFault}
use Rattle.sim_command.specs.declared.fault.CommandFault.TheVariants as fault

-- the fault of a command whose file couldn't be read, or whose session had a fault
abbrev pub read_fault : ReadError → CommandFault
read_fault read.Host = fault.Host
read_fault read.TooLong = fault.TooLong
read_fault read.NoMemory = fault.NoMemory

abbrev pub session_fault : SessionFault → CommandFault
session_fault (session.Design f) = fault.Design f
session_fault session.Host = fault.Host
session_fault session.NoMemory = fault.NoMemory
