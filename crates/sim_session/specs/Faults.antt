-- What a session answers where the host, or a reader, answered so.
use Rattle.vhdl_tokens.specs.declared.token.TokenError.{TokenError}
use Rattle.vhdl_tokens.specs.declared.token.TokenError.TheVariants as token
use Rattle.vhdl_reader.specs.declared.error.SyntaxError.{SyntaxError}
use Rattle.vhdl_reader.specs.declared.error.SyntaxError.TheVariants as syntax
use Rattle.sim_host.specs.declared.errors.HostError.{HostError}
use Rattle.sim_host.specs.declared.errors.HostError.TheVariants as host
use Rattle.sim_session.specs.declared.fault.DesignFault.TheVariants as design
use Rattle.sim_session.specs.declared.fault.SessionFault.{SessionFault}
use Rattle.sim_session.specs.declared.fault.SessionFault.TheVariants as fault

abbrev pub fault_of_host : HostError → SessionFault
fault_of_host host.Fault = fault.Host
fault_of_host host.NoMemory = fault.NoMemory

abbrev pub fault_of_tokens : TokenError → SessionFault
fault_of_tokens (token.BadByte place) = fault.Design (design.BadByte place)
fault_of_tokens (token.BadLiteral place) = fault.Design (design.BadLiteral place)
fault_of_tokens token.NoMemory = fault.NoMemory

abbrev pub fault_of_syntax : SyntaxError → SessionFault
fault_of_syntax (syntax.Syntax place) = fault.Design (design.Syntax place)
fault_of_syntax (syntax.Nesting place) = fault.Design (design.Nesting place)
fault_of_syntax syntax.NoMemory = fault.NoMemory
