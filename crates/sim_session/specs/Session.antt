use Rattle.std.specs.Prelude.{◌≡◌, ℕ, ◌≤◌, List, ◌++◌, Result, Ok, Err, OnOk, IsErrOf, ◌⊎◌}
use Rattle.sim_design.specs.declared.Design.{Design}
use Rattle.sim_session.specs.Text.{FirstForm, IsRefusedText}
use Rattle.sim_journal.specs.declared.Entry.{Entry}
use Rattle.sim_journal.specs.declared.End.{End}
use Rattle.sim_journal.specs.Print.{Print}
use Rattle.vhpi_kernel.specs.Run.{IsRun, Part}
use Rattle.sim_host.specs.Host.{Seen, wrote, Rose}
use Rattle.sim_host.specs.declared.channels.Channel.TheVariants as channel
use Rattle.sim_session.specs.declared.fault.DesignFault.{DesignFault}
use Rattle.sim_session.specs.declared.fault.SessionFault.{SessionFault}
use Rattle.sim_session.specs.declared.fault.SessionFault.TheVariants as fault

-- a whole run of the text's design was written to Out, and ended so
pub record RunWritten (text : List ℕ) (limit : ℕ) (end : End) (old new : Seen) : Type 0 where
  pub design : Design
  pub read : FirstForm text design
  pub entries : List Entry
  pub run : IsRun design (record { limit = limit }) entries end
  pub written : new ≡ wrote channel.Out (Print design entries) old

-- a front of the lines of the first part of a run was written to Out
pub record FrontWritten (text : List ℕ) (limit : ℕ) (old new : Seen) : Type 0 where
  pub design : Design
  pub read : FirstForm text design
  pub entries : List Entry
  pub part : Part design (record { limit = limit }) entries
  pub front : List ℕ
  pub rest : List ℕ
  pub lines : Print design entries ≡ front ++ rest
  pub written : new ≡ wrote channel.Out front old

-- a run that was interrupted: nothing was written, or such a front
abbrev pub IsCut : List ℕ → ℕ → Seen → Seen → Type 0
IsCut text limit old new = (new ≡ old) ⊎ FrontWritten text limit old new

-- what a session comes to; the host has a fault only in the run of a text that can be run
abbrev pub Runs : Result End SessionFault → List ℕ → ℕ → Seen → Seen → Type 0
Runs (Ok end) text limit old new = RunWritten text limit end old new
Runs (Err (fault.Design f)) text limit old new = IsRefusedText text f × (new ≡ old)
Runs (Err fault.Host) text limit old new = FrontWritten text limit old new
Runs (Err fault.NoMemory) text limit old new = IsCut text limit old new

-- the count of faults never falls; it rose where the answer is Host, and stays at any other
pub record HasSessionCause {T : Type 0} (before now : ℕ) (result : Result T SessionFault) : Type 0 where
  pub later : before ≤ now
  pub host : IsErrOf result fault.Host → Rose before now
  pub ok : OnOk result (now ≡ before)
  pub design : (f : DesignFault) → IsErrOf result (fault.Design f) → now ≡ before
  pub no_memory : IsErrOf result fault.NoMemory → now ≡ before
