use Rattle.std.specs.Prelude.{◌≡◌, ℕ, ◌<◌, List, [], ◌++◌, Result, Ok, Err, Some}
use Rattle.sim_design.specs.declared.Design.{Design}
use Rattle.sim_journal.specs.declared.Entry.{Entry}
use Rattle.sim_journal.specs.declared.End.{End}
use Rattle.sim_journal.specs.Print.{Print}
use Rattle.vhpi_kernel.specs.declared.Plan.{Plan}
use Rattle.vhpi_kernel.specs.Run.{IsRun, Part}
use Rattle.vhpi_kernel.specs.Simulation.{Simulation, Extends, sections_left}
use Rattle.sim_host.specs.Host.{Seen, wrote}
use Rattle.sim_host.specs.declared.channels.Channel.TheVariants as channel
use Rattle.vhpi_kernel.specs.declared.Step.{Step}
use Rattle.vhpi_kernel.specs.declared.Step.TheVariants as steps
use Rattle.sim_session.specs.declared.fault.SessionFault.{SessionFault}
use Rattle.sim_session.specs.declared.fault.SessionFault.TheVariants as fault

-- after a section the run has ended so, or fewer sections are left
abbrev pub IsAfter : Step → Simulation → Simulation → Type 0
IsAfter steps.CycleEnd old new = sections_left new < sections_left old
IsAfter (steps.Ended end) old new = new.ended ≡ Some end

-- a section was made and its entries were written
pub record Turned (step : Step) (old new : Simulation) (was now : Seen) : Type 0 where
  pub added : List Entry
  pub extends : Extends old added new
  pub design : new.design ≡ old.design
  pub drained : new.journal ≡ []
  pub after : IsAfter step old new
  pub written : now ≡ wrote channel.Out (Print old.design added) was

-- a section was made, perhaps, and a front of the lines of its entries was written
pub record TurnCut (old : Simulation) (was now : Seen) : Type 0 where
  pub added : List Entry
  pub later : Simulation
  pub extends : Extends old added later
  pub front : List ℕ
  pub rest : List ℕ
  pub lines : Print old.design added ≡ front ++ rest
  pub written : now ≡ wrote channel.Out front was

abbrev pub Turns : Result Step SessionFault → Simulation → Simulation → Seen → Seen → Type 0
Turns (Ok step) old new was now = Turned step old new was now
Turns (Err (fault.Design f)) old new was now = ⊥
Turns (Err e) old new was now = TurnCut old was now

-- what a run that begins comes to: all of its lines were written, or a front of the lines of its
-- first part
pub record AllWritten (design : Design) (plan : Plan) (end : End) (was now : Seen) : Type 0 where
  pub entries : List Entry
  pub run : IsRun design plan entries end
  pub written : now ≡ wrote channel.Out (Print design entries) was

pub record PartWritten (design : Design) (plan : Plan) (was now : Seen) : Type 0 where
  pub entries : List Entry
  pub part : Part design plan entries
  pub front : List ℕ
  pub rest : List ℕ
  pub lines : Print design entries ≡ front ++ rest
  pub written : now ≡ wrote channel.Out front was

abbrev pub RunsFrom : Result End SessionFault → Design → Plan → Seen → Seen → Type 0
RunsFrom (Ok end) design plan was now = AllWritten design plan end was now
RunsFrom (Err (fault.Design f)) design plan was now = ⊥
RunsFrom (Err e) design plan was now = PartWritten design plan was now
