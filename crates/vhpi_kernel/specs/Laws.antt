use Rattle.std.specs.Prelude.{◌≡◌, ◌<◌, List}
use Rattle.sim_design.specs.declared.Design.{Design}
use Rattle.sim_journal.specs.declared.Entry.{Entry}
use Rattle.sim_journal.specs.declared.End.{End}
use Rattle.vhpi_kernel.specs.declared.Plan.{Plan}
use Rattle.vhpi_kernel.specs.Run.{IsRun}
use Rattle.vhpi_kernel.specs.Simulation.{Simulation, SectionDone, sections_left}

-- every design has a run under every plan
abbrev pub EveryDesignRuns : Type 0
EveryDesignRuns = (d : Design) (plan : Plan) → (es : List Entry) × (end : End) × IsRun d plan es end

-- and only one: the journal and the end are determined by the design and the plan
abbrev pub OneJournal : Type 0
OneJournal =
    (d : Design) (plan : Plan) (es fs : List Entry) (e f : End) → IsRun d plan es e → IsRun d plan fs f → (es ≡ fs) × (e ≡ f)

-- each section that is done leaves fewer to come
abbrev pub SectionsRunOut : Type 0
SectionsRunOut = (old new : Simulation) → SectionDone old new → sections_left new < sections_left old
