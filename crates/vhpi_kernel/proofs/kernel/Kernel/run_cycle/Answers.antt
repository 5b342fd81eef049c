use Rattle.vhpi_kernel.proofs.Sections.{cycle_done}
use Rattle.vhpi_kernel.proofs.kernel.Kernel.run_cycle.Goals as goal

pub returns-clause-ok : goal.returns-clause-ok
returns-clause-ok c = cycle_done c.args.self.now c.start_cycle.new.self c.update.new.self c.args.next c.requires.running c.requires.between c.requires.next c.requires.limit c.in_ok-start_cycle.ensures.moved c.in_ok-update.ensures.updated
