use Rattle.std.proofs.Common.{◌≡◌, ◌++◌, drop}
use Rattle.sim_journal.specs.Print.{Print}
use Rattle.sim_session.proofs.running.print_all.Given as goal

abbrev pub invariant-loop-entry : goal.invariant-loop-entry
invariant-loop-entry l = l.text.items ++ Print l.design (drop l.entry-index l.entries) ≡ Print l.design l.entries
