use Rattle.std.proofs.Common.{◌≡◌, drop}
use Rattle.vhdl_names_overloads.specs.Literals.{position_of}
use Rattle.vhdl_names_overloads.proofs.literals.position_among.Given as goal

abbrev pub invariant-loop-entry : goal.invariant-loop-entry
invariant-loop-entry l = position_of l.base (drop l.entry-index l.entries) ≡ position_of l.base l.entries
