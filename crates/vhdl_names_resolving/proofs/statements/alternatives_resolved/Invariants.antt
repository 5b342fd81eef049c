-- What is found so far, with what the rest gives, is what all give.
use Rattle.std.proofs.Common.{◌≡◌, ◌++◌, map, drop}
use Rattle.vhdl_names_resolving.specs.Statements.{alternative_resolved}
use Rattle.vhdl_names_resolving.proofs.statements.alternatives_resolved.Given as goal

abbrev pub invariant-loop-alternative : goal.invariant-loop-alternative
invariant-loop-alternative l = l.resolved ++ map (alternative_resolved l.text l.around l.base) (drop l.alternative-index l.alternatives) ≡ map (alternative_resolved l.text l.around l.base) l.alternatives
