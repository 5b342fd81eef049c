use Rattle.std.proofs.Common.{◌≡◌, drop}
use Rattle.vhdl_names_meaning.specs.Operators.{chain_types}
use Rattle.vhdl_names_meaning.proofs.operators.chain_types.Given as goal

abbrev pub invariant-loop-link : goal.invariant-loop-link
invariant-loop-link l = chain_types l.types (drop l.link-index l.links) ≡ chain_types l.first l.links
