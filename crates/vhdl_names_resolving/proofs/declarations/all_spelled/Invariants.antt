-- What is spelled so far, with what the rest spells, is what all spell.
use Rattle.std.proofs.Common.{◌≡◌, ◌++◌, map, drop}
use Rattle.vhdl_tokens.specs.Meaning.{span}
use Rattle.vhdl_names_resolving.proofs.declarations.all_spelled.Given as goal

abbrev pub invariant-loop-token : goal.invariant-loop-token
invariant-loop-token l = l.all ++ map (span l.text) (drop l.token-index l.tokens) ≡ map (span l.text) l.tokens
