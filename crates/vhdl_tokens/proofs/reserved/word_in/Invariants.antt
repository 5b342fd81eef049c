use Rattle.std.proofs.Common.{◌≡◌, drop}
use Rattle.std.specs.Prelude.{map}
use Rattle.vhdl_tokens.specs.Reserved.{word_in, line_of}
use Rattle.vhdl_tokens.proofs.reserved.word_in.Given as goal

abbrev pub invariant-loop-line : goal.invariant-loop-line
invariant-loop-line l = word_in (map line_of (drop l.line-index l.table)) l.name ≡ word_in (map line_of l.table) l.name
