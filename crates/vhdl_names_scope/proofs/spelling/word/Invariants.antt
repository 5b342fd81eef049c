use Rattle.std.proofs.Common.{◌≡◌, ◌++◌, filter, string_bytes, drop}
use Rattle.std.specs.Prelude.{map}
use Rattle.vhdl_names_scope.specs.Names.{word_in, folded, is_ascii}
use Rattle.vhdl_names_scope.proofs.spelling.word.Given as goal

abbrev pub invariant-loop-byte : goal.invariant-loop-byte
invariant-loop-byte l = string_bytes l.name ++ filter is_ascii (map (folded l.token.kind) (drop l.byte-index l.byte-items)) ≡ word_in l.text l.token
