use Rattle.std.proofs.Common.{◌≡◌, ◌<◌, ◌^◌, drop, true}
use Rattle.std.specs.List.{list_all}
use Rattle.sim_command.specs.Words.{number_after, is_digit}
use Rattle.sim_command.proofs.words.number_of.Given as goal

abbrev pub invariant-loop-byte : goal.invariant-loop-byte
invariant-loop-byte l =
    (number_after l.number (drop l.byte-index l.word) ≡ number_after 0 l.word)
    × (l.number < 10 ^ l.byte-index)
    × (list_all is_digit (drop l.byte-index l.word) ≡ true)
