use Rattle.std.proofs.Common.{◌≡◌, drop, filter}
use Rattle.vhdl_names_overloads.specs.Sharing.{all_more, is_shared}
use Rattle.vhdl_names_overloads.proofs.types.one_by_one.Given as goal

abbrev pub invariant-loop-place : goal.invariant-loop-place
invariant-loop-place l = all_more l.now (filter (is_shared l.others) (drop l.place l.types)) ≡ all_more l.initial.now (filter (is_shared l.others) l.types)
