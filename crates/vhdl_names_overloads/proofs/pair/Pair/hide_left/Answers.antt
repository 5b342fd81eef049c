use Rattle.std.proofs.Common.{ap}
use Rattle.vhdl_names_overloads.specs.Sharing.{TypesOfTwo}
use Rattle.vhdl_names_overloads.proofs.Both.{none_left, no_types, same_types}
use Rattle.vhdl_names_overloads.proofs.pair.Pair.hide_left.Goals as goal

pub invariant_of-result : goal.invariant_of-result
invariant_of-result c = none_left _ _ c.new.ensures.items

pub returns : goal.returns
returns c = same_types _ _ _ _ (no_types _ c.new.ensures.items) (ap (λ (t : TypesOfTwo). t.right) c.self.view_is)
