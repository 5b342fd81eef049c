use Rattle.vhdl_names_overloads.proofs.Both.{none_left, no_types, same_types}
use Rattle.vhdl_names_overloads.proofs.pair.Pair.new.Goals as goal

pub invariant_of-result : goal.invariant_of-result
invariant_of-result c = none_left _ _ c.new.ensures.items

pub returns : goal.returns
returns c = same_types _ _ _ _ (no_types _ c.new.ensures.items) (no_types _ c.new-2.ensures.items)
