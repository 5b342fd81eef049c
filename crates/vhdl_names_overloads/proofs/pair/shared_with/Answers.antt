use Rattle.std.proofs.Common.{[]}
use Rattle.vhdl_names_overloads.specs.Literals.{literal_types}
use Rattle.vhdl_names_overloads.proofs.Both.{no_lists, one_more_list, all_lists}
use Rattle.vhdl_names_overloads.proofs.pair.shared_with.Goals as goal

pub loop-other-init : goal.loop-other-init
loop-other-init c = no_lists (literal_types c.args.own.now) []

pub loop-other-preserved : goal.loop-other-preserved
loop-other-preserved c =
    one_more_list _ _ _ _ _ _ _ _ c.loop-other-test.true c.other-item.is c.loop-other.invariant c.shared.ensures c.together-now.ensures

pub returns : goal.returns
returns c = all_lists _ _ _ _ c.loop-other-test.false c.loop-other.invariant
