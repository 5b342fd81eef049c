use Rattle.vhdl_names_typing.proofs.Turns.{one_more, one_more_link}
use Rattle.vhdl_names_typing.specs.Scope.{look}
use Rattle.vhdl_names_typing.specs.Trees.{told_item}
use Rattle.vhdl_names_typing.proofs.trees.+tell.Goals as goal

pub tell_items-loop-item-preserved : goal.tell_items-loop-item-preserved
tell_items-loop-item-preserved t c =
    one_more (told_item c.args.text.now (look c.args.text.now c.args.regions.now)) c.args.items.now c.loop-item.item-index c.item-item.result c.loop-item.told c.push.new.self _ c.in_ok-tell_item.field-0
    c.loop-item-test.true c.item-item.is c.in_ok-tell_item.ensures c.in_ok-push.ensures.ok c.loop-item.invariant

pub tell_links-loop-link-preserved : goal.tell_links-loop-link-preserved
tell_links-loop-link-preserved t c =
    one_more_link c.args.text.now (look c.args.text.now c.args.regions.now) c.args.links.now c.loop-link.link-index c.link-item.result c.loop-link.so_far c.in_ok-so_far.so_far _ c.in_ok-right.right
    c.loop-link-test.true c.link-item.is c.in_ok-right.ensures c.in_ok-so_far.ensures c.loop-link.invariant
