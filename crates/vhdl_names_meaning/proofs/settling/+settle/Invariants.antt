use Rattle.std.proofs.Common.{◌≡◌, ◌++◌, length, map, reverse}
use Rattle.vhdl_names_meaning.specs.Settling.{item_at, link_at, settled_item, settled_link}
use Rattle.vhdl_names_meaning.proofs.settling.+settle.Given as goal

abbrev pub invariant-settle_items-loop-item : goal.invariant-settle_items-loop-item
invariant-settle_items-loop-item l =
    goal.no_deeper-settle_items-loop-item l × (map (item_at l.base) (map settled_item l.rest) ++ reverse l.settled.items ≡ map (item_at l.base) (map settled_item l.fn.items))

abbrev pub decreases-settle_items-loop-item : goal.decreases-settle_items-loop-item
decreases-settle_items-loop-item l = length l.rest

abbrev pub invariant-settle_links-loop-link : goal.invariant-settle_links-loop-link
invariant-settle_links-loop-link l =
    goal.no_deeper-settle_links-loop-link l × (map (link_at l.base) (map settled_link l.rest) ++ reverse l.settled.items ≡ map (link_at l.base) (map settled_link l.fn.links))

abbrev pub decreases-settle_links-loop-link : goal.decreases-settle_links-loop-link
decreases-settle_links-loop-link l = length l.rest
