-- What is told so far, with what the rest tells, is what all tell.
use Rattle.std.proofs.Common.{◌≡◌, ◌++◌, map, drop}
use Rattle.vhdl_names_typing.specs.Expressions.{joined_by}
use Rattle.vhdl_names_typing.specs.Names.{extended_by}
use Rattle.vhdl_names_typing.specs.Scope.{look}
use Rattle.vhdl_names_typing.specs.Trees.{told_choice, told_item, told_link, told_part}
use Rattle.vhdl_names_typing.proofs.trees.+tell.Given as goal

abbrev pub invariant-tell_choices-loop-choice : goal.invariant-tell_choices-loop-choice
invariant-tell_choices-loop-choice l =
    l.told ++ map (told_choice l.text (look l.text l.regions)) (drop l.choice-index l.choices) ≡ map (told_choice l.text (look l.text l.regions)) l.choices

abbrev pub invariant-tell_items-loop-item : goal.invariant-tell_items-loop-item
invariant-tell_items-loop-item l =
    l.told ++ map (told_item l.text (look l.text l.regions)) (drop l.item-index l.items) ≡ map (told_item l.text (look l.text l.regions)) l.items

abbrev pub invariant-tell_links-loop-link : goal.invariant-tell_links-loop-link
invariant-tell_links-loop-link l =
    joined_by l.so_far (map (told_link l.text (look l.text l.regions)) (drop l.link-index l.links)) ≡ joined_by l.fn.first (map (told_link l.text (look l.text l.regions)) l.links)

abbrev pub invariant-tell_parts-loop-part : goal.invariant-tell_parts-loop-part
invariant-tell_parts-loop-part l =
    extended_by l.text l.so_far (map (told_part l.text (look l.text l.regions)) (drop l.part-index l.parts)) ≡ extended_by l.text l.fn.first (map (told_part l.text (look l.text l.regions)) l.parts)
