-- What is found so far, with what the rest gives, is what all give.
use Rattle.std.proofs.Common.{◌≡◌, ◌++◌, drop, map}
use Rattle.vhdl_names_meaning.specs.Names.{extended_by}
use Rattle.vhdl_names_meaning.specs.Trees.{choice_candidate, item_candidate, link_candidate, part_candidate}
use Rattle.vhdl_names_typing.specs.Scope.{look}
use Rattle.vhdl_names_meaning.proofs.trees.+candidate.Given as goal

abbrev pub invariant-choice_candidates-loop-choice : goal.invariant-choice_candidates-loop-choice
invariant-choice_candidates-loop-choice l =
    l.candidates ++ map (choice_candidate l.text (look l.text l.regions)) (drop l.choice-index l.choices) ≡ map (choice_candidate l.text (look l.text l.regions)) l.choices

abbrev pub invariant-item_candidates-loop-item : goal.invariant-item_candidates-loop-item
invariant-item_candidates-loop-item l =
    l.candidates ++ map (item_candidate l.text (look l.text l.regions)) (drop l.item-index l.items) ≡ map (item_candidate l.text (look l.text l.regions)) l.items

abbrev pub invariant-link_candidates-loop-link : goal.invariant-link_candidates-loop-link
invariant-link_candidates-loop-link l =
    l.candidates ++ map (link_candidate l.text (look l.text l.regions)) (drop l.link-index l.links) ≡ map (link_candidate l.text (look l.text l.regions)) l.links

abbrev pub invariant-denote_parts-loop-part : goal.invariant-denote_parts-loop-part
invariant-denote_parts-loop-part l =
    extended_by l.text l.so_far (map (part_candidate l.text (look l.text l.regions)) (drop l.part-index l.parts)) ≡ extended_by l.text l.fn.first (map (part_candidate l.text (look l.text l.regions)) l.parts)
