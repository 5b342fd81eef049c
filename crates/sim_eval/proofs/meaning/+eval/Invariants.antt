-- What is evaluated so far, with what the rest means, is what all mean.
use Rattle.std.proofs.Common.{◌≡◌, map, drop, []}
use Rattle.sim_eval.specs.Located.{moved_by}
use Rattle.sim_eval.specs.Aggregates.{joined_by, collected_by}
use Rattle.sim_eval.specs.Meaning as spec
use Rattle.sim_eval.proofs.meaning.+eval.Given as goal

abbrev pub invariant-move_all-loop-part : goal.invariant-move_all-loop-part
invariant-move_all-loop-part l =
    moved_by l.at (map (spec.part_meaning l.env) (drop l.part-index l.parts)) ≡ moved_by l.fn.start (map (spec.part_meaning l.env) l.parts)

abbrev pub invariant-link_all-loop-link : goal.invariant-link_all-loop-link
invariant-link_all-loop-link l =
    spec.linked_by l.left (map (spec.link_meaning l.env) (drop l.link-index l.links)) ≡ spec.linked_by l.fn.first (map (spec.link_meaning l.env) l.links)

abbrev pub invariant-join_all-loop-item : goal.invariant-join_all-loop-item
invariant-join_all-loop-item l =
    joined_by l.elements.items (map (spec.meaning l.env) (drop l.item-index l.items)) ≡ joined_by [] (map (spec.meaning l.env) l.items)

abbrev pub invariant-associate_all-loop-association : goal.invariant-associate_all-loop-association
invariant-associate_all-loop-association l =
    collected_by l.elements (map (spec.association_meaning l.env) (drop l.association-index l.associations)) ≡ collected_by [] (map (spec.association_meaning l.env) l.associations)

abbrev pub invariant-choose_all-loop-choice : goal.invariant-choose_all-loop-choice
invariant-choose_all-loop-choice l =
    collected_by l.chosen (map (spec.choice_meaning l.env) (drop l.choice-index l.choices)) ≡ collected_by [] (map (spec.choice_meaning l.env) l.choices)
