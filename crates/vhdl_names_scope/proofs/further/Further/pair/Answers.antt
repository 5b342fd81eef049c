use Rattle.std.proofs.Common.{◌∙◌, ap, ◌++◌, [], if◌then◌else◌}
use Rattle.vhdl_names_overloads.specs.Literals.{literal_types}
use Rattle.vhdl_names_overloads.specs.Sharing.{TypesOfTwo}
use Rattle.vhdl_names_scope.proofs.Seen_pairs.{two_see}
use Rattle.vhdl_names_scope.proofs.further.Further.pair.Goals as goal

pub returns : goal.returns
returns c = record {
  left_seen = two_see c.args.left.now c.args.self.now.base c.args.self.now.more c.args.around.left c.hidden.result.left c.find-3.result.now c.find.result.now c.declares_other.result
      c.find-3.ensures c.find.ensures c.declares_other.ensures
      (ap (λ (t : TypesOfTwo). t.left) c.hidden.ensures ∙ ap (λ (t : TypesOfTwo). if c.declares_other.result then [] else t.left) c.in_ok-all.ensures
      ∙ ap (λ (t : TypesOfTwo). if c.declares_other.result then [] else literal_types c.find-3.result.now ++ t.left) c.in_ok-more.ensures);
  right_seen = two_see c.args.right.now c.args.self.now.base c.args.self.now.more c.args.around.right c.hidden.result.right c.find-4.result.now c.find-2.result.now c.declares_other-2.result
      c.find-4.ensures c.find-2.ensures c.declares_other-2.ensures
      (ap (λ (t : TypesOfTwo). t.right) c.hidden.ensures ∙ ap (λ (t : TypesOfTwo). if c.declares_other-2.result then [] else t.right) c.in_ok-all.ensures
      ∙ ap (λ (t : TypesOfTwo). if c.declares_other-2.result then [] else literal_types c.find-4.result.now ++ t.right) c.in_ok-more.ensures);
}
