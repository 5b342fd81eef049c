use Rattle.std.proofs.Common.{◌∙◌, ap, ◌∷◌, [], if◌then◌else◌}
use Rattle.vhdl_names_overloads.specs.Sharing.{TypesOfTwo}
use Rattle.vhdl_names_scope.proofs.Seen_pairs.{one_sees}
use Rattle.vhdl_names_scope.proofs.pairs.pair_in_loop.Goals as goal

pub returns : goal.returns
returns c = record {
  left_seen = one_sees c.args.left.now (c.args.parameter.now ∷ []) c.args.around.left c.hidden.result.left _ c.has_other.result c.in_ok-own_left.ensures c.has_other.ensures
      (ap (λ (t : TypesOfTwo). t.left) c.hidden.ensures ∙ ap (λ (t : TypesOfTwo). if c.has_other.result then [] else t.left) c.in_ok-pair.ensures);
  right_seen = one_sees c.args.right.now (c.args.parameter.now ∷ []) c.args.around.right c.hidden.result.right _ c.has_other-2.result c.in_ok-own_right.ensures c.has_other-2.ensures
      (ap (λ (t : TypesOfTwo). t.right) c.hidden.ensures ∙ ap (λ (t : TypesOfTwo). if c.has_other-2.result then [] else t.right) c.in_ok-pair.ensures);
}
