use Rattle.std.proofs.Common.{◌∙◌, ap}
use Rattle.vhdl_names_overloads.specs.Finds.{flat}
use Rattle.vhdl_names_overloads.specs.Literals.{literal_types}
use Rattle.vhdl_names_overloads.specs.Sharing.{TypesOfTwo, shared}
use Rattle.vhdl_names_overloads.proofs.Both.{shared_within, same_types, types_before}
use Rattle.vhdl_names_overloads.proofs.pair.Pair.within.Goals as goal

pub invariant_of-result : goal.invariant_of-result
invariant_of-result c =
    shared_within c.args.left.now c.args.right.now (flat c.self.inside.left.items) (flat c.self.inside.right.items) _ _ c.args.own c.shared_with.result c.shared_with-2.result c.self.inside.shared
    c.together-inner.result c.together-outer.result c.together.result
    c.requires
    (c.shared_with.ensures ∙ ap (λ xs. shared (literal_types c.args.left.now) (literal_types (flat xs))) c.as_slice.ensures.value)
    (c.shared_with-2.ensures ∙ ap (λ xs. shared (literal_types c.args.right.now) (literal_types (flat xs))) c.as_slice-2.ensures.value)
    c.self.invariant c.together-inner.ensures c.together-outer.ensures c.together.ensures
    c.in_ok-put_before.ensures c.in_ok-put_before-2.ensures

pub returns : goal.returns
returns c =
    same_types _ _ _ _
    (types_before c.args.left.now _ (flat c.self.inside.left.items) _ c.in_ok-put_before.ensures (ap (λ (t : TypesOfTwo). t.left) c.self.view_is))
    (types_before c.args.right.now _ (flat c.self.inside.right.items) _ c.in_ok-put_before-2.ensures (ap (λ (t : TypesOfTwo). t.right) c.self.view_is))
