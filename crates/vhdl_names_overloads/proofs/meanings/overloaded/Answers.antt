use Rattle.std.proofs.Common.{◌∙◌, ap, length, List, ◌++◌, ◌∷◌, []}
use Rattle.vhdl_units.specs.declared.entry.Entry.{Entry}
use Rattle.vhdl_names_overloads.specs.Finds.{flat}
use Rattle.vhdl_names_overloads.proofs.Lists.{shared_literals, all_shared}
use Rattle.vhdl_names_overloads.proofs.meanings.overloaded.Goals as goal

pub invariant_of-result : goal.invariant_of-result
invariant_of-result c =
    record {
      literals = all_shared c.args.base.now c.args.more.now c.args.found (flat c.share_literals.new.segments.items) c.requires
          (shared_literals c.args.base.now c.args.more.now c.args.found c.push.new.self.items c.push-2.new.self.items c.share_literals.new.segments.items c.requires
          (c.in_ok-push.ensures.items ∙ ap (λ xs. xs ++ c.in_ok-share.field-0 ∷ []) c.new-segments.ensures.items ∙ ap (λ (x : List Entry). [] ++ x ∷ []) c.in_ok-share.ensures)
          (c.in_ok-push-2.ensures.items ∙ ap (λ x. c.push.new.self.items ++ x ∷ []) c.in_ok-share-2.ensures)
          c.in_ok-share_literals.ensures);
      len_is = c.in-Some.ensures ∙ ap (λ xs. length (flat xs)) c.deref.ensures.value;
    }
