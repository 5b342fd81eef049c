use Rattle.std.proofs.Common.{rules, sym, subst}
use Rattle.vhdl_names_overloads.specs.Blocks.{Summary}
use Rattle.vhdl_names_overloads.proofs.Lists.{one_noted}
use Rattle.vhdl_names_overloads.proofs.table.Table.push.Goals as goal

pub invariant_of-self-in-Ok : goal.invariant_of-self-in-Ok
invariant_of-self-in-Ok c =
    record {
      indexed = one_noted _ _ _ _ _ _ _ _ _ c.self.invariant.indexed c.in-Ok.ensures.ok c.in_ok-push.ensures.items;
      summary = subst (λ entries. Summary c.add.new.self entries) (sym c.in_ok-push.ensures.items)
          (c.add.ensures c.self.inside.entries.items (c.prepare.ensures.kept c.self.inside.entries.items (search rules) c.self.invariant.summary));
    }
