use Rattle.std.proofs.Common.{refl, ap, ◌∙◌}
use Rattle.vhdl_names_overloads.specs.Blocks.{with_type}
use Rattle.vhdl_names_overloads.proofs.Covered.{added}
use Rattle.vhdl_names_overloads.proofs.blocks.Blocks.add.Goals as goal

pub returns : goal.returns
returns c entries s =
    added c.args.self.now _ entries c.args.entry refl refl (c.with_type-self.ensures ∙ ap (with_type c.args.self.now.current) c.own_of.ensures) c.requires s
