use Rattle.std.proofs.Common.{ap, sym, ◌∙◌, bit_and}
use Rattle.std.proofs.lemmas.Bool.{eqb-true}
use Rattle.vhdl_names_overloads.proofs.Covered.{apart}
use Rattle.vhdl_names_overloads.proofs.blocks.Blocks.are_apart.Goals as goal

pub returns : goal.returns
returns c entries marked zero =
    apart c.args.self.now.bits c.args.block entries marked (ap (λ bits. bit_and bits c.args.block.bits) (sym c.bits_at.ensures) ∙ eqb-true _ _ zero)
