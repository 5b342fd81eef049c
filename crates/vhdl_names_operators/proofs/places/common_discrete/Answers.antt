use Rattle.std.proofs.Common.{◌∙◌}
use Rattle.vhdl_names_operators.proofs.Sole.{either_way}
use Rattle.vhdl_names_operators.proofs.places.common_discrete.Goals as goal

pub returns-then-len : goal.returns-then-len
returns-then-len c = c.common_among.ensures ∙ either_way c.args.left.now c.args.right.now
