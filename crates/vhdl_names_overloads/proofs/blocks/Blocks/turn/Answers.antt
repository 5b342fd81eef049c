use Rattle.std.proofs.Common.{refl, sym}
use Rattle.vhdl_names_overloads.proofs.Covered.{turned}
use Rattle.vhdl_names_overloads.proofs.blocks.Blocks.turn.Goals as goal

pub returns-clause-kept : goal.returns-clause-kept
returns-clause-kept c entries len s = turned c.args.self.now _ entries _ refl c.in_ok-push.ensures.items (sym len) refl s
