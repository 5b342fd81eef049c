use Rattle.std.proofs.Common.{refl, ◌∙◌}
use Rattle.vhdl_names_overloads.proofs.Covered.{begun}
use Rattle.vhdl_names_overloads.proofs.blocks.Blocks.begin.Goals as goal

pub returns-then-place-eq0-clause-kept : goal.returns-then-place-eq0-clause-kept
returns-then-place-eq0-clause-kept c entries len s = begun c.args.self.now _ entries refl refl (len ∙ c.if-place-eq0.true) s
