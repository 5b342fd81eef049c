use Rattle.std.specs.Prelude.{None}
use Rattle.vhdl_names_scope.specs.Declarations.{own}
use Rattle.vhdl_names_scope.proofs.Lists.{own_append, last_append}
use Rattle.vhdl_names_scope.proofs.further.Further.last.Goals as goal

pub returns : goal.returns
returns c =
    rw (
      own_append c.args.name.now c.args.self.now.base c.args.self.now.more,
      ← last_append None (own c.args.name.now c.args.self.now.base) (own c.args.name.now c.args.self.now.more),
      ← c.find.ensures,
      ← c.find-2.ensures,
      ← c.last_of-before.ensures,
    )
    c.last_of.ensures
