use Rattle.std.proofs.Common.{rules}
use Rattle.sim_host.proofs.Growth.{MayWrite-wrote, written_more}
use Rattle.sim_host.proofs.writing.write_all.Goals as goal

pub loop-done-preserved : goal.loop-done-preserved
loop-done-preserved g c =
    let taken = c.in_ok-done.ensures.ok in
    record {
      within = search rules;
      written = written_more _ _ _ c.in_ok-done.field-0 _ _ _ c.loop-done.invariant.written (rw c.split_at.ensures.back at taken);
      may = rw taken (MayWrite-wrote _ _ _ _ c.loop-done.invariant.may);
      faults = search rules;
    }
