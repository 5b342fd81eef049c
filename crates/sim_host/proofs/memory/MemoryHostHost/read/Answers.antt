use Rattle.std.proofs.Common.{◌≡◌, ◌∙◌, rules, Some, drop}
use Rattle.sim_host.specs.Memory.{counted_up, text_at}
use Rattle.sim_host.specs.MemoryView.{memory_of}
use Rattle.sim_host.proofs.FilesHeld.{reads_front}
use Rattle.sim_host.proofs.memory.MemoryHostHost.read.Goals as goal

pub returns-clause-ok : goal.returns-clause-ok
returns-clause-ok c =
    let text = text_at c.in-Some.reading.file c.self.inside.files.items in
    let left : (memory_of c.self.inside).left ≡ Some (drop c.in-Some.reading.place text) = rw c.in-Some.is in
    reads_front c.args.self.now (memory_of c.self.inside) (counted_up c.args.self.now.calls) c.copy_front-count.result c.in-Some.reading.place text _ (c.self.view_is ∙ c.count_call.ensures.counted) left (search rules)
