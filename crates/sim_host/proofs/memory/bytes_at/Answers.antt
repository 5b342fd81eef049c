use Rattle.std.proofs.Common.{◌∙◌}
use Rattle.sim_host.proofs.FilesHeld.{text_at-get_or}
use Rattle.sim_host.proofs.memory.bytes_at.Goals as goal

pub returns : goal.returns
returns c = c.as_slice.ensures.value ∙ text_at-get_or c.args.files.now c.args.at _ c.requires
