use Rattle.first_form.proofs.Trees.{read_sound}
use Rattle.first_form.proofs.design.design_of_form.Goals as goal

pub returns-clause-sound : goal.returns-clause-sound
returns-clause-sound c = read_sound _ _ _ c.read.ensures.read
