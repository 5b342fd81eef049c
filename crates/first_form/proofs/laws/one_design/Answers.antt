use Rattle.first_form.proofs.Trees.{form_only}
use Rattle.first_form.proofs.laws.one_design.Goals as goal

pub returns : goal.returns
returns c = form_only
