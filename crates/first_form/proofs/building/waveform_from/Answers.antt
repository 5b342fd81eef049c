use Rattle.std.proofs.Common.{◌∷◌, [], ◌++◌, sym, ap, ◌∙◌}
use Rattle.first_form.proofs.Waves.{begins}
use Rattle.first_form.proofs.building.waveform_from.Goals as goal

pub loop-element-init : goal.loop-element-init
loop-element-init c =
    begins _ _ _ _ (sym c.in-Some.ensures) (c.in_ok-push.ensures.ok ∙ ap (λ m. m ++ c.in-Some.begun ∷ []) c.new-waveform.ensures)
