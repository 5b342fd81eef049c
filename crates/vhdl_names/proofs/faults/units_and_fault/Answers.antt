use Rattle.std.proofs.Common.{refl, ◌∙◌}
use Rattle.vhdl_names.proofs.Broken.{static, units}
use Rattle.vhdl_names.proofs.faults.units_and_fault.Goals as goal

pub returns-in-Ok-clause-fault : goal.returns-in-Ok-clause-fault
returns-in-Ok-clause-fault c =
    static _ _ _ (c.get.ensures ∙ (c.new-file.ensures ∙ c.in_ok-file.ensures)) c.in_ok-checker.ensures refl refl refl c.in-Ok.ensures.fault

pub returns-in-Ok-clause-units : goal.returns-in-Ok-clause-units
returns-in-Ok-clause-units c =
    units _ _ (c.get.ensures ∙ (c.new-file.ensures ∙ c.in_ok-file.ensures)) c.in_ok-checker.ensures refl c.in-Ok.ensures.units
