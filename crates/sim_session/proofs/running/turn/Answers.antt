use Rattle.std.proofs.Common.{refl, ◌∙◌}
use Rattle.sim_session.proofs.Turns.{nothing_cut, turns_memory, turns_host, turn_cut, turned}
use Rattle.sim_session.proofs.running.turn.Goals as goal

pub returns-in_err-step-clause-turns : goal.returns-in_err-step-clause-turns
returns-in_err-step-clause-turns g c = turns_memory _ _ _ _ _ c.from_residual.ensures.1 (nothing_cut _ _ _ refl)

pub returns-in_err-text-clause-turns : goal.returns-in_err-text-clause-turns
returns-in_err-text-clause-turns g c = turns_memory _ _ _ _ _ c.from_residual-in_err-text.ensures.1 (nothing_cut _ _ _ refl)

pub returns-in_err-write_all-clause-turns : goal.returns-in_err-write_all-clause-turns
returns-in_err-write_all-clause-turns g c =
    turns_host _ c.in_err-write_all.field-0.0 _ _ _ _ c.from_residual-in_err-write_all.ensures.1
    (turn_cut c.in_ok-step.step c.args.kernel.now c.advance.new.self c.drain-entries.new.self c.as_slice.result.now c.as_slice-2.result.now c.design.result.now _ _ c.in_ok-step.ensures.ok c.requires (c.as_slice.ensures.value ∙ c.drain-entries.ensures.entries) c.drain-entries.ensures.rest c.design.ensures (c.as_slice-2.ensures.value ∙ c.in_ok-text.ensures) c.in_err-write_all.ensures.writes)

pub returns-clause-turns : goal.returns-clause-turns
returns-clause-turns g c =
    turned c.in_ok-step.step c.args.kernel.now c.advance.new.self c.drain-entries.new.self c.as_slice.result.now c.as_slice-2.result.now c.design.result.now _ _ c.in_ok-step.ensures.ok c.requires (c.as_slice.ensures.value ∙ c.drain-entries.ensures.entries) c.drain-entries.ensures.rest c.design.ensures (c.as_slice-2.ensures.value ∙ c.in_ok-text.ensures) c.in_ok-write_all.ensures.writes
