use Rattle.std.proofs.Common.{refl}
use Rattle.probe_session.specs.Failures.{failure_of_trig}
use Rattle.probe_session.proofs.Conversions.{goes_err, over_failed, trig_left}
use Rattle.probe_session.proofs.LinkLemmas.{if_err}
use Rattle.probe_session.proofs.slots.step_over.Goals as goal

pub returns-in_err-again-clause-fell : goal.returns-in_err-again-clause-fell
returns-in_err-again-clause-fell g c = if_err _ (failure_of_trig c.in_err-again.field-0.0) _ c.from_residual.ensures.1
    (over_failed c.args.halted.number c.in_err-again.field-0.0 refl c.step_over.ensures.keeps.later c.requires.serving.serving
    c.in_err-again.ensures.failed c.in_err-again.ensures.left c.in_err-again.ensures.cut)

pub returns-in_err-again-clause-keeps : goal.returns-in_err-again-clause-keeps
returns-in_err-again-clause-keeps g c = goes_err _ _ _ (failure_of_trig c.in_err-again.field-0.0) _ c.step_over.ensures.keeps.later
    c.step_over.ensures.keeps.fixed c.from_residual.ensures.1 (trig_left _ c.in_err-again.field-0.0 _ c.in_err-again.ensures.keeps.behind refl)
