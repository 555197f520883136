use Rattle.std.proofs.Common.{refl}
use Rattle.probe_trig.specs.Runs.{ReadsAny}
use Rattle.probe_session.specs.Failures.{failure_of_trig}
use Rattle.probe_session.proofs.Conversions.{goes_err, slots_failed, trig_left}
use Rattle.probe_session.proofs.LinkLemmas.{if_err}
use Rattle.probe_session.proofs.slots.slots.Goals as goal

pub returns-in_err-seen-clause-fell : goal.returns-in_err-seen-clause-fell
returns-in_err-seen-clause-fell g c = if_err _ (failure_of_trig c.in_err-seen.field-0.0) _ c.from_residual.ensures.1
    (slots_failed ReadsAny c.args.halted.now.number c.in_err-seen.field-0.0 refl c.slots.ensures.keeps.later c.requires.serving.serving
    c.in_err-seen.ensures.failed c.in_err-seen.ensures.left c.in_err-seen.ensures.cut)

pub returns-in_err-seen-clause-keeps : goal.returns-in_err-seen-clause-keeps
returns-in_err-seen-clause-keeps g c = goes_err _ _ _ (failure_of_trig c.in_err-seen.field-0.0) _ c.slots.ensures.keeps.later c.slots.ensures.keeps.fixed
    c.from_residual.ensures.1 (trig_left _ c.in_err-seen.field-0.0 _ c.in_err-seen.ensures.keeps.behind refl)
