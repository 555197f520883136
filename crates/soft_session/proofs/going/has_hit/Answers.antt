use Rattle.std.proofs.Common.{refl, sym}
use Rattle.probe_session.specs.Failures.{failure_of_trig}
use Rattle.probe_session.proofs.Conversions.{goes_err, trig_left}
use Rattle.probe_session.proofs.LinkLemmas.{if_err}
use Rattle.probe_run.specs.Told.{told}
use Rattle.probe_trig.specs.Runs.{ReadsAny}
use Rattle.probe_session.proofs.Conversions.{slots_failed}
use Rattle.soft_session.proofs.CutSteps.{slots_cut}
use Rattle.soft_session.proofs.CausedCalls.{slots_fell}
use Rattle.soft_session.proofs.going.has_hit.Goals as goal

pub returns-in_err-view-clause-keeps : goal.returns-in_err-view-clause-keeps
returns-in_err-view-clause-keeps g c = goes_err _ _ _ (failure_of_trig c.in_err-view.field-0.0) _ c.slots.ensures.keeps.later c.slots.ensures.keeps.fixed
    c.from_residual.ensures.1 (trig_left _ c.in_err-view.field-0.0 _ c.in_err-view.ensures.keeps.behind refl)

pub returns-clause-seen : goal.returns-clause-seen
returns-clause-seen g c = record {
  view = c.in_ok-view.view;
  viewed = record { heard = c.in_ok-view.ensures.read; told = c.in_ok-view.ensures.viewed };
  is = sym c.has_any.ensures;
}

pub returns-in_err-view-clause-cut : goal.returns-in_err-view-clause-cut
returns-in_err-view-clause-cut g c =
    if_err _ (failure_of_trig c.in_err-view.field-0.0) _ c.from_residual.ensures.1
    (λ p. slots_cut c.args.halted.now.number p _ _ (told (g.D.Dmi.seen c.args.link.now)) (told (g.D.Dmi.seen c.slots.new.link))
    (failure_of_trig c.in_err-view.field-0.0)
    (slots_failed ReadsAny c.args.halted.now.number c.in_err-view.field-0.0 refl c.slots.ensures.keeps.later c.requires.serving.serving
    c.in_err-view.ensures.failed c.in_err-view.ensures.left c.in_err-view.ensures.cut))

pub returns-in_err-view-clause-caused : goal.returns-in_err-view-clause-caused
returns-in_err-view-clause-caused g c =
    if_err _ (failure_of_trig c.in_err-view.field-0.0) _ c.from_residual.ensures.1
    (slots_fell ReadsAny c.args.halted.now.number (failure_of_trig c.in_err-view.field-0.0) (g.D.Dmi.seen c.args.link.now) (g.D.Dmi.seen c.slots.new.link)
    (slots_failed ReadsAny c.args.halted.now.number c.in_err-view.field-0.0 refl c.slots.ensures.keeps.later c.requires.serving.serving
    c.in_err-view.ensures.failed c.in_err-view.ensures.left c.in_err-view.ensures.cut))
