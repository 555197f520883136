use Rattle.std.proofs.Common.{refl}
use Rattle.probe_session.specs.Failures.{failure_of_access}
use Rattle.probe_session.proofs.Conversions.{became, goes_err, of_scratch}
use Rattle.probe_session.proofs.LinkLemmas.{access_left, if_err}
use Rattle.probe_session.proofs.stops.stop.Goals as goal

pub returns-in_err-at-clause-fell : goal.returns-in_err-at-clause-fell
returns-in_err-at-clause-fell g c = if_err _ (failure_of_access c.in_err-at.field-0.0) _ c.from_residual.ensures.1 (record {
  why = c.in_err-at.field-0.0;
  later = c.stop.ensures.keeps.later;
  at = c.requires.serving.serving;
  heard = c.in_err-at.ensures.failed;
  told = c.in_err-at.ensures.left;
  cut = c.in_err-at.ensures.cut;
  is = became c.in_err-at.field-0.0 (of_scratch _ c.in_err-at.field-0.0 c.in_err-at.ensures.left) refl;
})

pub returns-in_err-at-clause-keeps : goal.returns-in_err-at-clause-keeps
returns-in_err-at-clause-keeps g c = goes_err _ _ _ (failure_of_access c.in_err-at.field-0.0) _ c.stop.ensures.keeps.later c.stop.ensures.keeps.fixed
    c.from_residual.ensures.1 (access_left _ c.in_err-at.field-0.0 _ c.in_err-at.ensures.keeps.behind refl)
