use Rattle.std.proofs.Common.{refl}
use Rattle.probe_session.specs.Failures.{failure_of_access}
use Rattle.probe_session.proofs.Conversions.{became, goes_err, of_step}
use Rattle.probe_session.proofs.LinkLemmas.{access_left, if_err}
use Rattle.probe_session.proofs.NeverLemmas.{by_access}
use Rattle.probe_session.proofs.slots.step.Goals as goal

pub returns-in_err-again-clause-fell : goal.returns-in_err-again-clause-fell
returns-in_err-again-clause-fell g c = if_err _ (failure_of_access c.in_err-again.field-0.0) _ c.from_residual.ensures.1 (record {
  why = c.in_err-again.field-0.0;
  later = c.step.ensures.keeps.later;
  at = c.requires.serving.serving;
  heard = c.in_err-again.ensures.failed;
  told = c.in_err-again.ensures.left;
  cut = c.in_err-again.ensures.cut;
  is = became c.in_err-again.field-0.0 (of_step _ _ _ c.in_err-again.field-0.0 c.in_err-again.ensures.left) refl;
})

pub returns-in_err-again-clause-keeps : goal.returns-in_err-again-clause-keeps
returns-in_err-again-clause-keeps g c = goes_err _ _ _ (failure_of_access c.in_err-again.field-0.0) _ c.step.ensures.keeps.later
    c.step.ensures.keeps.fixed c.from_residual.ensures.1 (access_left _ c.in_err-again.field-0.0 _ c.in_err-again.ensures.keeps.behind refl)

pub returns-in_err-again-clause-never : goal.returns-in_err-again-clause-never
returns-in_err-again-clause-never g c =
    if_err _ (failure_of_access c.in_err-again.field-0.0) _ c.from_residual.ensures.1
    (by_access (g.D.Dmi.seen c.args.link.now) c.in_err-again.field-0.0 c.in_err-again.ensures.never)
