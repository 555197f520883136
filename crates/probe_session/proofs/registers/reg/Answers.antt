use Rattle.std.proofs.Common.{false, refl}
use Rattle.probe_session.specs.Failures.{failure_of_access}
use Rattle.probe_session.proofs.Conversions.{became, goes_err, of_register}
use Rattle.probe_session.proofs.LinkLemmas.{access_left, if_err}
use Rattle.probe_session.proofs.registers.reg.Goals as goal

pub returns-in_err-value-clause-fell : goal.returns-in_err-value-clause-fell
returns-in_err-value-clause-fell g c = if_err _ (failure_of_access c.in_err-value.field-0.0) _ c.from_residual.ensures.1 (record {
  why = c.in_err-value.field-0.0;
  later = c.held_reg.ensures.keeps.later;
  at = c.requires.serving.serving;
  heard = c.in_err-value.ensures.failed;
  told = c.in_err-value.ensures.left;
  cut = c.in_err-value.ensures.cut;
  is = became c.in_err-value.field-0.0 (of_register false _ _ _ _ c.in_err-value.field-0.0 c.in_err-value.ensures.left) refl;
})

pub returns-in_err-value-clause-keeps : goal.returns-in_err-value-clause-keeps
returns-in_err-value-clause-keeps g c = goes_err _ _ _ (failure_of_access c.in_err-value.field-0.0) _ c.held_reg.ensures.keeps.later c.held_reg.ensures.keeps.fixed
    c.from_residual.ensures.1 (access_left _ c.in_err-value.field-0.0 _ c.in_err-value.ensures.keeps.behind refl)
