use Rattle.probe_access.specs.RegisterRuns.RegisterRead.{late}
use Rattle.probe_access.proofs.Counted.{asked_early, late_failed}
use Rattle.probe_access.proofs.RegisterCalls.{err_failed}
use Rattle.probe_access.proofs.transfers.read_register.Goals as goal

pub returns-in_err-value-in-None-clause-failed : goal.returns-in_err-value-in-None-clause-failed
returns-in_err-value-in-None-clause-failed g c =
    err_failed c.from_residual-in_err-value-in-None.result c.in_err-value-in-None.field-0.0 _ c.from_residual-in_err-value-in-None.ensures.1
    (late_failed c.args.register _ _ _ _ _ _ c.in_err-value-in-None.field-0.0
    (asked_early c.args.register c.in_ok-value.field-0 _ _ c.in-None.is c.in_ok-value.ensures.asked) c.read_at_once.ensures.keeps.later
    c.read_apart.ensures.keeps.later c.in_err-value-in-None.ensures.failed)

pub returns-in_ok-value-in-None-clause-read : goal.returns-in_ok-value-in-None-clause-read
returns-in_ok-value-in-None-clause-read g c =
    late _ (asked_early c.args.register c.in_ok-value.field-0 _ _ c.in-None.is c.in_ok-value.ensures.asked) c.in_ok-value-in-None.ensures.read
