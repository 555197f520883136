use Rattle.probe_access.specs.RegisterRuns.{double_written}
use Rattle.probe_access.proofs.RegisterCalls.{err_failed, same_failed, write_command_failed}
use Rattle.probe_access.proofs.transfers.write_register.Goals as goal

pub returns-in_err-last-clause-failed : goal.returns-in_err-last-clause-failed
returns-in_err-last-clause-failed g c =
    err_failed c.from_residual.result c.in_err-last.field-0.0 _ c.from_residual.ensures.1
    (write_command_failed c.args.register c.args.value c.in_err-last.field-0.0 _ _ _ _
    (same_failed (double_written c.args.value) _ _ c.in_err-last.field-0.0 _ _ _ _ c.transfer_of.ensures c.in_err-last.ensures.failed))
