use Rattle.probe_access.specs.Stops.StopApartFailed.{at_dcsr, at_dpc}
use Rattle.probe_access.proofs.Counted.{apart_counted}
use Rattle.probe_access.proofs.RegisterCalls.{err_failed}
use Rattle.probe_access.proofs.stops.stop_apart.Goals as goal

pub returns-in_err-pc-clause-failed : goal.returns-in_err-pc-clause-failed
returns-in_err-pc-clause-failed g c = err_failed c.from_residual.result c.in_err-pc.field-0.0 _ c.from_residual.ensures.1 (at_dpc c.in_err-pc.ensures.failed)

pub returns-in_err-word-clause-failed : goal.returns-in_err-word-clause-failed
returns-in_err-word-clause-failed g c =
    err_failed c.from_residual-in_err-word.result c.in_err-word.field-0.0 _ c.from_residual-in_err-word.ensures.1
    (at_dcsr c.in_ok-pc.pc _ c.in_ok-pc.ensures.read
    (apart_counted 0x7b0 _ _ _ _ _ c.in_err-word.field-0.0 c.read_apart.ensures.keeps.later c.read_apart-2.ensures.keeps.later
    c.in_err-word.ensures.failed))
