use Rattle.probe_access.specs.MemoryRuns.StoreFailedInside.{performing}
use Rattle.probe_access.proofs.Counted.{perform_counted}
use Rattle.probe_access.proofs.RegisterCalls.{err_failed}
use Rattle.probe_access.proofs.inside.store_inside.Goals as goal

pub returns-in_err-perform-clause-failed : goal.returns-in_err-perform-clause-failed
returns-in_err-perform-clause-failed g c =
    err_failed c.from_residual-in_err-perform.result c.in_err-perform.field-0.0 _ c.from_residual-in_err-perform.ensures.1
    (performing _ c.in_ok-write_register.ensures.written
    (perform_counted _ _ _ _ _ _ _ c.in_err-perform.field-0.0 c.write_register.ensures.keeps.later c.perform.ensures.keeps.later
    (rw c.store_of.ensures at c.in_err-perform.ensures.failed)))
