use Rattle.probe_access.specs.MemoryRuns.PutBackFailed.{at_x9}
use Rattle.probe_access.proofs.Counted.{write_counted}
use Rattle.probe_access.proofs.RegisterCalls.{err_failed}
use Rattle.probe_access.proofs.scratch.Scratch.put_back.Goals as goal

pub returns-in_err-write_register-2-clause-failed : goal.returns-in_err-write_register-2-clause-failed
returns-in_err-write_register-2-clause-failed g c =
    err_failed c.from_residual-in_err-write_register-2.result c.in_err-write_register-2.field-0.0 _ c.from_residual-in_err-write_register-2.ensures.1
    (at_x9 _ c.in_ok-write_register.ensures.written
    (write_counted 0x1009 _ _ _ _ _ _ c.in_err-write_register-2.field-0.0 c.write_register.ensures.keeps.later c.write_register-2.ensures.keeps.later
    c.in_err-write_register-2.ensures.failed))
