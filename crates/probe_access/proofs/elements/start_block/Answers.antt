use Rattle.probe_access.specs.ElementRuns.StartFailed.{at_first, at_x8}
use Rattle.probe_access.proofs.ElementCalls.{run_counted}
use Rattle.probe_access.proofs.RegisterCalls.{err_failed}
use Rattle.probe_access.proofs.elements.start_block.Goals as goal

pub returns-in_err-write_register-clause-failed : goal.returns-in_err-write_register-clause-failed
returns-in_err-write_register-clause-failed g c =
    err_failed c.from_residual.result c.in_err-write_register.field-0.0 _ c.from_residual.ensures.1 (at_x8 c.in_err-write_register.ensures.failed)

pub returns-in_err-first_element-clause-failed : goal.returns-in_err-first_element-clause-failed
returns-in_err-first_element-clause-failed g c =
    err_failed c.from_residual-in_err-first_element.result c.in_err-first_element.field-0.0 _ c.from_residual-in_err-first_element.ensures.1
    (at_first _ c.in_ok-write_register.ensures.written
    (run_counted _ _ _ _ _ _ _ c.in_err-first_element.field-0.0 c.write_register.ensures.keeps.later c.first_element.ensures.keeps.later
    c.in_err-first_element.ensures.failed))

pub returns-clause-started : goal.returns-clause-started
returns-clause-started g c = record { mid = _; x8 = c.in_ok-write_register.ensures.written; ran = c.in_ok-first_element.ensures.ran }
