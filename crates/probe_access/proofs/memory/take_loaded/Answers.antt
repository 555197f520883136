use Rattle.debug_model.proofs.RiseLemmas.{within_then}
use Rattle.std.proofs.Common.{arith, ◌∙◌}
use Rattle.probe_access.specs.MemoryRuns.TakeFailed.{reading, writing}
use Rattle.probe_access.specs.MemoryRuns.Taken.{late}
use Rattle.probe_access.specs.RegisterAccess.{x8_number}
use Rattle.probe_access.proofs.Counted.{read_counted, swapped_early, write_counted}
use Rattle.probe_access.proofs.RegisterCalls.{err_failed}
use Rattle.probe_access.proofs.memory.take_loaded.Goals as goal

pub returns-in_err-value-in-None-clause-failed : goal.returns-in_err-value-in-None-clause-failed
returns-in_err-value-in-None-clause-failed g c =
    err_failed c.from_residual-in_err-value-in-None.result c.in_err-value-in-None.field-0.0 _ c.from_residual-in_err-value-in-None.ensures.1
    (reading _ (swapped_early x8_number c.args.x8 c.in_ok-value.field-0 _ _ c.in-None.is c.in_ok-value.ensures.swapped)
    (read_counted x8_number _ _ _ _ _ c.in_err-value-in-None.field-0.0 c.swap_at_once.ensures.keeps.later c.read_register.ensures.keeps.later
    c.in_err-value-in-None.ensures.failed))

pub returns-in_err-write_register-in-None-clause-failed : goal.returns-in_err-write_register-in-None-clause-failed
returns-in_err-write_register-in-None-clause-failed g c =
    err_failed c.from_residual-in_err-write_register-in-None.result c.in_err-write_register-in-None.field-0.0 _
    c.from_residual-in_err-write_register-in-None.ensures.1
    (writing c.in_ok-value-in-None.value _ _ (swapped_early x8_number c.args.x8 c.in_ok-value.field-0 _ _ c.in-None.is c.in_ok-value.ensures.swapped)
    c.in_ok-value-in-None.ensures.read
    (write_counted x8_number c.args.x8 _ _ _ _ _ c.in_err-write_register-in-None.field-0.0
    (omega (arith, c.swap_at_once.ensures.keeps.later, c.read_register.ensures.keeps.later)) c.write_register.ensures.keeps.later
    c.in_err-write_register-in-None.ensures.failed))

pub returns-in_ok-write_register-in-None-clause-taken : goal.returns-in_ok-write_register-in-None-clause-taken
returns-in_ok-write_register-in-None-clause-taken g c =
    late _ _ (swapped_early x8_number c.args.x8 c.in_ok-value.field-0 _ _ c.in-None.is c.in_ok-value.ensures.swapped) c.in_ok-value-in-None.ensures.read
    c.in_ok-write_register-in-None.ensures.written

pub returns-in_err-write_register-in-None-clause-rises : goal.returns-in_err-write_register-in-None-clause-rises
returns-in_err-write_register-in-None-clause-rises g c =
    within_then 27 8 35 _ (g.D.Dmi.seen c.read_register.new.link) _ (within_then 11 16 27 _ (g.D.Dmi.seen c.swap_at_once.new.link) _ c.swap_at_once.ensures.rises c.read_register.ensures.rises
    c.swap_at_once.ensures.keeps.fixed (omega arith)) c.write_register.ensures.rises
    (c.read_register.ensures.keeps.fixed ∙ c.swap_at_once.ensures.keeps.fixed) (omega arith)

pub returns-in_ok-write_register-in-None-clause-rises : goal.returns-in_ok-write_register-in-None-clause-rises
returns-in_ok-write_register-in-None-clause-rises g c =
    within_then 27 8 35 _ (g.D.Dmi.seen c.read_register.new.link) _ (within_then 11 16 27 _ (g.D.Dmi.seen c.swap_at_once.new.link) _ c.swap_at_once.ensures.rises c.read_register.ensures.rises
    c.swap_at_once.ensures.keeps.fixed (omega arith)) c.write_register.ensures.rises
    (c.read_register.ensures.keeps.fixed ∙ c.swap_at_once.ensures.keeps.fixed) (omega arith)
