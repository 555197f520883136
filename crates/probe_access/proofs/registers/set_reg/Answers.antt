use Rattle.std.proofs.Common.{arith}
use Rattle.probe_access.proofs.CutClauses.{set_reg_cut}
use Rattle.probe_access.proofs.SetClauses.{set_err, set_ok}
use Rattle.probe_access.proofs.RegisterCalls.{err_failed}
use Rattle.probe_access.proofs.registers.set_reg.Goals as goal

pub returns-clause-set_to : goal.returns-clause-set_to
returns-clause-set_to g c =
    (set_ok c.args.halted.now.number c.args.register c.args.value _ _ _ (omega arith) (omega arith) c.requires.serving.ready c.requires.serving.selects
    c.requires.serving.halted c.in_ok-write_register.ensures.written).set_to

pub returns-clause-serving : goal.returns-clause-serving
returns-clause-serving g c =
    (set_ok c.args.halted.now.number c.args.register c.args.value _ _ _ (omega arith) (omega arith) c.requires.serving.ready c.requires.serving.selects
    c.requires.serving.halted c.in_ok-write_register.ensures.written).serving

pub returns-in_err-write_register-clause-left : goal.returns-in_err-write_register-clause-left
returns-in_err-write_register-clause-left g c =
    err_failed c.from_residual.result c.in_err-write_register.field-0.0 _ c.from_residual.ensures.1
    (set_err c.args.halted.now.number c.args.register c.args.value _ _ _ _ _ c.in_err-write_register.field-0.0 (omega arith) c.requires.serving.ready
    c.requires.serving.selects c.requires.serving.halted c.in_err-write_register.ensures.failed).left

pub returns-in_err-write_register-clause-serving_still : goal.returns-in_err-write_register-clause-serving_still
returns-in_err-write_register-clause-serving_still g c =
    err_failed c.from_residual.result c.in_err-write_register.field-0.0 _ c.from_residual.ensures.1
    (set_err c.args.halted.now.number c.args.register c.args.value _ _ _ _ _ c.in_err-write_register.field-0.0 (omega arith) c.requires.serving.ready
    c.requires.serving.selects c.requires.serving.halted c.in_err-write_register.ensures.failed).serving

pub returns-in_err-write_register-clause-cut : goal.returns-in_err-write_register-clause-cut
returns-in_err-write_register-clause-cut g c =
    err_failed c.from_residual.result c.in_err-write_register.field-0.0 _ c.from_residual.ensures.1
    (set_reg_cut c.args.halted.now.number c.args.register c.args.value _ _ _ _ _ c.in_err-write_register.field-0.0 (omega arith) c.requires.serving.ready
    c.requires.serving.selects c.requires.serving.halted c.in_err-write_register.ensures.failed)
