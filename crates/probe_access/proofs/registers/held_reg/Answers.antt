use Rattle.std.proofs.Common.{arith}
use Rattle.probe_access.proofs.CutClauses.{reg_cut}
use Rattle.probe_access.proofs.RegClauses.{reg_err, reg_ok}
use Rattle.probe_access.proofs.RegisterCalls.{err_failed}
use Rattle.probe_access.proofs.registers.held_reg.Goals as goal

pub returns-clause-got : goal.returns-clause-got
returns-clause-got g c =
    (reg_ok c.args.halted.now.number c.args.register _ _ _ _ (record { small = omega arith; other = c.requires.other }) c.requires.serving.ready c.requires.serving.selects c.requires.serving.halted
    c.in_ok-value.ensures.read).got

pub returns-clause-serving : goal.returns-clause-serving
returns-clause-serving g c =
    (reg_ok c.args.halted.now.number c.args.register _ _ _ _ (record { small = omega arith; other = c.requires.other }) c.requires.serving.ready c.requires.serving.selects c.requires.serving.halted
    c.in_ok-value.ensures.read).serving

pub returns-in_err-value-clause-left : goal.returns-in_err-value-clause-left
returns-in_err-value-clause-left g c =
    err_failed c.from_residual.result c.in_err-value.field-0.0 _ c.from_residual.ensures.1
    (reg_err c.args.halted.now.number c.args.register _ _ _ _ _ c.in_err-value.field-0.0 (record { small = omega arith; other = c.requires.other }) c.requires.serving.ready c.requires.serving.selects
    c.requires.serving.halted c.in_err-value.ensures.failed).left

pub returns-in_err-value-clause-serving_still : goal.returns-in_err-value-clause-serving_still
returns-in_err-value-clause-serving_still g c =
    err_failed c.from_residual.result c.in_err-value.field-0.0 _ c.from_residual.ensures.1
    (reg_err c.args.halted.now.number c.args.register _ _ _ _ _ c.in_err-value.field-0.0 (record { small = omega arith; other = c.requires.other }) c.requires.serving.ready c.requires.serving.selects
    c.requires.serving.halted c.in_err-value.ensures.failed).serving

pub returns-in_err-value-clause-cut : goal.returns-in_err-value-clause-cut
returns-in_err-value-clause-cut g c =
    err_failed c.from_residual.result c.in_err-value.field-0.0 _ c.from_residual.ensures.1
    (reg_cut c.args.halted.now.number c.args.register _ _ _ _ _ c.in_err-value.field-0.0 (record { small = omega arith; other = c.requires.other }) c.requires.serving.ready c.requires.serving.selects
    c.requires.serving.halted c.in_err-value.ensures.failed)
