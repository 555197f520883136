use Rattle.probe_access.proofs.CutClauses.{load_left_off}
use Rattle.std.proofs.Common.{arith}
use Rattle.probe_access.proofs.LoadClauses.{load_err, load_ok}
use Rattle.probe_access.proofs.RegisterCalls.{err_failed}
use Rattle.probe_access.proofs.memory.load.Goals as goal

pub returns-clause-loaded : goal.returns-clause-loaded
returns-clause-loaded g c = (load_ok c.args.size c.args.address c.in_ok-value.value c.args.halted.now.number _ _ _ (omega arith) c.requires.serving.ready
    c.requires.serving.selects c.requires.serving.halted c.in_ok-value.ensures.loaded).loaded_at

pub returns-clause-serving : goal.returns-clause-serving
returns-clause-serving g c = (load_ok c.args.size c.args.address c.in_ok-value.value c.args.halted.now.number _ _ _ (omega arith) c.requires.serving.ready
    c.requires.serving.selects c.requires.serving.halted c.in_ok-value.ensures.loaded).serving

pub returns-in_err-value-clause-left : goal.returns-in_err-value-clause-left
returns-in_err-value-clause-left g c = err_failed c.from_residual.result c.in_err-value.field-0.0 _ c.from_residual.ensures.1
    (load_err c.args.size c.args.address c.args.halted.now.number _ _ _ _ _ c.in_err-value.field-0.0 (omega arith) c.requires.serving.ready
    c.requires.serving.selects c.requires.serving.halted c.in_err-value.ensures.failed).left

pub returns-in_err-value-clause-serving_still : goal.returns-in_err-value-clause-serving_still
returns-in_err-value-clause-serving_still g c =
    err_failed c.from_residual.result c.in_err-value.field-0.0 _ c.from_residual.ensures.1
    (load_err c.args.size c.args.address c.args.halted.now.number _ _ _ _ _ c.in_err-value.field-0.0 (omega arith) c.requires.serving.ready
    c.requires.serving.selects c.requires.serving.halted c.in_err-value.ensures.failed).serving

pub returns-in_err-value-clause-cut : goal.returns-in_err-value-clause-cut
returns-in_err-value-clause-cut g c =
    err_failed c.from_residual.result c.in_err-value.field-0.0 _ c.from_residual.ensures.1
    (load_left_off c.args.size c.args.address c.args.halted.now.number _ _ _ _ _ c.in_err-value.field-0.0 (omega arith) c.requires.serving.ready
    c.requires.serving.selects c.requires.serving.halted c.in_err-value.ensures.failed)
