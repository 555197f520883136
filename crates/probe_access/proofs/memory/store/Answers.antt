use Rattle.probe_access.proofs.CutClauses.{store_left_off}
use Rattle.std.proofs.Common.{arith}
use Rattle.probe_access.proofs.StoreClauses.{store_err, store_ok}
use Rattle.probe_access.proofs.RegisterCalls.{err_failed}
use Rattle.probe_access.proofs.memory.store.Goals as goal

pub returns-clause-stored : goal.returns-clause-stored
returns-clause-stored g c = (store_ok c.args.size c.args.address c.args.value c.args.halted.now.number _ _ _ (omega arith) c.requires.serving.ready
    c.requires.serving.selects c.requires.serving.halted c.in_ok-store_around.ensures.stored).stored_at

pub returns-clause-serving : goal.returns-clause-serving
returns-clause-serving g c = (store_ok c.args.size c.args.address c.args.value c.args.halted.now.number _ _ _ (omega arith) c.requires.serving.ready
    c.requires.serving.selects c.requires.serving.halted c.in_ok-store_around.ensures.stored).serving

pub returns-in_err-store_around-clause-left : goal.returns-in_err-store_around-clause-left
returns-in_err-store_around-clause-left g c =
    err_failed c.from_residual.result c.in_err-store_around.field-0.0 _ c.from_residual.ensures.1
    (store_err c.args.size c.args.address c.args.value c.args.halted.now.number _ _ _ _ _ c.in_err-store_around.field-0.0 (omega arith)
    c.requires.serving.ready c.requires.serving.selects c.requires.serving.halted c.in_err-store_around.ensures.failed).left

pub returns-in_err-store_around-clause-serving_still : goal.returns-in_err-store_around-clause-serving_still
returns-in_err-store_around-clause-serving_still g c =
    err_failed c.from_residual.result c.in_err-store_around.field-0.0 _ c.from_residual.ensures.1
    (store_err c.args.size c.args.address c.args.value c.args.halted.now.number _ _ _ _ _ c.in_err-store_around.field-0.0 (omega arith)
    c.requires.serving.ready c.requires.serving.selects c.requires.serving.halted c.in_err-store_around.ensures.failed).serving

pub returns-in_err-store_around-clause-cut : goal.returns-in_err-store_around-clause-cut
returns-in_err-store_around-clause-cut g c =
    err_failed c.from_residual.result c.in_err-store_around.field-0.0 _ c.from_residual.ensures.1
    (store_left_off c.args.size c.args.address c.args.value c.args.halted.now.number _ _ _ _ _ c.in_err-store_around.field-0.0 (omega arith)
    c.requires.serving.ready c.requires.serving.selects c.requires.serving.halted c.in_err-store_around.ensures.failed)
