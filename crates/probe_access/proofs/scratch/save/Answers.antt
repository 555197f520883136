use Rattle.probe_access.proofs.CutClauses.{save_cut}
use Rattle.probe_access.proofs.ScratchClauses.{save_err, save_ok}
use Rattle.probe_access.proofs.RegisterCalls.{err_failed}
use Rattle.probe_access.proofs.scratch.save.Goals as goal

pub returns-clause-saved_at : goal.returns-clause-saved_at
returns-clause-saved_at g c = (save_ok c.args.halted.now.number c.in_ok-scratch.scratch.x8 c.in_ok-scratch.scratch.x9 _ _ _ c.requires.serving.ready
    c.requires.serving.selects c.requires.serving.halted c.in_ok-scratch.ensures.saved).saved_at

pub returns-clause-serving : goal.returns-clause-serving
returns-clause-serving g c = (save_ok c.args.halted.now.number c.in_ok-scratch.scratch.x8 c.in_ok-scratch.scratch.x9 _ _ _ c.requires.serving.ready
    c.requires.serving.selects c.requires.serving.halted c.in_ok-scratch.ensures.saved).serving

pub returns-in_err-scratch-clause-left : goal.returns-in_err-scratch-clause-left
returns-in_err-scratch-clause-left g c =
    err_failed c.from_residual.result c.in_err-scratch.field-0.0 _ c.from_residual.ensures.1
    (save_err c.args.halted.now.number _ _ _ _ _ c.in_err-scratch.field-0.0 c.requires.serving.ready c.requires.serving.selects c.requires.serving.halted
    c.in_err-scratch.ensures.failed)

pub returns-in_err-scratch-clause-cut : goal.returns-in_err-scratch-clause-cut
returns-in_err-scratch-clause-cut g c =
    err_failed c.from_residual.result c.in_err-scratch.field-0.0 _ c.from_residual.ensures.1
    (save_cut c.args.halted.now.number _ _ _ _ _ c.in_err-scratch.field-0.0 c.requires.serving.ready c.requires.serving.selects c.requires.serving.halted
    c.in_err-scratch.ensures.failed)
