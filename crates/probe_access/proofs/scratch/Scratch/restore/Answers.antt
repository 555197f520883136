use Rattle.probe_access.proofs.CutClauses.{restore_cut}
use Rattle.std.proofs.Common.{arith}
use Rattle.probe_access.proofs.ScratchClauses.{put_back_err, put_back_ok}
use Rattle.probe_access.proofs.RegisterCalls.{err_failed}
use Rattle.probe_access.proofs.scratch.Scratch.restore.Goals as goal

pub returns-clause-restored : goal.returns-clause-restored
returns-clause-restored g c = (put_back_ok c.args.halted.now.number c.args.self.x8 c.args.self.x9 _ _ _ (omega arith) (omega arith) c.requires.serving.ready
    c.requires.serving.selects c.requires.serving.halted c.in_ok-put_back.ensures.put_back).put_back_at

pub returns-clause-serving : goal.returns-clause-serving
returns-clause-serving g c = (put_back_ok c.args.halted.now.number c.args.self.x8 c.args.self.x9 _ _ _ (omega arith) (omega arith) c.requires.serving.ready
    c.requires.serving.selects c.requires.serving.halted c.in_ok-put_back.ensures.put_back).serving

pub returns-in_err-put_back-clause-left : goal.returns-in_err-put_back-clause-left
returns-in_err-put_back-clause-left g c =
    err_failed c.from_residual.result c.in_err-put_back.field-0.0 _ c.from_residual.ensures.1
    (put_back_err c.args.halted.now.number c.args.self.x8 c.args.self.x9 _ _ _ _ _ c.in_err-put_back.field-0.0 c.requires.serving.ready
    c.requires.serving.selects c.requires.serving.halted c.in_err-put_back.ensures.failed)

pub returns-in_err-put_back-clause-cut : goal.returns-in_err-put_back-clause-cut
returns-in_err-put_back-clause-cut g c =
    err_failed c.from_residual.result c.in_err-put_back.field-0.0 _ c.from_residual.ensures.1
    (restore_cut c.args.halted.now.number c.args.self.x8 c.args.self.x9 _ _ _ _ _ c.in_err-put_back.field-0.0 c.requires.serving.ready
    c.requires.serving.selects c.requires.serving.halted c.in_err-put_back.ensures.failed)
