use Rattle.std.proofs.Common.{arith}
use Rattle.debug_model.proofs.RiseLemmas.{within_more, within_then}
use Rattle.probe_access.specs.StepRuns.StepFailed.{at_read, behind}
use Rattle.probe_access.proofs.RegisterCalls.{err_failed}
use Rattle.probe_access.proofs.StepClauses.{flag_left, from_counted}
use Rattle.probe_access.proofs.StepReads.{read_left, read_step, read_step_cut, reading_cut, still_reads}
use Rattle.probe_access.proofs.CommandNever.{lost_behind}
use Rattle.probe_access.proofs.single.step.Goals as goal

pub returns-in_err-word-clause-left : goal.returns-in_err-word-clause-left
returns-in_err-word-clause-left g c =
    err_failed c.from_residual.result c.in_err-word.field-0.0 _ c.from_residual.ensures.1
    (flag_left c.args.halted.number _ _ _ c.in_err-word.field-0.0 (λ none. none)
    c.in_err-word.ensures.left)

pub returns-in_err-word-clause-failed : goal.returns-in_err-word-clause-failed
returns-in_err-word-clause-failed g c =
    err_failed c.from_residual.result c.in_err-word.field-0.0 _ c.from_residual.ensures.1 (at_read c.in_err-word.ensures.failed)

pub returns-in_err-word-clause-cut : goal.returns-in_err-word-clause-cut
returns-in_err-word-clause-cut g c =
    err_failed c.from_residual.result c.in_err-word.field-0.0 _ c.from_residual.ensures.1
    (reading_cut c.args.halted.number _ _ c.in_err-word.field-0.0 c.in_err-word.ensures.cut)

pub step_from-requires-clause-reads : goal.step_from-requires-clause-reads
step_from-requires-clause-reads g c =
    still_reads c.args.halted.number c.in_ok-word.word _ _ c.requires.serving.ready c.requires.serving.halted c.in_ok-word.ensures.got

pub returns-in_err-again-clause-left : goal.returns-in_err-again-clause-left
returns-in_err-again-clause-left g c =
    err_failed c.from_residual-in_err-again.result c.in_err-again.field-0.0 _ c.from_residual-in_err-again.ensures.1
    (read_left c.args.halted.number c.in_ok-word.word _ _ _ c.in_err-again.field-0.0 c.in_ok-word.ensures.got c.in_err-again.ensures.left)

pub returns-in_err-again-clause-failed : goal.returns-in_err-again-clause-failed
returns-in_err-again-clause-failed g c =
    err_failed c.from_residual-in_err-again.result c.in_err-again.field-0.0 _ c.from_residual-in_err-again.ensures.1
    (behind c.in_ok-word.word _ c.in_ok-word.ensures.read
    (from_counted c.args.halted.number c.in_ok-word.word _ _ _ _ _ c.in_err-again.field-0.0 c.read_dcsr.ensures.keeps.later c.step_from.ensures.keeps.later
    c.in_err-again.ensures.failed))

pub returns-in_err-again-clause-cut : goal.returns-in_err-again-clause-cut
returns-in_err-again-clause-cut g c =
    err_failed c.from_residual-in_err-again.result c.in_err-again.field-0.0 _ c.from_residual-in_err-again.ensures.1
    (read_step_cut c.args.halted.number c.in_ok-word.word _ _ _ c.in_err-again.field-0.0 c.requires.serving.ready c.requires.serving.halted
    c.in_ok-word.ensures.got c.in_err-again.ensures.cut)

pub returns-clause-stepped_at : goal.returns-clause-stepped_at
returns-clause-stepped_at g c = read_step c.args.halted.number c.in_ok-word.word _ _ _ c.in_ok-word.ensures.got c.in_ok-again.ensures.stepped_at

pub returns-clause-stepped : goal.returns-clause-stepped
returns-clause-stepped g c =
    record { word = c.in_ok-word.word; mid = _; read = c.in_ok-word.ensures.read; steps = c.in_ok-again.ensures.stepped }

pub returns-in_err-word-clause-rises : goal.returns-in_err-word-clause-rises
returns-in_err-word-clause-rises g c =
    within_more 15 49 _ _ c.read_dcsr.ensures.rises (omega arith)

pub returns-in_err-again-clause-rises : goal.returns-in_err-again-clause-rises
returns-in_err-again-clause-rises g c =
    within_then 15 34 49 _ (g.D.Dmi.seen c.read_dcsr.new.link) _ c.read_dcsr.ensures.rises c.step_from.ensures.rises
    c.read_dcsr.ensures.keeps.fixed (omega arith)

pub returns-clause-rises : goal.returns-clause-rises
returns-clause-rises g c =
    within_then 15 34 49 _ (g.D.Dmi.seen c.read_dcsr.new.link) _ c.read_dcsr.ensures.rises c.step_from.ensures.rises
    c.read_dcsr.ensures.keeps.fixed (omega arith)

pub returns-in_err-again-clause-never : goal.returns-in_err-again-clause-never
returns-in_err-again-clause-never g c =
    lost_behind c.from_residual-in_err-again.result 15 (g.D.Dmi.seen c.args.link.now) (g.D.Dmi.seen c.read_dcsr.new.link) c.in_err-again.field-0.0 c.from_residual-in_err-again.ensures.1
    c.read_dcsr.ensures.rises c.in_err-again.ensures.never
