use Rattle.probe_access.specs.DcsrRuns.DcsrRead.{late}
use Rattle.probe_access.specs.DcsrRuns.DcsrReadFailed.{asking}
use Rattle.probe_access.proofs.DcsrCalls.{dcsr_answered, dcsr_early, dcsr_late_failed}
use Rattle.probe_access.proofs.DcsrClauses.{dcsr_cut, dcsr_err, dcsr_ok}
use Rattle.probe_access.proofs.RegisterCalls.{err_failed}
use Rattle.probe_access.proofs.dcsr.read_dcsr.Goals as goal

pub returns-in_err-word-clause-cut : goal.returns-in_err-word-clause-cut
returns-in_err-word-clause-cut g c =
    err_failed c.from_residual.result c.in_err-word.field-0.0 _ c.from_residual.ensures.1
    (dcsr_cut c.args.halted.now.number _ _ _ _ _ c.in_err-word.field-0.0 c.requires.serving.ready c.requires.serving.selects c.requires.serving.halted
    (asking c.in_err-word.ensures.failed))

pub returns-in_err-word-in-None-clause-failed : goal.returns-in_err-word-in-None-clause-failed
returns-in_err-word-in-None-clause-failed g c =
    err_failed c.from_residual-in_err-word-in-None.result c.in_err-word-in-None.field-0.0 _ c.from_residual-in_err-word-in-None.ensures.1
    (dcsr_late_failed _ _ _ _ _ _ c.in_err-word-in-None.field-0.0 (dcsr_early c.in_ok-word.field-0 _ _ c.in-None.is c.in_ok-word.ensures.asked)
    c.dcsr_at_once.ensures.keeps.later c.read_apart.ensures.keeps.later c.in_err-word-in-None.ensures.failed)

pub returns-in_err-word-in-None-clause-left : goal.returns-in_err-word-in-None-clause-left
returns-in_err-word-in-None-clause-left g c =
    err_failed c.from_residual-in_err-word-in-None.result c.in_err-word-in-None.field-0.0 _ c.from_residual-in_err-word-in-None.ensures.1
    (dcsr_err c.args.halted.now.number _ _ _ _ _ c.in_err-word-in-None.field-0.0 c.requires.serving.ready c.requires.serving.selects
    c.requires.serving.halted
    (dcsr_late_failed _ _ _ _ _ _ c.in_err-word-in-None.field-0.0 (dcsr_early c.in_ok-word.field-0 _ _ c.in-None.is c.in_ok-word.ensures.asked)
    c.dcsr_at_once.ensures.keeps.later c.read_apart.ensures.keeps.later c.in_err-word-in-None.ensures.failed))

pub returns-in_err-word-in-None-clause-cut : goal.returns-in_err-word-in-None-clause-cut
returns-in_err-word-in-None-clause-cut g c =
    err_failed c.from_residual-in_err-word-in-None.result c.in_err-word-in-None.field-0.0 _ c.from_residual-in_err-word-in-None.ensures.1
    (dcsr_cut c.args.halted.now.number _ _ _ _ _ c.in_err-word-in-None.field-0.0 c.requires.serving.ready c.requires.serving.selects
    c.requires.serving.halted
    (dcsr_late_failed _ _ _ _ _ _ c.in_err-word-in-None.field-0.0 (dcsr_early c.in_ok-word.field-0 _ _ c.in-None.is c.in_ok-word.ensures.asked)
    c.dcsr_at_once.ensures.keeps.later c.read_apart.ensures.keeps.later c.in_err-word-in-None.ensures.failed))

pub returns-in-Some-clause-got : goal.returns-in-Some-clause-got
returns-in-Some-clause-got g c =
    (dcsr_ok c.args.halted.now.number c.in-Some.word _ _ _ c.requires.serving.ready c.requires.serving.selects c.requires.serving.halted
    (dcsr_answered c.in_ok-word.field-0 c.in-Some.word _ _ c.in-Some.is c.in_ok-word.ensures.asked)).got

pub returns-in-Some-clause-serving : goal.returns-in-Some-clause-serving
returns-in-Some-clause-serving g c =
    (dcsr_ok c.args.halted.now.number c.in-Some.word _ _ _ c.requires.serving.ready c.requires.serving.selects c.requires.serving.halted
    (dcsr_answered c.in_ok-word.field-0 c.in-Some.word _ _ c.in-Some.is c.in_ok-word.ensures.asked)).serving

pub returns-in_ok-word-in-None-clause-got : goal.returns-in_ok-word-in-None-clause-got
returns-in_ok-word-in-None-clause-got g c =
    (dcsr_ok c.args.halted.now.number c.in_ok-word-in-None.word _ _ _ c.requires.serving.ready c.requires.serving.selects c.requires.serving.halted
    (late _ (dcsr_early c.in_ok-word.field-0 _ _ c.in-None.is c.in_ok-word.ensures.asked) c.in_ok-word-in-None.ensures.read)).got

pub returns-in_ok-word-in-None-clause-read : goal.returns-in_ok-word-in-None-clause-read
returns-in_ok-word-in-None-clause-read g c =
    late _ (dcsr_early c.in_ok-word.field-0 _ _ c.in-None.is c.in_ok-word.ensures.asked) c.in_ok-word-in-None.ensures.read

pub returns-in_ok-word-in-None-clause-serving : goal.returns-in_ok-word-in-None-clause-serving
returns-in_ok-word-in-None-clause-serving g c =
    (dcsr_ok c.args.halted.now.number c.in_ok-word-in-None.word _ _ _ c.requires.serving.ready c.requires.serving.selects c.requires.serving.halted
    (late _ (dcsr_early c.in_ok-word.field-0 _ _ c.in-None.is c.in_ok-word.ensures.asked) c.in_ok-word-in-None.ensures.read)).serving
