use Rattle.probe_access.specs.Stops.StopFailed.{asking}
use Rattle.probe_access.specs.Stops.StopRead.{late}
use Rattle.probe_access.proofs.CutClauses.{stop_cut}
use Rattle.probe_access.proofs.RegisterCalls.{err_failed}
use Rattle.probe_access.proofs.StopCalls.{stop_answered, stop_early, stop_late_failed}
use Rattle.probe_access.proofs.StopClauses.{stop_err, stop_ok}
use Rattle.probe_access.proofs.stops.stop.Goals as goal

pub returns-in_err-found-clause-cut : goal.returns-in_err-found-clause-cut
returns-in_err-found-clause-cut g c =
    err_failed c.from_residual.result c.in_err-found.field-0.0 _ c.from_residual.ensures.1
    (stop_cut c.args.halted.now.number _ _ _ _ _ c.in_err-found.field-0.0 c.requires.serving.ready c.requires.serving.selects c.requires.serving.halted
    (asking c.in_err-found.ensures.failed))

pub returns-in_err-found-in-None-clause-failed : goal.returns-in_err-found-in-None-clause-failed
returns-in_err-found-in-None-clause-failed g c =
    err_failed c.from_residual-in_err-found-in-None.result c.in_err-found-in-None.field-0.0 _ c.from_residual-in_err-found-in-None.ensures.1
    (stop_late_failed _ _ _ _ _ _ c.in_err-found-in-None.field-0.0 (stop_early c.in_ok-found.field-0 _ _ c.in-None.is c.in_ok-found.ensures.asked)
    c.stop_at_once.ensures.keeps.later c.stop_apart.ensures.keeps.later c.in_err-found-in-None.ensures.failed)

pub returns-in_err-found-in-None-clause-left : goal.returns-in_err-found-in-None-clause-left
returns-in_err-found-in-None-clause-left g c =
    err_failed c.from_residual-in_err-found-in-None.result c.in_err-found-in-None.field-0.0 _ c.from_residual-in_err-found-in-None.ensures.1
    (stop_err c.args.halted.now.number _ _ _ _ _ c.in_err-found-in-None.field-0.0 c.requires.serving.ready c.requires.serving.selects
    c.requires.serving.halted
    (stop_late_failed _ _ _ _ _ _ c.in_err-found-in-None.field-0.0 (stop_early c.in_ok-found.field-0 _ _ c.in-None.is c.in_ok-found.ensures.asked)
    c.stop_at_once.ensures.keeps.later c.stop_apart.ensures.keeps.later c.in_err-found-in-None.ensures.failed))

pub returns-in_err-found-in-None-clause-cut : goal.returns-in_err-found-in-None-clause-cut
returns-in_err-found-in-None-clause-cut g c =
    err_failed c.from_residual-in_err-found-in-None.result c.in_err-found-in-None.field-0.0 _ c.from_residual-in_err-found-in-None.ensures.1
    (stop_cut c.args.halted.now.number _ _ _ _ _ c.in_err-found-in-None.field-0.0 c.requires.serving.ready c.requires.serving.selects
    c.requires.serving.halted
    (stop_late_failed _ _ _ _ _ _ c.in_err-found-in-None.field-0.0 (stop_early c.in_ok-found.field-0 _ _ c.in-None.is c.in_ok-found.ensures.asked)
    c.stop_at_once.ensures.keeps.later c.stop_apart.ensures.keeps.later c.in_err-found-in-None.ensures.failed))

pub returns-in-Some-clause-stopped_at : goal.returns-in-Some-clause-stopped_at
returns-in-Some-clause-stopped_at g c = (stop_ok c.args.halted.now.number c.in-Some.found.pc c.in-Some.found.cause _ _ _ c.requires.serving.ready
    c.requires.serving.selects c.requires.serving.halted
    (stop_answered c.in_ok-found.field-0 c.in-Some.found _ _ c.in-Some.is c.in_ok-found.ensures.asked)).stopped_at

pub returns-in-Some-clause-serving : goal.returns-in-Some-clause-serving
returns-in-Some-clause-serving g c = (stop_ok c.args.halted.now.number c.in-Some.found.pc c.in-Some.found.cause _ _ _ c.requires.serving.ready
    c.requires.serving.selects c.requires.serving.halted
    (stop_answered c.in_ok-found.field-0 c.in-Some.found _ _ c.in-Some.is c.in_ok-found.ensures.asked)).serving

pub returns-in_ok-found-in-None-clause-stopped_at : goal.returns-in_ok-found-in-None-clause-stopped_at
returns-in_ok-found-in-None-clause-stopped_at g c =
    (stop_ok c.args.halted.now.number c.in_ok-found-in-None.found.pc c.in_ok-found-in-None.found.cause _ _ _ c.requires.serving.ready
    c.requires.serving.selects c.requires.serving.halted
    (late _ (stop_early c.in_ok-found.field-0 _ _ c.in-None.is c.in_ok-found.ensures.asked) c.in_ok-found-in-None.ensures.read)).stopped_at

pub returns-in_ok-found-in-None-clause-read : goal.returns-in_ok-found-in-None-clause-read
returns-in_ok-found-in-None-clause-read g c =
    late _ (stop_early c.in_ok-found.field-0 _ _ c.in-None.is c.in_ok-found.ensures.asked) c.in_ok-found-in-None.ensures.read

pub returns-in_ok-found-in-None-clause-serving : goal.returns-in_ok-found-in-None-clause-serving
returns-in_ok-found-in-None-clause-serving g c =
    (stop_ok c.args.halted.now.number c.in_ok-found-in-None.found.pc c.in_ok-found-in-None.found.cause _ _ _ c.requires.serving.ready
    c.requires.serving.selects c.requires.serving.halted
    (late _ (stop_early c.in_ok-found.field-0 _ _ c.in-None.is c.in_ok-found.ensures.asked) c.in_ok-found-in-None.ensures.read)).serving
