use Rattle.std.proofs.Common.{false}
use Rattle.rv_model.specs.DebugRegisters.{dcsr_number}
use Rattle.probe_access.specs.StepRuns.{with_flag}
use Rattle.probe_access.specs.StepRuns.ClearFailed.{at_read, at_write}
use Rattle.probe_access.proofs.Counted.{write_counted}
use Rattle.probe_access.proofs.RegisterCalls.{err_failed}
use Rattle.probe_access.proofs.StepLemmas.{read_keeps}
use Rattle.probe_access.proofs.StepReads.{clearing_read_cut, clearing_write_cut, read_flagged, scratch_read, still_reads}
use Rattle.probe_access.proofs.single.clear_flag.Goals as goal

pub returns-in_err-word-clause-left : goal.returns-in_err-word-clause-left
returns-in_err-word-clause-left g c =
    err_failed c.from_residual.result c.in_err-word.field-0.0 _ c.from_residual.ensures.1 c.in_err-word.ensures.left

pub returns-in_err-word-clause-failed : goal.returns-in_err-word-clause-failed
returns-in_err-word-clause-failed g c =
    err_failed c.from_residual.result c.in_err-word.field-0.0 _ c.from_residual.ensures.1 (at_read c.in_err-word.ensures.failed)

pub returns-in_err-word-clause-cut : goal.returns-in_err-word-clause-cut
returns-in_err-word-clause-cut g c =
    err_failed c.from_residual.result c.in_err-word.field-0.0 _ c.from_residual.ensures.1
    (clearing_read_cut c.args.halted.now.number _ _ c.in_err-word.field-0.0 c.in_err-word.ensures.cut)

pub set_flag-requires-clause-ebreakm : goal.set_flag-requires-clause-ebreakm
set_flag-requires-clause-ebreakm g c =
    read_keeps c.args.halted.now.number c.in_ok-word.word _
    (still_reads c.args.halted.now.number c.in_ok-word.word _ _ c.requires.serving.ready c.requires.serving.halted c.in_ok-word.ensures.got)

pub returns-in_err-set_flag-clause-left : goal.returns-in_err-set_flag-clause-left
returns-in_err-set_flag-clause-left g c =
    err_failed c.from_residual-in_err-set_flag.result c.in_err-set_flag.field-0.0 _ c.from_residual-in_err-set_flag.ensures.1
    (scratch_read c.args.halted.now.number c.in_ok-word.word _ _ c.in_err-set_flag.field-0.0 c.in_ok-word.ensures.got c.in_err-set_flag.ensures.left)

pub returns-in_err-set_flag-clause-failed : goal.returns-in_err-set_flag-clause-failed
returns-in_err-set_flag-clause-failed g c =
    err_failed c.from_residual-in_err-set_flag.result c.in_err-set_flag.field-0.0 _ c.from_residual-in_err-set_flag.ensures.1
    (at_write c.in_ok-word.word _ c.in_ok-word.ensures.read
    (write_counted dcsr_number (with_flag false c.in_ok-word.word) _ _ _ _ _ c.in_err-set_flag.field-0.0 c.read_dcsr.ensures.keeps.later
    c.set_flag.ensures.keeps.later c.in_err-set_flag.ensures.failed))

pub returns-in_err-set_flag-clause-cut : goal.returns-in_err-set_flag-clause-cut
returns-in_err-set_flag-clause-cut g c =
    err_failed c.from_residual-in_err-set_flag.result c.in_err-set_flag.field-0.0 _ c.from_residual-in_err-set_flag.ensures.1
    (clearing_write_cut c.args.halted.now.number c.in_ok-word.word _ _ _ c.in_err-set_flag.field-0.0 c.requires.serving.ready c.requires.serving.halted
    c.in_ok-word.ensures.got c.in_err-set_flag.ensures.cut)

pub returns-clause-flagged_at : goal.returns-clause-flagged_at
returns-clause-flagged_at g c =
    read_flagged false c.args.halted.now.number c.in_ok-word.word _ _ _ c.in_ok-word.ensures.got c.in_ok-set_flag.ensures.flagged_at

pub returns-clause-cleared : goal.returns-clause-cleared
returns-clause-cleared g c =
    record { word = c.in_ok-word.word; mid = _; read = c.in_ok-word.ensures.read; written = c.in_ok-set_flag.ensures.written }
