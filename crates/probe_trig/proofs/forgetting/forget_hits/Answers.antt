use Rattle.probe_trig.proofs.Calls.{changed_any, makes_forget}
use Rattle.probe_trig.proofs.CutLemmas.{failed_cut}
use Rattle.probe_trig.proofs.Told.{did_at}
use Rattle.probe_run.proofs.ActLemmas.{if_err}
use Rattle.probe_trig.proofs.Untold.{failed_left}
use Rattle.probe_trig.proofs.forgetting.forget_hits.Goals as goal

pub returns-in_err-_some-clause-left : goal.returns-in_err-_some-clause-left
returns-in_err-_some-clause-left g c = if_err _ c.from_residual.result _ c.from_residual.ensures.1
    (failed_left _ _ _ _ _ _ _ c.in_err-_some.field-0.0 c.in_err-_some.ensures.failed)

pub returns-clause-forgot : goal.returns-clause-forgot
returns-clause-forgot g c = did_at _ _ c.args.halted.now.number _ _ _ c.requires.serving.ready c.requires.serving.halted (makes_forget c.args.halted.now.number)
    (changed_any _ _ _ _ _ c.in_ok-_some.ensures.did)

pub returns-in_err-_some-clause-cut : goal.returns-in_err-_some-clause-cut
returns-in_err-_some-clause-cut g c =
    if_err _ c.from_residual.result _ c.from_residual.ensures.1
    (failed_cut _ c.args.halted.now.number _ _ _ _ _ c.in_err-_some.field-0.0 c.requires.serving.ready c.requires.serving.halted
    c.in_err-_some.ensures.failed)
