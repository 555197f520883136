use Rattle.std.proofs.Common.{arith}
use Rattle.debug_model.proofs.RiseLemmas.{within_more, within_then}
use Rattle.probe_trig.proofs.StepCutLemmas.{back_in_end, back_in_step}
use Rattle.probe_access.proofs.StepClauses.{flag_left}
use Rattle.probe_trig.specs.Stepping.BackFailed.{in_end, in_step}
use Rattle.probe_trig.proofs.OverFaults.{failed_counted}
use Rattle.probe_trig.proofs.Overs.{at_back, back_at, steps_at}
use Rattle.probe_run.proofs.ActLemmas.{if_err}
use Rattle.probe_trig.proofs.Untold.{failed_left}
use Rattle.probe_access.specs.Never.{NeverLost}
use Rattle.probe_access.proofs.NeverLemmas.{lost_then}
use Rattle.probe_trig.proofs.stepping.step_back.Goals as goal

pub returns-in_err-again-clause-failed : goal.returns-in_err-again-clause-failed
returns-in_err-again-clause-failed g c = if_err _ c.from_residual.result _ c.from_residual.ensures.1
    (in_step c.in_err-again.ensures.failed c.in_err-again.ensures.cut)

pub returns-in_err-executed-clause-left : goal.returns-in_err-executed-clause-left
returns-in_err-executed-clause-left g c =
    if_err _ c.from_residual-in_err-executed.result _ c.from_residual-in_err-executed.ensures.1
    (flag_left c.args.halted.number _ _ _ c.in_err-executed.field-0.0 (at_back _ _ _ (steps_at c.args.halted.number _ _ c.in_ok-again.ensures.stepped_at))
    (failed_left _ _ _ _ _ _ _ c.in_err-executed.field-0.0 c.in_err-executed.ensures.failed))

pub returns-in_err-executed-clause-failed : goal.returns-in_err-executed-clause-failed
returns-in_err-executed-clause-failed g c =
    if_err _ c.from_residual-in_err-executed.result _ c.from_residual-in_err-executed.ensures.1
    (in_end _ c.in_ok-again.ensures.stepped
    (failed_counted _ c.args.halted.number _ _ _ _ _ c.in_err-executed.field-0.0 c.step.ensures.keeps.later c.put_back.ensures.keeps.later
    (rw (c.in_ok-again.ensures.hart) at c.in_err-executed.ensures.failed)))

pub returns-clause-back_at : goal.returns-clause-back_at
returns-clause-back_at g c =
    back_at c.in_ok-executed.executed c.args.halted.number _ _ _ _ c.in_ok-again.ensures.stepped_at c.in_ok-again.ensures.serving.ready
    c.in_ok-again.ensures.serving.halted (rw (c.in_ok-again.ensures.hart) at c.in_ok-executed.ensures.did)

pub returns-clause-stepped : goal.returns-clause-stepped
returns-clause-stepped g c = record { ran = _; steps = c.in_ok-again.ensures.stepped; ends = rw (c.in_ok-again.ensures.hart) at c.in_ok-executed.ensures.did }

pub returns-in_err-again-clause-cut : goal.returns-in_err-again-clause-cut
returns-in_err-again-clause-cut g c =
    if_err _ c.from_residual.result _ c.from_residual.ensures.1 (back_in_step c.args.halted.number _ _ c.in_err-again.field-0.0 c.in_err-again.ensures.cut)

pub returns-in_err-executed-clause-cut : goal.returns-in_err-executed-clause-cut
returns-in_err-executed-clause-cut g c =
    if_err _ c.from_residual-in_err-executed.result _ c.from_residual-in_err-executed.ensures.1
    (back_in_end c.args.halted.number _ _ _ _ _ _ c.in_err-executed.field-0.0 c.in_ok-again.ensures.stepped_at c.in_ok-again.ensures.serving.ready
    c.in_ok-again.ensures.serving.halted (rw (c.in_ok-again.ensures.hart) at c.in_err-executed.ensures.failed))

pub returns-in_err-again-clause-rises : goal.returns-in_err-again-clause-rises
returns-in_err-again-clause-rises g c =
    within_more 49 217 _ _ c.step.ensures.rises (omega arith)

pub returns-in_err-executed-clause-rises : goal.returns-in_err-executed-clause-rises
returns-in_err-executed-clause-rises g c =
    within_then 49 168 217 _ (g.D.Dmi.seen c.step.new.link) _ c.step.ensures.rises c.put_back.ensures.rises
    c.step.ensures.keeps.fixed (omega arith)

pub returns-clause-rises : goal.returns-clause-rises
returns-clause-rises g c =
    within_then 49 168 217 _ (g.D.Dmi.seen c.step.new.link) _ c.step.ensures.rises c.put_back.ensures.rises
    c.step.ensures.keeps.fixed (omega arith)

pub returns-in_err-executed-clause-never : goal.returns-in_err-executed-clause-never
returns-in_err-executed-clause-never g c =
    if_err (NeverLost (g.D.Dmi.seen c.args.link.now)) c.from_residual-in_err-executed.result _ c.from_residual-in_err-executed.ensures.1
    (lost_then _ (g.D.Dmi.seen c.args.link.now) (g.D.Dmi.seen c.step.new.link) c.in_err-executed.field-0.0 c.step.ensures.rises
    c.in_err-executed.ensures.never)
