use Rattle.std.proofs.Common.{arith}
use Rattle.debug_model.proofs.RiseLemmas.{within_more, within_then}
use Rattle.probe_trig.proofs.StepCutLemmas.{over_in_back, over_in_hold}
use Rattle.probe_trig.specs.Stepping.OverFailed.{in_back, in_hold}
use Rattle.probe_trig.proofs.OverFaults.{back_counted, scratch_over, step_over_left}
use Rattle.probe_trig.proofs.Overs.{at_as, held_at, over_as}
use Rattle.probe_run.proofs.ActLemmas.{if_err}
use Rattle.probe_trig.proofs.Untold.{failed_left}
use Rattle.probe_access.proofs.NeverLemmas.{lost_then}
use Rattle.probe_trig.specs.Never.{SlotNeverLost}
use Rattle.probe_trig.proofs.stepping.step_over.Goals as goal

pub returns-in_err-_some-clause-left : goal.returns-in_err-_some-clause-left
returns-in_err-_some-clause-left g c =
    if_err _ c.from_residual.result _ c.from_residual.ensures.1
    (scratch_over c.args.halted.number _ _ c.in_err-_some.field-0.0 (failed_left _ _ _ _ _ _ _ c.in_err-_some.field-0.0 c.in_err-_some.ensures.failed))

pub returns-in_err-_some-clause-failed : goal.returns-in_err-_some-clause-failed
returns-in_err-_some-clause-failed g c = if_err _ c.from_residual.result _ c.from_residual.ensures.1 (in_hold c.in_err-_some.ensures.failed)

pub returns-in_err-stepped-clause-left : goal.returns-in_err-stepped-clause-left
returns-in_err-stepped-clause-left g c =
    if_err _ c.from_residual-in_err-stepped.result _ c.from_residual-in_err-stepped.ensures.1
    (step_over_left c.in_ok-_some._some c.args.halted.number _ _ _ c.in_err-stepped.field-0.0
    (held_at c.in_ok-_some._some c.args.halted.number _ _ _ c.requires.serving.ready c.requires.serving.halted c.in_ok-_some.ensures.did)
    c.in_err-stepped.ensures.left)

pub returns-in_err-stepped-clause-failed : goal.returns-in_err-stepped-clause-failed
returns-in_err-stepped-clause-failed g c =
    if_err _ c.from_residual-in_err-stepped.result _ c.from_residual-in_err-stepped.ensures.1
    (in_back c.in_ok-_some._some _ c.in_ok-_some.ensures.did
    (back_counted c.args.halted.number _ _ _ _ _ c.in_err-stepped.field-0.0 c.change_hits.ensures.keeps.later c.step_back.ensures.keeps.later
    c.in_err-stepped.ensures.failed))

pub returns-clause-over_at : goal.returns-clause-over_at
returns-clause-over_at g c =
    at_as _ _ _ _ (λ a b o. o.over)
    (over_as c.in_ok-_some._some c.in_ok-stepped.stepped.executed c.args.halted.number _ _ _
    (held_at c.in_ok-_some._some c.args.halted.number _ _ _ c.requires.serving.ready c.requires.serving.halted c.in_ok-_some.ensures.did)
    c.in_ok-stepped.ensures.back_at)

pub returns-clause-did : goal.returns-clause-did
returns-clause-did g c = (
  c.in_ok-_some._some,
  c.in_ok-stepped.stepped.executed,
  record { held = _; holds = c.in_ok-_some.ensures.did; back = c.in_ok-stepped.ensures.stepped },
)

pub returns-in_err-_some-clause-cut : goal.returns-in_err-_some-clause-cut
returns-in_err-_some-clause-cut g c =
    if_err _ c.from_residual.result _ c.from_residual.ensures.1
    (over_in_hold c.args.halted.number _ _ _ _ _ c.in_err-_some.field-0.0 c.requires.serving.ready c.requires.serving.halted c.in_err-_some.ensures.failed)

pub returns-in_err-stepped-clause-cut : goal.returns-in_err-stepped-clause-cut
returns-in_err-stepped-clause-cut g c =
    if_err _ c.from_residual-in_err-stepped.result _ c.from_residual-in_err-stepped.ensures.1
    (over_in_back c.in_ok-_some._some c.args.halted.number _ _ _ c.in_err-stepped.field-0.0
    (held_at c.in_ok-_some._some c.args.halted.number _ _ _ c.requires.serving.ready c.requires.serving.halted c.in_ok-_some.ensures.did)
    c.in_err-stepped.ensures.cut)

pub returns-in_err-_some-clause-rises : goal.returns-in_err-_some-clause-rises
returns-in_err-_some-clause-rises g c =
    within_more 152 369 _ _ c.change_hits.ensures.rises (omega arith)

pub returns-in_err-stepped-clause-rises : goal.returns-in_err-stepped-clause-rises
returns-in_err-stepped-clause-rises g c =
    within_then 152 217 369 _ (g.D.Dmi.seen c.change_hits.new.link) _ c.change_hits.ensures.rises c.step_back.ensures.rises
    c.change_hits.ensures.keeps.fixed (omega arith)

pub returns-clause-rises : goal.returns-clause-rises
returns-clause-rises g c =
    within_then 152 217 369 _ (g.D.Dmi.seen c.change_hits.new.link) _ c.change_hits.ensures.rises c.step_back.ensures.rises
    c.change_hits.ensures.keeps.fixed (omega arith)

pub returns-in_err-stepped-clause-never : goal.returns-in_err-stepped-clause-never
returns-in_err-stepped-clause-never g c =
    if_err (SlotNeverLost (g.D.Dmi.seen c.args.link.now)) c.from_residual-in_err-stepped.result _ c.from_residual-in_err-stepped.ensures.1
    (lost_then _ (g.D.Dmi.seen c.args.link.now) (g.D.Dmi.seen c.change_hits.new.link) c.in_err-stepped.field-0.0 c.change_hits.ensures.rises
    c.in_err-stepped.ensures.never)
