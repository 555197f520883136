use Rattle.debug_model.proofs.RiseLemmas.{within_more, within_then}
use Rattle.probe_trig.proofs.StepCutLemmas.{go_in_back, go_in_hold, go_in_resume}
use Rattle.std.proofs.Common.{true, false, refl, arith, ◌∙◌}
use Rattle.probe_access.proofs.Polls.{not_false, not_true}
use Rattle.probe_trig.specs.Going.GoFailed.{in_back, in_resume}
use Rattle.probe_trig.specs.Going.IsThrough.{none, over}
use Rattle.probe_trig.proofs.OverFaults.{back_counted, over_go, resume_counted, resume_go, scratch_over, step_over_left}
use Rattle.probe_trig.proofs.Overs.{back_is, free_at, held_at, over_as, stepped_is, stopped_at, through_none, through_over}
use Rattle.probe_run.proofs.ActLemmas.{if_err}
use Rattle.probe_trig.proofs.Untold.{failed_left}
use Rattle.probe_access.proofs.NeverLemmas.{lost_then, run_lost}
use Rattle.probe_trig.specs.Never.{SlotNeverLost}
use Rattle.probe_access.specs.StepRuns.{of_run}
use Rattle.probe_trig.proofs.stepping.let_go.Goals as goal

pub returns-in_err-some-clause-left : goal.returns-in_err-some-clause-left
returns-in_err-some-clause-left g c =
    if_err _ c.from_residual.result _ c.from_residual.ensures.1
    (over_go c.args.halted.number _ _ c.in_err-some.field-0.0
    (scratch_over c.args.halted.number _ _ c.in_err-some.field-0.0 (failed_left _ _ _ _ _ _ _ c.in_err-some.field-0.0 c.in_err-some.ensures.failed)))

pub returns-in_err-running-clause-left : goal.returns-in_err-running-clause-left
returns-in_err-running-clause-left g c =
    if_err _ c.from_residual-in_err-running.result _ c.from_residual-in_err-running.ensures.1
    (resume_go c.args.halted.number _ _ _ _ _ _ c.in_err-running.field-0.0
    (through_none c.args.halted.number _ _ (held_at false c.args.halted.number _ _ _ c.requires.serving.ready c.requires.serving.halted
    (rw (c.if-not-some.true) at c.in_ok-some.ensures.did))) c.in_err-running.ensures.left c.in_err-running.ensures.fails)

pub returns-in_err-running-clause-failed : goal.returns-in_err-running-clause-failed
returns-in_err-running-clause-failed g c =
    if_err _ c.from_residual-in_err-running.result _ c.from_residual-in_err-running.ensures.1
    (in_resume _ (none (rw (c.if-not-some.true) at c.in_ok-some.ensures.did)) c.in_err-running.field-0.0
    (resume_counted c.args.halted.number _ _ _ _ _ c.in_err-running.field-0.0 c.change_hits.ensures.keeps.later c.resume.ensures.keeps.later
    c.in_err-running.ensures.fails) c.in_err-running.ensures.left refl)

pub returns-then-not-some-clause-goes_at : goal.returns-then-not-some-clause-goes_at
returns-then-not-some-clause-goes_at g c = free_at c.args.halted.number _ _ _
    (through_none c.args.halted.number _ _ (held_at false c.args.halted.number _ _ _ c.requires.serving.ready c.requires.serving.halted
    (rw (c.if-not-some.true) at c.in_ok-some.ensures.did))) c.in_ok-running.ensures.happened

pub returns-in_err-stepped-clause-left : goal.returns-in_err-stepped-clause-left
returns-in_err-stepped-clause-left g c =
    if_err _ c.from_residual-in_err-stepped.result _ c.from_residual-in_err-stepped.ensures.1
    (over_go c.args.halted.number _ _ c.in_err-stepped.field-0.0
    (step_over_left true c.args.halted.number _ _ _ c.in_err-stepped.field-0.0
    (held_at true c.args.halted.number _ _ _ c.requires.serving.ready c.requires.serving.halted (rw (c.if-not-some.false) at c.in_ok-some.ensures.did))
    c.in_err-stepped.ensures.left))

pub returns-in_err-stepped-clause-failed : goal.returns-in_err-stepped-clause-failed
returns-in_err-stepped-clause-failed g c =
    if_err _ c.from_residual-in_err-stepped.result _ c.from_residual-in_err-stepped.ensures.1
    (in_back _ (rw (c.if-not-some.false) at c.in_ok-some.ensures.did)
    (back_counted c.args.halted.number _ _ _ _ _ c.in_err-stepped.field-0.0 c.change_hits.ensures.keeps.later c.step_back.ensures.keeps.later
    c.in_err-stepped.ensures.failed))

pub returns-then-not-stepped-clause-goes_at : goal.returns-then-not-stepped-clause-goes_at
returns-then-not-stepped-clause-goes_at g c = stopped_at c.args.halted.number _ _
    (over_as true false c.args.halted.number _ _ _ (held_at true c.args.halted.number _ _ _ c.requires.serving.ready c.requires.serving.halted
    (rw (c.if-not-some.false) at c.in_ok-some.ensures.did))
    (back_is c.in_ok-stepped.stepped.executed false c.args.halted.number _ _
    (not_true c.in_ok-stepped.stepped.executed c.if-not-stepped.true) c.in_ok-stepped.ensures.back_at))

pub returns-in_err-running-2-clause-left : goal.returns-in_err-running-2-clause-left
returns-in_err-running-2-clause-left g c =
    if_err _ c.from_residual-in_err-running-2.result _ c.from_residual-in_err-running-2.ensures.1
    (resume_go c.args.halted.number _ _ _ _ _ _ c.in_err-running-2.field-0.0
    (through_over c.args.halted.number _ _ (over_as true true c.args.halted.number _ _ _
    (held_at true c.args.halted.number _ _ _ c.requires.serving.ready c.requires.serving.halted (rw (c.if-not-some.false) at c.in_ok-some.ensures.did))
    (back_is c.in_ok-stepped.stepped.executed true c.args.halted.number _ _
    (not_false c.in_ok-stepped.stepped.executed c.if-not-stepped.false) c.in_ok-stepped.ensures.back_at)))
    (rw (c.in_ok-stepped.ensures.hart) at c.in_err-running-2.ensures.left) (rw (c.in_ok-stepped.ensures.hart) at c.in_err-running-2.ensures.fails))

pub returns-in_err-running-2-clause-failed : goal.returns-in_err-running-2-clause-failed
returns-in_err-running-2-clause-failed g c =
    if_err _ c.from_residual-in_err-running-2.result _ c.from_residual-in_err-running-2.ensures.1
    (in_resume _ (over (record {
      held = _;
      holds = (rw (c.if-not-some.false) at c.in_ok-some.ensures.did);
      back = stepped_is c.in_ok-stepped.stepped.executed true c.args.halted.number _ _
          (not_false c.in_ok-stepped.stepped.executed c.if-not-stepped.false) c.in_ok-stepped.ensures.stepped;
    })) c.in_err-running-2.field-0.0
    (resume_counted c.args.halted.number _ _ _ _ _ c.in_err-running-2.field-0.0
    (omega (arith, c.change_hits.ensures.keeps.later, c.step_back.ensures.keeps.later)) c.resume-2.ensures.keeps.later
    (rw (c.in_ok-stepped.ensures.hart) at c.in_err-running-2.ensures.fails)) (rw (c.in_ok-stepped.ensures.hart) at c.in_err-running-2.ensures.left) refl)

pub returns-clause-goes_at : goal.returns-clause-goes_at
returns-clause-goes_at g c = free_at c.args.halted.number _ _ _
    (through_over c.args.halted.number _ _ (over_as true true c.args.halted.number _ _ _
    (held_at true c.args.halted.number _ _ _ c.requires.serving.ready c.requires.serving.halted (rw (c.if-not-some.false) at c.in_ok-some.ensures.did))
    (back_is c.in_ok-stepped.stepped.executed true c.args.halted.number _ _
    (not_false c.in_ok-stepped.stepped.executed c.if-not-stepped.false) c.in_ok-stepped.ensures.back_at)))
    (rw (c.in_ok-stepped.ensures.hart) at c.in_ok-running-2.ensures.happened)

pub returns-clause-went : goal.returns-clause-went
returns-clause-went g c = record {
  mid = _;
  through =
      (over (record {
        held = _;
        holds = (rw (c.if-not-some.false) at c.in_ok-some.ensures.did);
        back = stepped_is c.in_ok-stepped.stepped.executed true c.args.halted.number _ _
            (not_false c.in_ok-stepped.stepped.executed c.if-not-stepped.false) c.in_ok-stepped.ensures.stepped;
      }));
  resumed = (rw (c.in_ok-stepped.ensures.hart) at c.in_ok-running-2.ensures.did);
}

pub returns-in_err-some-clause-cut : goal.returns-in_err-some-clause-cut
returns-in_err-some-clause-cut g c =
    if_err _ c.from_residual.result _ c.from_residual.ensures.1
    (go_in_hold c.args.halted.number _ _ _ _ _ c.in_err-some.field-0.0 c.requires.serving.ready c.requires.serving.halted c.in_err-some.ensures.failed)

pub returns-in_err-running-clause-cut : goal.returns-in_err-running-clause-cut
returns-in_err-running-clause-cut g c =
    if_err _ c.from_residual-in_err-running.result _ c.from_residual-in_err-running.ensures.1
    (go_in_resume c.args.halted.number _ _ _ c.in_err-running.field-0.0
    (through_none c.args.halted.number _ _ (held_at false c.args.halted.number _ _ _ c.requires.serving.ready c.requires.serving.halted
    (rw (c.if-not-some.true) at c.in_ok-some.ensures.did))) c.in_err-running.ensures.left)

pub returns-in_err-stepped-clause-cut : goal.returns-in_err-stepped-clause-cut
returns-in_err-stepped-clause-cut g c =
    if_err _ c.from_residual-in_err-stepped.result _ c.from_residual-in_err-stepped.ensures.1
    (go_in_back c.args.halted.number _ _ _ c.in_err-stepped.field-0.0
    (held_at true c.args.halted.number _ _ _ c.requires.serving.ready c.requires.serving.halted (rw (c.if-not-some.false) at c.in_ok-some.ensures.did))
    c.in_err-stepped.ensures.cut)

pub returns-in_err-running-2-clause-cut : goal.returns-in_err-running-2-clause-cut
returns-in_err-running-2-clause-cut g c =
    if_err _ c.from_residual-in_err-running-2.result _ c.from_residual-in_err-running-2.ensures.1
    (go_in_resume c.args.halted.number _ _ _ c.in_err-running-2.field-0.0
    (through_over c.args.halted.number _ _ (over_as true true c.args.halted.number _ _ _
    (held_at true c.args.halted.number _ _ _ c.requires.serving.ready c.requires.serving.halted (rw (c.if-not-some.false) at c.in_ok-some.ensures.did))
    (back_is c.in_ok-stepped.stepped.executed true c.args.halted.number _ _
    (not_false c.in_ok-stepped.stepped.executed c.if-not-stepped.false) c.in_ok-stepped.ensures.back_at)))
    (rw (c.in_ok-stepped.ensures.hart) at c.in_err-running-2.ensures.left))

pub returns-in_err-some-clause-rises : goal.returns-in_err-some-clause-rises
returns-in_err-some-clause-rises g c =
    within_more 152 371 _ _ c.change_hits.ensures.rises (omega arith)

pub returns-in_err-running-clause-rises : goal.returns-in_err-running-clause-rises
returns-in_err-running-clause-rises g c =
    within_then 152 2 371 _ (g.D.Dmi.seen c.change_hits.new.link) _ c.change_hits.ensures.rises c.resume.ensures.rises
    c.change_hits.ensures.keeps.fixed (omega arith)

pub returns-then-not-some-clause-rises : goal.returns-then-not-some-clause-rises
returns-then-not-some-clause-rises g c =
    within_then 152 2 371 _ (g.D.Dmi.seen c.change_hits.new.link) _ c.change_hits.ensures.rises c.resume.ensures.rises
    c.change_hits.ensures.keeps.fixed (omega arith)

pub returns-in_err-stepped-clause-rises : goal.returns-in_err-stepped-clause-rises
returns-in_err-stepped-clause-rises g c =
    within_then 152 217 371 _ (g.D.Dmi.seen c.change_hits.new.link) _ c.change_hits.ensures.rises c.step_back.ensures.rises
    c.change_hits.ensures.keeps.fixed (omega arith)

pub returns-then-not-stepped-clause-rises : goal.returns-then-not-stepped-clause-rises
returns-then-not-stepped-clause-rises g c =
    within_then 152 217 371 _ (g.D.Dmi.seen c.change_hits.new.link) _ c.change_hits.ensures.rises c.step_back.ensures.rises
    c.change_hits.ensures.keeps.fixed (omega arith)

pub returns-in_err-running-2-clause-rises : goal.returns-in_err-running-2-clause-rises
returns-in_err-running-2-clause-rises g c =
    within_then 369 2 371 _ (g.D.Dmi.seen c.step_back.new.link) _ (within_then 152 217 369 _ (g.D.Dmi.seen c.change_hits.new.link) _ c.change_hits.ensures.rises c.step_back.ensures.rises
    c.change_hits.ensures.keeps.fixed (omega arith)) c.resume-2.ensures.rises
    (c.step_back.ensures.keeps.fixed ∙ c.change_hits.ensures.keeps.fixed) (omega arith)

pub returns-clause-rises : goal.returns-clause-rises
returns-clause-rises g c =
    within_then 369 2 371 _ (g.D.Dmi.seen c.step_back.new.link) _ (within_then 152 217 369 _ (g.D.Dmi.seen c.change_hits.new.link) _ c.change_hits.ensures.rises c.step_back.ensures.rises
    c.change_hits.ensures.keeps.fixed (omega arith)) c.resume-2.ensures.rises
    (c.step_back.ensures.keeps.fixed ∙ c.change_hits.ensures.keeps.fixed) (omega arith)

pub returns-in_err-running-clause-never : goal.returns-in_err-running-clause-never
returns-in_err-running-clause-never g c =
    if_err (SlotNeverLost (g.D.Dmi.seen c.args.link.now)) c.from_residual-in_err-running.result _ c.from_residual-in_err-running.ensures.1
    (lost_then _ (g.D.Dmi.seen c.args.link.now) (g.D.Dmi.seen c.change_hits.new.link) (of_run c.in_err-running.field-0.0) c.change_hits.ensures.rises
    (run_lost (g.D.Dmi.seen c.change_hits.new.link) c.in_err-running.field-0.0 c.in_err-running.ensures.never))

pub returns-in_err-stepped-clause-never : goal.returns-in_err-stepped-clause-never
returns-in_err-stepped-clause-never g c =
    if_err (SlotNeverLost (g.D.Dmi.seen c.args.link.now)) c.from_residual-in_err-stepped.result _ c.from_residual-in_err-stepped.ensures.1
    (lost_then _ (g.D.Dmi.seen c.args.link.now) (g.D.Dmi.seen c.change_hits.new.link) c.in_err-stepped.field-0.0 c.change_hits.ensures.rises
    c.in_err-stepped.ensures.never)

pub returns-in_err-running-2-clause-never : goal.returns-in_err-running-2-clause-never
returns-in_err-running-2-clause-never g c =
    if_err (SlotNeverLost (g.D.Dmi.seen c.args.link.now)) c.from_residual-in_err-running-2.result _ c.from_residual-in_err-running-2.ensures.1
    (lost_then _ (g.D.Dmi.seen c.args.link.now) (g.D.Dmi.seen c.change_hits.new.link) (of_run c.in_err-running-2.field-0.0) c.change_hits.ensures.rises
    (lost_then _ (g.D.Dmi.seen c.change_hits.new.link) (g.D.Dmi.seen c.step_back.new.link) (of_run c.in_err-running-2.field-0.0) c.step_back.ensures.rises
    (run_lost (g.D.Dmi.seen c.step_back.new.link) c.in_err-running-2.field-0.0 c.in_err-running-2.ensures.never)))
