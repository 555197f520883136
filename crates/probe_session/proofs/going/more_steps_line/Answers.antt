use Rattle.debug_model.proofs.RiseLemmas.{within_none, within_then}
use Rattle.std.proofs.Common.{◌∙◌, ◌+◌, ◌*◌, refl, sym, subst, arith}
use Rattle.probe_access.proofs.StepReads.{still_reads}
use Rattle.probe_session.specs.Commands.{at_stop_line, ends_with}
use Rattle.probe_session.specs.Links.{AttachedHalted}
use Rattle.probe_session.specs.Said.{said_by}
use Rattle.probe_session.proofs.GoingLines.{err_at, found_falls, got_at, made_at, next_falls, next_step, ok_at, read_fell_at, step_fell_at}
use Rattle.probe_session.proofs.GoingLines.{stepped_all, stepped_next, stepped_otherwise, stepping_none}
use Rattle.probe_session.proofs.LinkLemmas.{goes_at, if_err}
use Rattle.probe_session.proofs.OneLine.{err_then, ok_then}
use Rattle.probe_session.proofs.Whole.{whole_at}
use Rattle.probe_session.proofs.NeverLemmas.{behind_then, gives_up_then}
use Rattle.probe_session.proofs.going.more_steps_line.Goals as goal

pub stepping-init : goal.stepping-init
stepping-init g c = record {
  same = refl;
  serving = c.requires.serving;
  steps = stepping_none c.args.halted.number c.args.more _;
  later = omega arith;
  rises = within_none 0 _ _ refl;
  fixed = refl;
}

pub returns-in_err-word-clause-falls : goal.returns-in_err-word-clause-falls
returns-in_err-word-clause-falls g c = if_err _ c.in_err-word.field-0.0 _ c.from_residual.ensures.1
    (found_falls c.args.halted.number c.args.more c.stepping._step c.stepping.invariant.steps c.stepping.invariant.later
    (read_fell_at c.stepping.invariant.same c.in_err-word.ensures.fell))

pub returns-then-not-shows_step-clause-went : goal.returns-then-not-shows_step-clause-went
returns-then-not-shows_step-clause-went g c = ok_then (λ line. ends_with (said_by line)) _ _
    (stepped_otherwise c.args.halted.number c.args.more c.stepping._step _ c.stepping.invariant.steps (sym c.shows_step.ensures ∙ c.if-not-shows_step.true)
    (got_at c.stepping.invariant.same c.in_ok-word.ensures.got))
    (ok_at at_stop_line (λ line. ends_with (said_by line)) _ _ _ c.stepping.invariant.same c.stop_line.ensures.went)

pub returns-then-not-shows_step-clause-falls : goal.returns-then-not-shows_step-clause-falls
returns-then-not-shows_step-clause-falls g c = err_then _ _ _
    (stepped_otherwise c.args.halted.number c.args.more c.stepping._step _ c.stepping.invariant.steps (sym c.shows_step.ensures ∙ c.if-not-shows_step.true)
    (got_at c.stepping.invariant.same c.in_ok-word.ensures.got))
    (omega (arith, c.stepping.invariant.later, c.reg.ensures.keeps.later))
    (err_at at_stop_line _ _ _ _ _ c.stepping.invariant.same c.stop_line.ensures.falls)

pub returns-in_err-now-clause-falls : goal.returns-in_err-now-clause-falls
returns-in_err-now-clause-falls g c =
    if_err _ c.in_err-now.field-0.0 _ c.from_residual-in_err-now.ensures.1
    (next_falls c.args.halted.number c.args.more c.stepping._step _
    (next_step c.args.halted.number c.args.more c.stepping._step _ c.stepping-test.true c.stepping.invariant.steps
    (sym c.shows_step.ensures ∙ c.if-not-shows_step.false) (got_at c.stepping.invariant.same c.in_ok-word.ensures.got))
    (omega (arith, c.stepping.invariant.later, c.reg.ensures.keeps.later)) (step_fell_at c.stepping.invariant.same c.in_err-now.ensures.fell))

pub stepping-preserved : goal.stepping-preserved
stepping-preserved g c = record {
  same = c.in_ok-now.ensures.hart ∙ c.stepping.invariant.same;
  serving = subst (λ n. AttachedHalted n (g.D.Dmi.seen c.step_from.new.link)) (sym c.in_ok-now.ensures.hart) c.in_ok-now.ensures.keeps.behind;
  steps = stepped_next c.args.halted.number c.args.more c.stepping._step _
      (next_step c.args.halted.number c.args.more c.stepping._step _ c.stepping-test.true c.stepping.invariant.steps
      (sym c.shows_step.ensures ∙ c.if-not-shows_step.false) (got_at c.stepping.invariant.same c.in_ok-word.ensures.got))
      (made_at c.stepping.invariant.same c.in_ok-now.ensures.made);
  later = omega (arith, c.stepping.invariant.later, c.reg.ensures.keeps.later, c.step_from.ensures.keeps.later);
  rises = within_then (50 * c.stepping._step + 16) 34 (50 * (c.stepping._step + 1)) _ (g.D.Dmi.seen c.reg.new.link) _
      (within_then (50 * c.stepping._step) 16 (50 * c.stepping._step + 16) _ (g.D.Dmi.seen c.stepping.link) _ c.stepping.invariant.rises c.reg.ensures.rises
      c.stepping.invariant.fixed (omega arith)) c.step_from.ensures.rises (c.reg.ensures.keeps.fixed ∙ c.stepping.invariant.fixed) (omega arith);
  fixed = c.step_from.ensures.keeps.fixed ∙ c.reg.ensures.keeps.fixed ∙ c.stepping.invariant.fixed;
}

pub returns-clause-went : goal.returns-clause-went
returns-clause-went g c = ok_then (λ line. ends_with (said_by line)) _ _
    (stepped_all c.args.halted.number c.args.more c.stepping._step (omega arith) c.stepping.invariant.steps)
    (ok_at at_stop_line (λ line. ends_with (said_by line)) _ _ _ c.stepping.invariant.same c.stop_line-2.ensures.went)

pub returns-clause-falls : goal.returns-clause-falls
returns-clause-falls g c = err_then _ _ _ (stepped_all c.args.halted.number c.args.more c.stepping._step (omega arith) c.stepping.invariant.steps)
    c.stepping.invariant.later (err_at at_stop_line _ _ _ _ _ c.stepping.invariant.same c.stop_line-2.ensures.falls)

pub returns-then-not-shows_step-clause-keeps : goal.returns-then-not-shows_step-clause-keeps
returns-then-not-shows_step-clause-keeps g c =
    goes_at c.stepping.invariant.same (omega (arith, c.stepping.invariant.later, c.reg.ensures.keeps.later))
    (c.reg.ensures.keeps.fixed ∙ c.stepping.invariant.fixed) c.stop_line.ensures.keeps

pub returns-clause-keeps : goal.returns-clause-keeps
returns-clause-keeps g c = goes_at c.stepping.invariant.same c.stepping.invariant.later c.stepping.invariant.fixed c.stop_line-2.ensures.keeps

pub returns-then-not-shows_step-clause-whole : goal.returns-then-not-shows_step-clause-whole
returns-then-not-shows_step-clause-whole g c = whole_at _ _ c.stepping.invariant.same c.stop_line.ensures.whole

pub returns-clause-whole : goal.returns-clause-whole
returns-clause-whole g c = whole_at _ _ c.stepping.invariant.same c.stop_line-2.ensures.whole

pub step_from-requires-clause-reads : goal.step_from-requires-clause-reads
step_from-requires-clause-reads g c =
    still_reads _ _ _ _ c.stepping.invariant.serving.serving.ready c.stepping.invariant.serving.serving.halted c.in_ok-word.ensures.got.told

pub returns-in_err-word-clause-rises : goal.returns-in_err-word-clause-rises
returns-in_err-word-clause-rises g c =
    within_then (50 * c.stepping._step) 16 (50 * c.args.more + 210) _ (g.D.Dmi.seen c.stepping.link) _ c.stepping.invariant.rises c.reg.ensures.rises
    c.stepping.invariant.fixed (omega (arith, c.stepping-test.true))

pub returns-then-not-shows_step-clause-rises : goal.returns-then-not-shows_step-clause-rises
returns-then-not-shows_step-clause-rises g c =
    within_then (50 * c.stepping._step + 16) 210 (50 * c.args.more + 210) _ (g.D.Dmi.seen c.reg.new.link) _
    (within_then (50 * c.stepping._step) 16 (50 * c.stepping._step + 16) _ (g.D.Dmi.seen c.stepping.link) _ c.stepping.invariant.rises c.reg.ensures.rises
    c.stepping.invariant.fixed (omega arith)) c.stop_line.ensures.rises
    (c.reg.ensures.keeps.fixed ∙ c.stepping.invariant.fixed) (omega (arith, c.stepping-test.true))

pub returns-in_err-now-clause-rises : goal.returns-in_err-now-clause-rises
returns-in_err-now-clause-rises g c =
    within_then (50 * c.stepping._step + 16) 34 (50 * c.args.more + 210) _ (g.D.Dmi.seen c.reg.new.link) _
    (within_then (50 * c.stepping._step) 16 (50 * c.stepping._step + 16) _ (g.D.Dmi.seen c.stepping.link) _ c.stepping.invariant.rises c.reg.ensures.rises
    c.stepping.invariant.fixed (omega arith)) c.step_from.ensures.rises
    (c.reg.ensures.keeps.fixed ∙ c.stepping.invariant.fixed) (omega (arith, c.stepping-test.true))

pub returns-clause-rises : goal.returns-clause-rises
returns-clause-rises g c =
    within_then (50 * c.stepping._step) 210 (50 * c.args.more + 210) _ (g.D.Dmi.seen c.stepping.link) _ c.stepping.invariant.rises
    c.stop_line-2.ensures.rises
    c.stepping.invariant.fixed (omega arith)

pub returns-in_err-word-clause-never : goal.returns-in_err-word-clause-never
returns-in_err-word-clause-never g c =
    if_err _ c.in_err-word.field-0.0 _ c.from_residual.ensures.1
    (gives_up_then (50 * c.stepping._step) _ (g.D.Dmi.seen c.stepping.link) c.in_err-word.field-0.0 c.stepping.invariant.rises c.in_err-word.ensures.never)

pub returns-then-not-shows_step-clause-never : goal.returns-then-not-shows_step-clause-never
returns-then-not-shows_step-clause-never g c =
    behind_then (50 * c.stepping._step) _ (g.D.Dmi.seen c.stepping.link) _ c.stepping.invariant.rises
    (behind_then 16 _ (g.D.Dmi.seen c.reg.new.link) _ c.reg.ensures.rises c.stop_line.ensures.never)

pub returns-in_err-now-clause-never : goal.returns-in_err-now-clause-never
returns-in_err-now-clause-never g c =
    if_err _ c.in_err-now.field-0.0 _ c.from_residual-in_err-now.ensures.1
    (gives_up_then (50 * c.stepping._step) _ (g.D.Dmi.seen c.stepping.link) c.in_err-now.field-0.0 c.stepping.invariant.rises
    (gives_up_then 16 _ (g.D.Dmi.seen c.reg.new.link) c.in_err-now.field-0.0 c.reg.ensures.rises c.in_err-now.ensures.never))
