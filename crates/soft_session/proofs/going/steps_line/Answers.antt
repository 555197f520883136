use Rattle.std.proofs.Common.{◌∙◌, refl, sym, subst, arith}
use Rattle.printed_lines.specs.declared.line.Line.{Line}
use Rattle.probe_run.specs.Told.{told}
use Rattle.probe_session.specs.Commands.{at_stop_line, ends_with}
use Rattle.probe_session.specs.Links.{AttachedHalted}
use Rattle.probe_session.specs.Said.{said_by}
use Rattle.probe_session.proofs.GoingLines.{ok_at}
use Rattle.probe_session.proofs.LinkLemmas.{goes_at}
use Rattle.probe_session.proofs.OneLine.{if_ok_map}
use Rattle.soft_session.specs.Stepping.{OneLed}
use Rattle.soft_session.proofs.GoingSteps.{all_made, made_one_more, none_made, other_by, stopped_led, whole_by}
use Rattle.probe_session.proofs.LinkLemmas.{if_err}
use Rattle.probe_session.proofs.OneLine.{if_err_map}
use Rattle.probe_session.proofs.GoingLines.{err_at}
use Rattle.soft_session.specs.Cuts.{CutsOf, at_one_of}
use Rattle.soft_session.proofs.CutFlow.{all_made_cut, next_step_cut, stopped_cut}
use Rattle.soft_session.proofs.CausedCalls.{any_plan, last_fell, since_err}
use Rattle.soft_session.proofs.going.steps_line.Goals as goal

pub stepping-init : goal.stepping-init
stepping-init g c = record {
  same = refl;
  serving = c.requires.serving;
  steps = none_made c.args.count c.args.halted.number c.args.table.now (told (g.D.Dmi.seen c.args.link.now));
  later = omega arith;
  fixed = refl;
}

pub stepping-preserved : goal.stepping-preserved
stepping-preserved g c = record {
  same = c.in_ok-stepped.ensures.hart ∙ c.stepping.invariant.same;
  serving = subst (λ n. AttachedHalted n (g.D.Dmi.seen c.one_step.new.link)) (sym c.in_ok-stepped.ensures.hart) c.in_ok-stepped.ensures.keeps.behind;
  steps = made_one_more c.args.count c.stepping._step c.args.halted.number c.args.table.now (told (g.D.Dmi.seen c.args.link.now))
      (told (g.D.Dmi.seen c.stepping.link)) (told (g.D.Dmi.seen c.one_step.new.link)) c.stepping-test.true c.stepping.invariant.steps
      (subst (λ b. OneLed c.args.halted.number c.args.table.now (told (g.D.Dmi.seen c.stepping.link)) (told (g.D.Dmi.seen c.one_step.new.link)) b)
      (whole_by c.in_ok-stepped.stepped.is_whole c.if-not-stepped.false)
      (subst (λ n. OneLed n c.args.table.now (told (g.D.Dmi.seen c.stepping.link)) (told (g.D.Dmi.seen c.one_step.new.link)) c.in_ok-stepped.stepped.is_whole)
      c.stepping.invariant.same c.in_ok-stepped.ensures.led));
  later = omega (arith, c.stepping.invariant.later, c.one_step.ensures.keeps.later);
  fixed = c.one_step.ensures.keeps.fixed ∙ c.stepping.invariant.fixed;
}

pub returns-then-not-stepped-clause-led : goal.returns-then-not-stepped-clause-led
returns-then-not-stepped-clause-led g c =
    if_ok_map _ _ _ (λ (line : Line) went. stopped_led c.args.count c.stepping._step c.args.halted.number c.args.table.now line
    (told (g.D.Dmi.seen c.args.link.now)) (told (g.D.Dmi.seen c.stepping.link)) (told (g.D.Dmi.seen c.one_step.new.link))
    (told (g.D.Dmi.seen c.stop_line.new.link)) c.stepping-test.true c.stepping.invariant.steps
    (subst (λ b. OneLed c.args.halted.number c.args.table.now (told (g.D.Dmi.seen c.stepping.link)) (told (g.D.Dmi.seen c.one_step.new.link)) b)
    (other_by c.in_ok-stepped.stepped.is_whole c.if-not-stepped.true)
    (subst (λ n. OneLed n c.args.table.now (told (g.D.Dmi.seen c.stepping.link)) (told (g.D.Dmi.seen c.one_step.new.link)) c.in_ok-stepped.stepped.is_whole)
    c.stepping.invariant.same c.in_ok-stepped.ensures.led)) went)
    (ok_at at_stop_line (λ line. ends_with (said_by line)) _ _ _ (c.in_ok-stepped.ensures.hart ∙ c.stepping.invariant.same) c.stop_line.ensures.went)

pub returns-clause-led : goal.returns-clause-led
returns-clause-led g c =
    if_ok_map _ _ _ (λ (line : Line) went. all_made c.args.count c.stepping._step c.args.halted.number c.args.table.now line
    (told (g.D.Dmi.seen c.args.link.now)) (told (g.D.Dmi.seen c.stepping.link)) (told (g.D.Dmi.seen c.stop_line-2.new.link)) (omega arith)
    c.stepping.invariant.steps went)
    (ok_at at_stop_line (λ line. ends_with (said_by line)) _ _ _ c.stepping.invariant.same c.stop_line-2.ensures.went)

pub returns-then-not-stepped-clause-keeps : goal.returns-then-not-stepped-clause-keeps
returns-then-not-stepped-clause-keeps g c =
    goes_at (c.in_ok-stepped.ensures.hart ∙ c.stepping.invariant.same) (omega (arith, c.stepping.invariant.later, c.one_step.ensures.keeps.later))
    (c.one_step.ensures.keeps.fixed ∙ c.stepping.invariant.fixed) c.stop_line.ensures.keeps

pub returns-clause-keeps : goal.returns-clause-keeps
returns-clause-keeps g c = goes_at c.stepping.invariant.same c.stepping.invariant.later c.stepping.invariant.fixed c.stop_line-2.ensures.keeps

pub returns-in_err-stepped-clause-cut : goal.returns-in_err-stepped-clause-cut
returns-in_err-stepped-clause-cut g c =
    if_err _ c.in_err-stepped.field-0.0 _ c.from_residual.ensures.1
    (next_step_cut c.args.count c.stepping._step c.args.halted.number c.args.table.now (told (g.D.Dmi.seen c.args.link.now))
    (told (g.D.Dmi.seen c.stepping.link)) (told (g.D.Dmi.seen c.one_step.new.link)) c.in_err-stepped.field-0.0
    c.stepping-test.true c.stepping.invariant.steps
    (subst (λ n. CutsOf c.args.table.now (at_one_of c.args.table.now.addresses n) (told (g.D.Dmi.seen c.stepping.link))
    (told (g.D.Dmi.seen c.one_step.new.link)) c.in_err-stepped.field-0.0)
    c.stepping.invariant.same c.in_err-stepped.ensures.cut))

pub returns-then-not-stepped-clause-cut : goal.returns-then-not-stepped-clause-cut
returns-then-not-stepped-clause-cut g c =
    if_err_map _ _ _ (λ f falls. stopped_cut c.args.count c.stepping._step c.args.halted.number c.args.table.now _ _ (told (g.D.Dmi.seen c.args.link.now))
    (told (g.D.Dmi.seen c.stepping.link)) (told (g.D.Dmi.seen c.one_step.new.link))
    (told (g.D.Dmi.seen c.stop_line.new.link)) f c.stepping-test.true c.stepping.invariant.steps
    (subst (λ b. OneLed c.args.halted.number c.args.table.now (told (g.D.Dmi.seen c.stepping.link)) (told (g.D.Dmi.seen c.one_step.new.link)) b)
    (other_by c.in_ok-stepped.stepped.is_whole c.if-not-stepped.true)
    (subst (λ n. OneLed n c.args.table.now (told (g.D.Dmi.seen c.stepping.link)) (told (g.D.Dmi.seen c.one_step.new.link)) c.in_ok-stepped.stepped.is_whole)
    c.stepping.invariant.same c.in_ok-stepped.ensures.led)) falls)
    (err_at at_stop_line _ _ _ _ _ (c.in_ok-stepped.ensures.hart ∙ c.stepping.invariant.same) c.stop_line.ensures.falls)

pub returns-clause-cut : goal.returns-clause-cut
returns-clause-cut g c =
    if_err_map _ _ _ (λ f falls. all_made_cut c.args.count c.stepping._step c.args.halted.number c.args.table.now _ _ (told (g.D.Dmi.seen c.args.link.now))
    (told (g.D.Dmi.seen c.stepping.link)) (told (g.D.Dmi.seen c.stop_line-2.new.link)) f
    (omega arith) c.stepping.invariant.steps falls) (err_at at_stop_line _ _ _ _ _ c.stepping.invariant.same c.stop_line-2.ensures.falls)

pub returns-in_err-stepped-clause-caused : goal.returns-in_err-stepped-clause-caused
returns-in_err-stepped-clause-caused g c =
    since_err ⊥ c.in_err-stepped.field-0.0 (g.D.Dmi.seen c.args.link.now) (g.D.Dmi.seen c.stepping.link) (g.D.Dmi.seen c.one_step.new.link) _
    c.from_residual.ensures.1 c.stepping.invariant.later c.one_step.ensures.keeps.later
    (c.in_err-stepped.ensures.caused)

pub returns-then-not-stepped-clause-caused : goal.returns-then-not-stepped-clause-caused
returns-then-not-stepped-clause-caused g c =
    last_fell (at_stop_line c.in_ok-stepped.stepped.halted.number) any_plan (g.D.Dmi.seen c.args.link.now) (g.D.Dmi.seen c.one_step.new.link)
    (g.D.Dmi.seen c.stop_line.new.link) _
    (omega (arith, c.stepping.invariant.later, c.one_step.ensures.keeps.later)) c.stop_line.ensures.keeps.later c.stop_line.ensures.falls

pub returns-clause-caused : goal.returns-clause-caused
returns-clause-caused g c =
    last_fell (at_stop_line c.stepping.now.number) any_plan (g.D.Dmi.seen c.args.link.now) (g.D.Dmi.seen c.stepping.link)
    (g.D.Dmi.seen c.stop_line-2.new.link) _
    c.stepping.invariant.later c.stop_line-2.ensures.keeps.later c.stop_line-2.ensures.falls
