use Rattle.debug_model.proofs.RiseLemmas.{within_none, within_then}
use Rattle.soft_break.proofs.HartCounts.{none_same, none_below, one_same, one_below, prepare_within, seen_halted}
use Rattle.std.proofs.Common.{◌∙◌, refl, arith, ◌+◌, ◌*◌}
use Rattle.probe_run.specs.Told.{told}
use Rattle.probe_access.specs.StepRuns.{of_run}
use Rattle.soft_break.specs.Preparing.AllSet.{up_to}
use Rattle.soft_break.specs.Preparing.SetBelow.{none}
use Rattle.soft_break.proofs.PrepareSteps.{err_handed, look_failed, look_of, runs_at, set_more, setting_failed}
use Rattle.soft_break.proofs.preparing.prepare.Goals as goal

pub harts-init : goal.harts-init
harts-init g c = record {
  callable = c.requires.callable;
  ready = c.requires.ready;
  stands = λ some. absurd (omega (arith, some));
  set = none;
  later = omega arith;
  fixed = refl;
  same = none_same (g.D.Dmi.seen c.args.link.now).far;
  below = none_below (g.D.Dmi.seen c.args.link.now).far;
  rises = within_none 0 (g.D.Dmi.seen c.args.link.now) (g.D.Dmi.seen c.args.link.now) refl;
}

pub returns-in_err-look-clause-failed : goal.returns-in_err-look-clause-failed
returns-in_err-look-clause-failed g c =
    err_handed _ (of_run c.in_err-look.field-0.0) _ c.from_residual.ensures.1
    (look_failed c.harts.hart (g.D.Dmi.seen c.harts.link).fault_count (g.D.Dmi.seen c.look.new.link).fault_count _ _ _ (told (g.D.Dmi.seen c.look.new.link))
    c.in_err-look.field-0.0 (omega (arith, c.harts-test.true)) c.harts.invariant.set c.harts.invariant.later c.look.ensures.keeps.later
    c.in_err-look.ensures.fails c.in_err-look.ensures.left)

pub returns-in-Absent-clause-prepared : goal.returns-in-Absent-clause-prepared
returns-in-Absent-clause-prepared g c = up_to (omega (arith, c.harts-test.true)) c.harts.invariant.set (look_of c.harts.hart _ _ c.in-Absent.is
    c.in_ok-look.ensures.did c.in_ok-look.ensures.happened)

pub returns-in-Running-clause-prepared : goal.returns-in-Running-clause-prepared
returns-in-Running-clause-prepared g c =
    runs_at c.harts.hart c.in-Running.field-0 _ _ _ (omega (arith, c.harts-test.true)) c.harts.invariant.set
    (look_of c.harts.hart _ _ c.in-Running.is c.in_ok-look.ensures.did c.in_ok-look.ensures.happened)

pub returns-in_err-set_ebreakm-in-Halted-clause-failed : goal.returns-in_err-set_ebreakm-in-Halted-clause-failed
returns-in_err-set_ebreakm-in-Halted-clause-failed g c =
    err_handed _ c.in_err-set_ebreakm-in-Halted.field-0.0 _ c.from_residual-in_err-set_ebreakm-in-Halted.ensures.1
    (setting_failed c.harts.hart (g.D.Dmi.seen c.look.new.link).fault_count (g.D.Dmi.seen c.set_ebreakm.new.link).fault_count _ c.in-Halted.halted _ _
    (told (g.D.Dmi.seen c.look.new.link)) (told (g.D.Dmi.seen c.set_ebreakm.new.link)) c.in_err-set_ebreakm-in-Halted.field-0.0
    (omega (arith, c.harts-test.true)) c.harts.invariant.set
    (look_of c.harts.hart _ _ c.in-Halted.is c.in_ok-look.ensures.did c.in_ok-look.ensures.happened)
    (omega (arith, c.harts.invariant.later, c.look.ensures.keeps.later)) c.in_err-set_ebreakm-in-Halted.ensures.failed)

pub harts-preserved : goal.harts-preserved
harts-preserved g c = record {
  callable = record { alive = c.in_ok-set_ebreakm-in-Halted.ensures.keeps.behind.alive; link = c.in_ok-set_ebreakm-in-Halted.ensures.keeps.behind.link };
  ready = c.in_ok-set_ebreakm-in-Halted.ensures.serving.ready;
  stands = λ some. c.in_ok-set_ebreakm-in-Halted.ensures.keeps.behind;
  set = set_more c.harts.hart c.in-Halted.halted _ _ (told (g.D.Dmi.seen c.look.new.link)) (told (g.D.Dmi.seen c.set_ebreakm.new.link))
      c.harts.invariant.set
      (look_of c.harts.hart _ _ c.in-Halted.is c.in_ok-look.ensures.did c.in_ok-look.ensures.happened) c.in_ok-set_ebreakm-in-Halted.ensures.set;
  later = omega (arith, c.harts.invariant.later, c.look.ensures.keeps.later, c.set_ebreakm.ensures.keeps.later);
  fixed = c.set_ebreakm.ensures.keeps.fixed ∙ c.look.ensures.keeps.fixed ∙ c.harts.invariant.fixed;
  same = one_same c.harts.hart c.in-Halted.halted (told (g.D.Dmi.seen c.args.link.now)) (told (g.D.Dmi.seen c.harts.link)) (told (g.D.Dmi.seen
      c.look.new.link)) (told (g.D.Dmi.seen c.set_ebreakm.new.link)) c.harts.invariant.same
      (look_of c.harts.hart _ _ c.in-Halted.is c.in_ok-look.ensures.did c.in_ok-look.ensures.happened) c.in_ok-set_ebreakm-in-Halted.ensures.set;
  below = one_below c.harts.hart c.in-Halted.halted (told (g.D.Dmi.seen c.args.link.now)) (told (g.D.Dmi.seen c.harts.link)) (told (g.D.Dmi.seen
      c.look.new.link)) c.harts.invariant.same
      (look_of c.harts.hart _ _ c.in-Halted.is c.in_ok-look.ensures.did c.in_ok-look.ensures.happened) (seen_halted _ _ _ c.in-Halted.is
      c.in_ok-look.ensures.seen);
  rises = within_then (26 * c.harts.hart + 2) 24 (26 * (c.harts.hart + 1)) _ (g.D.Dmi.seen c.look.new.link) _
      (within_then (26 * c.harts.hart) 2 (26 * c.harts.hart + 2) _ (g.D.Dmi.seen c.harts.link) _ c.harts.invariant.rises c.look.ensures.rises
      c.harts.invariant.fixed (omega arith)) c.set_ebreakm.ensures.rises
      (c.look.ensures.keeps.fixed ∙ c.harts.invariant.fixed) (omega arith);
}

pub returns-in_err-look-clause-rises : goal.returns-in_err-look-clause-rises
returns-in_err-look-clause-rises g c =
    prepare_within (26 * c.harts.hart + 2) c.harts.hart _ _ (within_then (26 * c.harts.hart) 2 (26 * c.harts.hart + 2) _ (g.D.Dmi.seen c.harts.link) _
    c.harts.invariant.rises c.look.ensures.rises c.harts.invariant.fixed (omega arith)) (omega arith) c.harts.invariant.below

pub returns-in-Absent-clause-rises : goal.returns-in-Absent-clause-rises
returns-in-Absent-clause-rises g c =
    prepare_within (26 * c.harts.hart + 2) c.harts.hart _ _ (within_then (26 * c.harts.hart) 2 (26 * c.harts.hart + 2) _ (g.D.Dmi.seen c.harts.link) _
    c.harts.invariant.rises c.look.ensures.rises c.harts.invariant.fixed (omega arith)) (omega arith) c.harts.invariant.below

pub returns-in-Running-clause-rises : goal.returns-in-Running-clause-rises
returns-in-Running-clause-rises g c =
    prepare_within (26 * c.harts.hart + 2) c.harts.hart _ _ (within_then (26 * c.harts.hart) 2 (26 * c.harts.hart + 2) _ (g.D.Dmi.seen c.harts.link) _
    c.harts.invariant.rises c.look.ensures.rises c.harts.invariant.fixed (omega arith)) (omega arith) c.harts.invariant.below

pub returns-in_err-set_ebreakm-in-Halted-clause-rises : goal.returns-in_err-set_ebreakm-in-Halted-clause-rises
returns-in_err-set_ebreakm-in-Halted-clause-rises g c =
    prepare_within (26 * (c.harts.hart + 1)) (c.harts.hart + 1) _ _
    (within_then (26 * c.harts.hart + 2) 24 (26 * (c.harts.hart + 1)) _ (g.D.Dmi.seen c.look.new.link) _
    (within_then (26 * c.harts.hart) 2 (26 * c.harts.hart + 2) _ (g.D.Dmi.seen c.harts.link) _ c.harts.invariant.rises c.look.ensures.rises
    c.harts.invariant.fixed (omega arith)) c.set_ebreakm.ensures.rises
    (c.look.ensures.keeps.fixed ∙ c.harts.invariant.fixed) (omega arith)) (omega arith)
    (one_below c.harts.hart c.in-Halted.halted (told (g.D.Dmi.seen c.args.link.now)) (told (g.D.Dmi.seen c.harts.link)) (told (g.D.Dmi.seen
    c.look.new.link)) c.harts.invariant.same
    (look_of c.harts.hart _ _ c.in-Halted.is c.in_ok-look.ensures.did c.in_ok-look.ensures.happened) (seen_halted _ _ _ c.in-Halted.is
    c.in_ok-look.ensures.seen))

pub returns-clause-rises : goal.returns-clause-rises
returns-clause-rises g c =
    prepare_within (26 * c.harts.hart) c.harts.hart _ _ c.harts.invariant.rises (omega arith) c.harts.invariant.below
