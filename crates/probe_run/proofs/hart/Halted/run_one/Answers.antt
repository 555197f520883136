use Rattle.probe_run.specs.Told.{told}
use Rattle.std.proofs.Common.{◌∙◌, sym, arith}
use Rattle.abstract_debugger.specs.Debugger.{sees_both}
use Rattle.probe_run.specs.declared.control.Request.TheVariants.{Resume}
use Rattle.probe_run.specs.declared.wait.Wanted.TheVariants as Wanted
use Rattle.probe_run.specs.Happens.{StepLeft}
use Rattle.probe_run.specs.Looks.{seen_in}
use Rattle.probe_run.proofs.ActLemmas.{if_err}
use Rattle.probe_run.proofs.Asked.{asked_shown, asked_unshown}
use Rattle.probe_run.proofs.Halting.{can_run_halted}
use Rattle.probe_run.proofs.Resuming.{go_broke, go_missed_at, step_happened, step_ready, step_selects, step_halted}
use Rattle.probe_run.specs.Soon.{NeverInVain, VainLooks}
use Rattle.probe_run.proofs.Soon.{can_step, step_unpaced}
use Rattle.probe_run.proofs.SoonCalls.{within_soon}
use Rattle.probe_run.proofs.hart.Halted.run_one.Goals as goal

pub returns-in_err-ask-clause-left : goal.returns-in_err-ask-clause-left
returns-in_err-ask-clause-left g c =
    if_err (StepLeft c.args.self.number (g.D.Dmi.seen c.args.link.now).far (g.D.Dmi.seen c.ask.new.link).far) c.from_residual.result _ c.from_residual.ensures.1
    (go_broke sees_both c.args.self.number c.args.self.within _ _ (told (g.D.Dmi.seen c.args.link.now)) _ _
    (can_run_halted c.args.self.number _ c.requires.ready c.requires.halted) c.in_err-ask.ensures.broke)

pub returns-in-Shown-clause-happened : goal.returns-in-Shown-clause-happened
returns-in-Shown-clause-happened g c =
    step_happened c.args.self.number c.args.self.within (told (g.D.Dmi.seen c.args.link.now)) (told (g.D.Dmi.seen c.ask.new.link))
    (can_run_halted c.args.self.number _ c.requires.ready c.requires.halted)
    (asked_shown Resume c.args.self.number Wanted.Both _ _ c.in_ok-ask.field-0 c.in-Shown.is c.in_ok-ask.ensures.asked)

pub returns-in-Shown-clause-ready : goal.returns-in-Shown-clause-ready
returns-in-Shown-clause-ready g c =
    step_ready c.args.self.number c.args.self.within (told (g.D.Dmi.seen c.args.link.now)) (told (g.D.Dmi.seen c.ask.new.link))
    (can_run_halted c.args.self.number _ c.requires.ready c.requires.halted)
    (asked_shown Resume c.args.self.number Wanted.Both _ _ c.in_ok-ask.field-0 c.in-Shown.is c.in_ok-ask.ensures.asked)

pub returns-in-Shown-clause-selects : goal.returns-in-Shown-clause-selects
returns-in-Shown-clause-selects g c =
    step_selects c.args.self.number c.args.self.within (told (g.D.Dmi.seen c.args.link.now)) (told (g.D.Dmi.seen c.ask.new.link))
    (can_run_halted c.args.self.number _ c.requires.ready c.requires.halted)
    (asked_shown Resume c.args.self.number Wanted.Both _ _ c.in_ok-ask.field-0 c.in-Shown.is c.in_ok-ask.ensures.asked)

pub returns-in-Shown-clause-halted : goal.returns-in-Shown-clause-halted
returns-in-Shown-clause-halted g c =
    step_halted c.args.self.number c.args.self.within (told (g.D.Dmi.seen c.args.link.now)) (told (g.D.Dmi.seen c.ask.new.link))
    (can_run_halted c.args.self.number _ c.requires.ready c.requires.halted)
    (asked_shown Resume c.args.self.number Wanted.Both _ _ c.in_ok-ask.field-0 c.in-Shown.is c.in_ok-ask.ensures.asked)

pub returns-in-Unshown-true-clause-left : goal.returns-in-Unshown-true-clause-left
returns-in-Unshown-true-clause-left g c =
    let m = asked_unshown Resume c.args.self.number Wanted.Both (told (g.D.Dmi.seen c.args.link.now)) (told (g.D.Dmi.seen c.ask.new.link)) c.in_ok-ask.field-0
    _ c.in-Unshown-true.is c.in_ok-ask.ensures.asked in (
      seen_in m.0,
      sym m.2 ∙ c.in-Unshown-true.acknowledged-test,
      go_missed_at sees_both c.args.self.number c.args.self.within m.0
          (told (g.D.Dmi.seen c.args.link.now)) (told (g.D.Dmi.seen c.ask.new.link)) (can_run_halted c.args.self.number _ c.requires.ready c.requires.halted)
          m.1,
    )

pub returns-in-Unshown-false-clause-left : goal.returns-in-Unshown-false-clause-left
returns-in-Unshown-false-clause-left g c =
    let m = asked_unshown Resume c.args.self.number Wanted.Both (told (g.D.Dmi.seen c.args.link.now)) (told (g.D.Dmi.seen c.ask.new.link)) c.in_ok-ask.field-0
    _ c.in-Unshown-false.is c.in_ok-ask.ensures.asked in (
      seen_in m.0,
      sym m.2 ∙ c.in-Unshown-false.acknowledged-test,
      go_missed_at sees_both c.args.self.number c.args.self.within m.0
          (told (g.D.Dmi.seen c.args.link.now)) (told (g.D.Dmi.seen c.ask.new.link)) (can_run_halted c.args.self.number _ c.requires.ready c.requires.halted)
          m.1,
    )

pub returns-in_err-ask-clause-soon : goal.returns-in_err-ask-clause-soon
returns-in_err-ask-clause-soon g c =
    λ set. within_soon 3 65 (VainLooks 2 Resume sees_both c.args.self.number (told (g.D.Dmi.seen c.args.link.now))) (g.D.Dmi.seen c.args.link.now) (g.D.Dmi.seen c.ask.new.link) (c.ask.ensures.soon 2 (omega arith))
    c.ask.ensures.rises (λ v. step_unpaced c.args.self.number c.args.self.within (told (g.D.Dmi.seen c.args.link.now)) (can_step c.args.self.number _ c.requires.ready c.requires.halted set) v)

pub returns-in-Shown-clause-soon : goal.returns-in-Shown-clause-soon
returns-in-Shown-clause-soon g c =
    λ set. within_soon 3 65 (VainLooks 2 Resume sees_both c.args.self.number (told (g.D.Dmi.seen c.args.link.now))) (g.D.Dmi.seen c.args.link.now) (g.D.Dmi.seen c.ask.new.link) (c.ask.ensures.soon 2 (omega arith))
    c.ask.ensures.rises (λ v. step_unpaced c.args.self.number c.args.self.within (told (g.D.Dmi.seen c.args.link.now)) (can_step c.args.self.number _ c.requires.ready c.requires.halted set) v)

pub returns-in-Unshown-true-clause-soon : goal.returns-in-Unshown-true-clause-soon
returns-in-Unshown-true-clause-soon g c =
    λ set. within_soon 3 65 (VainLooks 2 Resume sees_both c.args.self.number (told (g.D.Dmi.seen c.args.link.now))) (g.D.Dmi.seen c.args.link.now) (g.D.Dmi.seen c.ask.new.link) (c.ask.ensures.soon 2 (omega arith))
    c.ask.ensures.rises (λ v. step_unpaced c.args.self.number c.args.self.within (told (g.D.Dmi.seen c.args.link.now)) (can_step c.args.self.number _ c.requires.ready c.requires.halted set) v)

pub returns-in-Unshown-false-clause-soon : goal.returns-in-Unshown-false-clause-soon
returns-in-Unshown-false-clause-soon g c =
    λ set. within_soon 3 65 (VainLooks 2 Resume sees_both c.args.self.number (told (g.D.Dmi.seen c.args.link.now))) (g.D.Dmi.seen c.args.link.now) (g.D.Dmi.seen c.ask.new.link) (c.ask.ensures.soon 2 (omega arith))
    c.ask.ensures.rises (λ v. step_unpaced c.args.self.number c.args.self.within (told (g.D.Dmi.seen c.args.link.now)) (can_step c.args.self.number _ c.requires.ready c.requires.halted set) v)

pub returns-in_err-ask-clause-never : goal.returns-in_err-ask-clause-never
returns-in_err-ask-clause-never g c = λ set. if_err (NeverInVain (g.D.Dmi.seen c.args.link.now)) c.from_residual.result _ c.from_residual.ensures.1 c.in_err-ask.ensures.never

pub returns-in-Unshown-true-clause-never : goal.returns-in-Unshown-true-clause-never
returns-in-Unshown-true-clause-never g c =
    λ set. step_unpaced c.args.self.number c.args.self.within (told (g.D.Dmi.seen c.args.link.now)) (can_step c.args.self.number _ c.requires.ready c.requires.halted set)
    ((rw (c.in-Unshown-true.is) at c.in_ok-ask.ensures.vain) 2 (omega arith) (omega arith))

pub returns-in-Unshown-false-clause-never : goal.returns-in-Unshown-false-clause-never
returns-in-Unshown-false-clause-never g c =
    λ set. step_unpaced c.args.self.number c.args.self.within (told (g.D.Dmi.seen c.args.link.now)) (can_step c.args.self.number _ c.requires.ready c.requires.halted set)
    ((rw (c.in-Unshown-false.is) at c.in_ok-ask.ensures.vain) 2 (omega arith) (omega arith))
